use Rattle.std.proofs.Common.{◌+◌, ◌-◌, ◌<◌, ◌≡◌, length, arith}
use Rattle.std.proofs.lemmas.Result.{on_ok_weaker}
use Rattle.load_gen.proofs.OneMore.{one_more}
use Rattle.load_gen.proofs.making.send.Goals as goal

pub returns : goal.returns
returns c =
    let place = c.from.result - 1 in
    let within : place < length c.args.captures.now = omega arith in
    let at : c.args.port ≡ place + 1 = omega arith in
    on_ok_weaker c.add.result
    (λ text all before. one_more c.args.captures.now all (record { port = c.args.port; sent = record { moment = c.args.moment; frame = c.args.frame.now } }) place c.add.new.self c.index-captures-from.result within c.requires.ports at text before)
    c.add.ensures
