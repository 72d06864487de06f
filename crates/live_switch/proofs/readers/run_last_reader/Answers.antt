use Rattle.std.proofs.Common.{◌≡◌, [], Option, subst, rules}
use denote.Param.Send.{sendable}
use Rattle.control_reader.specs.Heard.{lines_put}
use Rattle.control_reader.specs.declared.reader.LineReader.{LineReader}
use Rattle.live_switch.specs.Filled.{IsLineUnfilled}
use Rattle.live_switch.specs.Ran.{CanStart}
use Rattle.live_switch.proofs.readers.run_last_reader.Goals as goal

pub join-left-requires-after_bounds : goal.join-left-requires-after_bounds
join-left-requires-after_bounds g c κs within =
    let unfilled : lines_put c.in-Some.reader.filler ≡ [] =
    subst (λ (o : Option (LineReader g.row.S.Denot g.row.C.Denot)). IsLineUnfilled o) c.in-Some.is c.requires.unfilled in
    let start : CanStart c.args.start = c.requires.start in
    let send_s = c.type_bounds.send-S in
    let send_k = c.type_bounds.send-K in
    let send_c = c.type_bounds.send-C in
    let sync_r = c.type_bounds.sync-R in
    let sync_g = c.type_bounds.sync-G in
    search (rules, sendable)
