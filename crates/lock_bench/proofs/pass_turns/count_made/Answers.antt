use Rattle.std.proofs.Common.{ℕ, List, length, ap, ◌∙◌}
use Rattle.lock_bench.proofs.Filling.{filled}
use Rattle.lock_bench.proofs.pass_turns.count_made.Goals as goal

pub returns : goal.returns
returns c =
    let e = c.close-tally.ensures in
    let n = c.numbers.ensures in
    ap (λ (l : List ℕ). length l) n.numbers ∙ filled c.args.lock c.args.passes.items c.close-tally.result c.requires.filled e.entries e.begins e.numbers e.fixed n.room
