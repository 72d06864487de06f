use Rattle.std.proofs.Common.{refl, sym, ◌∙◌}
use Rattle.savi_core.specs.Machines.{base_of}
use Rattle.journal_check.proofs.ShortFields.{the_row}
use Rattle.journal_check.proofs.Judging.{other_number}
use Rattle.journal_check.proofs.turns.judge_numbered.Goals as goal

pub returns-else-n-len : goal.returns-else-n-len
returns-else-n-len c =
    let m = c.args.core.now in
    let row = the_row c.args.entry.now c.args.octets.now in
    (other_number m.plan (base_of m) m.past c.args.line.now c.args.n row c.requires (λ same. c.if-n-len.false (same ∙ sym c.len.ensures.len)), refl)
