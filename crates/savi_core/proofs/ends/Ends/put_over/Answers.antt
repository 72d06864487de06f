use Rattle.std.proofs.Common.{Bool, true, Some, List, set, sym, ap, ◌∙◌}
use Rattle.std.specs.Option.{is_some}
use Rattle.std.proofs.lemmas.List.{map-set}
use Rattle.savi_core.specs.PassMarks.{PassMarks}
use Rattle.savi_core.proofs.ends.Ends.put_over.Goals as goal

pub invariant_of-self : goal.invariant_of-self
invariant_of-self c =
    ap (λ (m : PassMarks). m.ended) c.end.ensures
    ∙ ap (λ (ended : List Bool). set ended c.args.pass true) c.self.invariant
    ∙ sym (map-set is_some c.self.inside.ends c.args.pass (Some c.args.how))
