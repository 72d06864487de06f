use Rattle.std.proofs.Common.{◌∙◌, sym, ap, length}
use Rattle.std.proofs.lemmas.List.{length-reverse}
use Rattle.savi_core.specs.Machines.{Machine}
use Rattle.core_keep.proofs.PastsRead.{size_coded}
use Rattle.core_keep.proofs.keep.KeptCoreKept.entries.Goals as goal

pub returns-clause-count : goal.returns-clause-count
returns-clause-count c =
    c.len.ensures.len ∙ sym (length-reverse c.history.result.now.rows) ∙ ap length c.history.ensures.rows
    ∙ ap (λ (m : Machine). length m.past) c.deref.ensures ∙ sym (size_coded c.args.self.now.core.value.past)
