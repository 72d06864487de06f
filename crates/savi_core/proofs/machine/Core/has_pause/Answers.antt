use Rattle.std.proofs.Common.{ℕ, ◌+◌, map, ap, ◌∙◌}
use Rattle.std.specs.Prelude.{nat_lt, reverse}
use Rattle.std.specs.Option.{is_some}
use Rattle.checkpoint.specs.Columns.{kept_base as base_kept}
use Rattle.savi_history.specs.Endings.{has_pause}
use Rattle.savi_history.specs.Passes.{control_pass}
use Rattle.savi_core.specs.Machines.{Machine}
use Rattle.savi_core.specs.PassMarks.{open_among}
use Rattle.savi_core.proofs.Pausing.{pause_told}
use Rattle.savi_core.proofs.machine.Core.has_pause.Goals as goal

pub returns : goal.returns
returns c =
    let inside = c.self.inside in
    let was = c.self.invariant.0 in
    let left : ℕ → ℕ = open_among inside.passes.ended in
    let over : ℕ → ℕ = open_among (map is_some inside.ends.ends) in
    ap (λ (n : ℕ). nat_lt n c.inputs_left-2.result) c.inputs_left.ensures
    ∙ ap (λ (n : ℕ). nat_lt (left inside.passes.inputs) n) c.inputs_left-2.ensures
    ∙ ap (λ (n : ℕ). nat_lt (left n) (over inside.ends.inputs)) c.self.invariant.3
    ∙ ap (λ (n : ℕ). nat_lt (left (control_pass inside.ports + 1)) (over n)) c.self.invariant.7.inputs
    ∙ pause_told inside.ports (base_kept inside.checkpoint) (reverse inside.hist.rows) was.legal inside.passes.ended inside.ends.ends was.passes c.self.invariant.7.ends
    ∙ ap (λ (m : Machine). has_pause m.past) c.self.view_is
