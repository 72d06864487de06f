use Rattle.std.proofs.Common.{◌≡◌, ◌==◌, ℕ, Bool, true, false, Some, None, if◌then◌else◌, refl, ap, ◌∙◌}
use Rattle.std.specs.Bool.{then_some}
use Rattle.std.specs.List.{list_any}
use Rattle.savi_core.proofs.ports.taken_in.Goals as goal

some_if : (b : Bool) (v : ℕ) → then_some b v ≡ (if b then Some v else None)
some_if true v = refl
some_if false v = refl

pub returns-in-Trunk-Vid : goal.returns-in-Trunk-Vid
returns-in-Trunk-Vid c =
    rw (c.in-Trunk-Vid.is-0, c.in-Trunk-Vid.is-1) (
    c.then_some.ensures
    ∙ some_if c.contains.result c.in-Trunk-Vid.vlan
    ∙ ap (λ (b : Bool). if b then Some c.in-Trunk-Vid.vlan else None) (c.contains.ensures.value ∙ ap (list_any (λ v. v == c.in-Trunk-Vid.vlan)) c.as_slice.ensures.value)
    )
