use Rattle.std.proofs.Common.{◌≡◌, Some, lit<, refl, sym, ◌∙◌}
use Rattle.std.proofs.lemmas.Bool.{false≢true}
use Rattle.std.specs.List.{slice_get}
use Rattle.savi_kinds.proofs.VlanSets.{added_new, added_there, fits_new, left_new, place_within}
use Rattle.savi_kinds.proofs.vlan.add_vlan.Goals as goal

pub returns-then-is_at-clause-added : goal.returns-then-is_at-clause-added
returns-then-is_at-clause-added c =
    let few = rw c.as_slice.ensures.value at c.as_slice.ensures.fits in
    let same = added_there c.args.vlans.now.items c.args.vlan _ (rw c.as_slice.ensures.value at c.place_of-place.ensures) (rw c.as_slice-2.ensures.value at (c.is_at.ensures.0 c.if-is_at.true)) in
    (λ _. rw same few, λ _. refl)

pub returns-then-is_at-clause-vlans : goal.returns-then-is_at-clause-vlans
returns-then-is_at-clause-vlans c =
    sym (added_there c.args.vlans.now.items c.args.vlan _ (rw c.as_slice.ensures.value at c.place_of-place.ensures) (rw c.as_slice-2.ensures.value at (c.is_at.ensures.0 c.if-is_at.true)))

pub try_insert-requires : goal.try_insert-requires
try_insert-requires c = (lit< tt, rw (c.place_of-place.ensures, c.as_slice.ensures.value) (place_within c.args.vlan c.args.vlans.now.items))

pub returns-clause-added : goal.returns-clause-added
returns-clause-added c =
    let other : slice_get c.args.vlans.now.items c.place_of-place.result ≡ Some c.args.vlan → ⊥ = λ found. false≢true (sym c.if-is_at.false ∙ c.is_at.ensures.1 (rw c.as_slice-2.ensures.value found)) in
    let new = added_new c.args.vlans.now.items c.args.vlan _ (rw c.as_slice.ensures.value at c.place_of-place.ensures) other in
    rw c.is_ok.ensures.value (fits_new c.args.vlans.now.items c.args.vlan _ c.try_insert.result c.try_insert.ensures.variant new (rw (c.place_of-place.ensures, c.as_slice.ensures.value) (place_within c.args.vlan c.args.vlans.now.items)))

pub returns-clause-vlans : goal.returns-clause-vlans
returns-clause-vlans c =
    let other : slice_get c.args.vlans.now.items c.place_of-place.result ≡ Some c.args.vlan → ⊥ = λ found. false≢true (sym c.if-is_at.false ∙ c.is_at.ensures.1 (rw c.as_slice-2.ensures.value found)) in
    let new = added_new c.args.vlans.now.items c.args.vlan _ (rw c.as_slice.ensures.value at c.place_of-place.ensures) other in
    rw c.is_ok.ensures.value (left_new c.args.vlans.now c.try_insert.new.self c.args.vlan _ c.try_insert.result c.try_insert.ensures.ok c.try_insert.ensures.err new)
