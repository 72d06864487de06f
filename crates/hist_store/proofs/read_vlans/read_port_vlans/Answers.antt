use Rattle.std.proofs.Common.{ℕ, ◌≡◌, List, [], ◌∷◌, ◌++◌, length, get_or, codes, decimal, Some, IsSomeAnd, Option, None, sym, ap, ◌∙◌, inl, inr, arith}
use Rattle.std.proofs.lemmas.Bool.{cases_eq}
use Rattle.std.proofs.lemmas.List.{append-nil}
use Rattle.std.proofs.lemmas.Option.{none-some}
use Rattle.arrayvec.specs.ArrayVec.{ArrayVec}
use Rattle.savi_kinds.specs.declared.plan.Vlan.{Vlan}
use Rattle.savi_kinds.specs.declared.plan.Vlan.TheVariants.{Access, Trunk}
use Rattle.savi_kinds.specs.Vlans.{IsVlan}
use Rattle.hist_store.specs.TextOfLines.{spaced}
use Rattle.hist_store.specs.VlanTexts.{AreVlans, port_vlan_fields, vlan_fields, vlans_text}
use Rattle.hist_store.proofs.VlanLines.{list_of, none_begun, nothing_said, number_said, of_list, one_begun}
use Rattle.std.proofs.lemmas.List.Elements.{All-head}
use Rattle.hist_store.proofs.read_vlans.read_port_vlans.Goals as goal

-- what is said of a trunk
trunk_said : (numbers : List ℕ) (text : List ℕ) → text ≡ spaced (codes "trunk" ∷ vlans_text numbers ∷ []) → text ≡ codes " trunk " ++ vlans_text numbers
trunk_said numbers text is = is ∙ ap (λ (t : List ℕ). codes " trunk " ++ t) (append-nil (vlans_text numbers))

-- what is said of an access port doesn't begin with `trunk`
not_trunk : (vlan : ℕ) (text rest : List ℕ) → text ≡ spaced (vlan_fields vlan) → text ≡ codes " trunk " ++ rest → ⊥
not_trunk vlan text rest is begins =
    elim (cases_eq vlan 1) [
      | inl first ↦ nothing (sym begins ∙ is ∙ ap spaced (nothing_said vlan first))
      | inr other ↦ another (sym begins ∙ is ∙ ap spaced (number_said vlan other))
    ]
  where
    nothing : codes " trunk " ++ rest ≡ [] → ⊥
    nothing e = let empty : length (codes " trunk " ++ rest) ≡ 0 = ap length e in omega (arith, empty)

    another : codes " trunk " ++ rest ≡ spaced (codes "vlan" ∷ decimal vlan ∷ []) → ⊥
    another e = let letter : 116 ≡ 118 = ap (λ (t : List ℕ). get_or t 1 0) e in omega (arith, letter)

read_as : (numbers : List ℕ) (o : Option (ArrayVec ℕ)) → IsSomeAnd o (λ vlans. vlans.items ≡ numbers) → (vs : ArrayVec ℕ) → o ≡ Some vs → vs.items ≡ numbers
read_as numbers None is vs e = absurd (none-some vs e)
read_as numbers (Some ws) is vs e = let same : ws ≡ vs = cc in ap (λ (v : ArrayVec ℕ). v.items) (sym same) ∙ is

pub read_numbers-requires : goal.read_numbers-requires
read_numbers-requires c = none_begun c.new.result.items c.new.ensures

pub returns-in_err-numbers-in-Some-clause-whole : goal.returns-in_err-numbers-in-Some-clause-whole
returns-in_err-numbers-in-Some-clause-whole c = rw c.from_residual.ensures (λ vlan are is. whole vlan are is)
  where
    whole : (vlan : Vlan) → AreVlans vlan → c.args.text.now ≡ spaced (port_vlan_fields vlan) → None ≡ Some vlan
    whole (Access v) are is = absurd (not_trunk v c.args.text.now c.in-Some.numbers.now is c.in-Some.ensures.read)
    whole (Trunk vs) are is = absurd (c.in_err-numbers-in-Some.ensures.whole vs.items (rw c.new.ensures (list_of vs.items c.in-Some.numbers.now are.0 are.1 (c.in-Some.ensures.whole (vlans_text vs.items) (trunk_said vs.items c.args.text.now is)))))

pub returns-in_ok-numbers-in-Some-clause-read : goal.returns-in_ok-numbers-in-Some-clause-read
returns-in_ok-numbers-in-Some-clause-read c =
    let numbers = c.in_ok-numbers-in-Some.numbers.items in
    let listed = of_list numbers c.in-Some.numbers.now (rw c.new.ensures at c.in_ok-numbers-in-Some.ensures.read) in
    (c.in-Some.ensures.read ∙ ap (λ (t : List ℕ). codes " trunk " ++ t) (listed.0 ∙ sym (append-nil (vlans_text numbers))), listed.1)

pub returns-in_ok-numbers-in-Some-clause-whole : goal.returns-in_ok-numbers-in-Some-clause-whole
returns-in_ok-numbers-in-Some-clause-whole c = λ vlan are is. whole vlan are is
  where
    whole : (vlan : Vlan) → AreVlans vlan → c.args.text.now ≡ spaced (port_vlan_fields vlan) → Some (Trunk c.in_ok-numbers-in-Some.numbers) ≡ Some vlan
    whole (Access v) are is = absurd (not_trunk v c.args.text.now c.in-Some.numbers.now is c.in-Some.ensures.read)
    whole (Trunk vs) are is =
        let read = c.in_ok-numbers-in-Some.ensures.whole vs.items (rw c.new.ensures (list_of vs.items c.in-Some.numbers.now are.0 are.1 (c.in-Some.ensures.whole (vlans_text vs.items) (trunk_said vs.items c.args.text.now is)))) in
        ap (λ (items : List ℕ). Some (Trunk (record { items = items }))) read

pub returns-in_err-number-in-None-clause-whole : goal.returns-in_err-number-in-None-clause-whole
returns-in_err-number-in-None-clause-whole c = rw c.from_residual-in_err-number-in-None.ensures (λ vlan are is. whole vlan are is)
  where
    whole : (vlan : Vlan) → AreVlans vlan → c.args.text.now ≡ spaced (port_vlan_fields vlan) → None ≡ Some vlan
    whole (Access v) are is = absurd (none-some v (c.in_err-number-in-None.ensures.whole v (All-head IsVlan v [] are.0.vlans) is))
    whole (Trunk vs) are is = absurd (c.in-None.ensures.whole (vlans_text vs.items) (trunk_said vs.items c.args.text.now is))

pub returns-in_ok-number-in-None-clause-read : goal.returns-in_ok-number-in-None-clause-read
returns-in_ok-number-in-None-clause-read c = (c.in_ok-number-in-None.ensures.read.0, one_begun c.in_ok-number-in-None.number c.in_ok-number-in-None.ensures.read.1)

pub returns-in_ok-number-in-None-clause-whole : goal.returns-in_ok-number-in-None-clause-whole
returns-in_ok-number-in-None-clause-whole c = λ vlan are is. whole vlan are is
  where
    whole : (vlan : Vlan) → AreVlans vlan → c.args.text.now ≡ spaced (port_vlan_fields vlan) → Some (Access c.in_ok-number-in-None.number) ≡ Some vlan
    whole (Access v) are is =
        let read = c.in_ok-number-in-None.ensures.whole v (All-head IsVlan v [] are.0.vlans) is in
        let same : c.in_ok-number-in-None.number ≡ v = cc read in
        ap (λ (n : ℕ). Some (Access n)) same
    whole (Trunk vs) are is = absurd (c.in-None.ensures.whole (vlans_text vs.items) (trunk_said vs.items c.args.text.now is))
