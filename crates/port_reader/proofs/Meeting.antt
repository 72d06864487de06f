-- Reader and judge meet: of two inputs that came whole the one that is in front of the other is all of it.
use Rattle.std.proofs.Common.{◌≡◌, ℕ, Bool, true, false, true≢false, List, [], ◌∷◌, ◌++◌, Option, Some, refl, sym, subst, ap, ◌∙◌}
use mathlib.Core.List.{IsPrefix}
use Rattle.savi_kinds.specs.declared.plan.Format.{Format}
use Rattle.savi_kinds.specs.declared.entry.How.{How}
use Rattle.savi_kinds.specs.Arrivals.{Arrival}
use Rattle.parcel_ring.specs.Handed.{Handed, Arrived, Ended}
use Rattle.port_reader.specs.Rows.{InputRow, WasPut, whole}
use Rattle.port_reader.specs.Judging.{JudgesSo, EnteredRow}

abbrev first_of : Handed → List Handed → Handed
first_of x [] = x
first_of x (y ∷ ys) = y

abbrev rest_of : List Handed → List Handed
rest_of [] = []
rest_of (y ∷ ys) = ys

abbrev arrival_of : Arrival → Handed → Arrival
arrival_of a (Arrived x) = x
arrival_of a (Ended how) = a

abbrev how_of : How → Handed → How
how_of how (Arrived x) = how
how_of how (Ended ending) = ending

abbrev is_end : Handed → Bool
is_end (Arrived x) = false
is_end (Ended how) = true

-- only the last of each is an end: so neither goes on behind the other
pub one_end : (taken arrivals : List Arrival) (how ending : How) (rest : List Handed) → whole taken how ++ rest ≡ whole arrivals ending → (taken ≡ arrivals) × (how ≡ ending)
one_end [] [] how ending rest same = (refl, ap (λ (l : List Handed). how_of how (first_of (Ended how) l)) same)
one_end [] (b ∷ arrivals) how ending rest same = absurd (true≢false (ap (λ (l : List Handed). is_end (first_of (Ended how) l)) same))
one_end (a ∷ taken) [] how ending rest same = absurd (true≢false (sym (ap (λ (l : List Handed). is_end (first_of (Arrived a) l)) same)))
one_end (a ∷ taken) (b ∷ arrivals) how ending rest same =
    let first : a ≡ b = ap (λ (l : List Handed). arrival_of a (first_of (Arrived a) l)) same in
    let more = one_end taken arrivals how ending rest (ap rest_of same) in
    (ap (λ (x : Arrival). x ∷ taken) first ∙ ap (λ (l : List Arrival). b ∷ l) more.0, more.1)

module _ {S C : Type 0} (left : S → Option (List ℕ)) (faults : S → ℕ) (readings : C → Option (List ℕ)) (format : Format) (source new_source : S) (clock new_clock : C) where
  pub ends_meet : (put taken : List Handed) (kept : Option Handed) (entered : List Arrival) (ending : How) → WasPut left faults readings format put source new_source clock new_clock → JudgesSo entered (Some ending) taken kept → IsPrefix taken put
      → EnteredRow left faults readings format entered (Some ending) source new_source clock new_clock
  ends_meet put taken kept entered ending was_put judged front =
      let met : whole entered ending ++ front.0 ≡ whole was_put.0 was_put.1 = ap (λ (l : List Handed). l ++ front.0) (sym judged.0) ∙ front.1 ∙ was_put.2 in
      let one = one_end entered was_put.0 ending was_put.1 front.0 met in (
        ending,
        refl,
        subst (λ (t : List Arrival × How). InputRow left faults readings format t.0 t.1 source new_source clock new_clock) (λ i. (sym one.0 i, sym one.1 i)) was_put.3,
      )
