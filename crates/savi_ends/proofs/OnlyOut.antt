-- The place of the only name that is handed out is the first empty one.
use Rattle.std.proofs.Common.{◌≡◌, ℕ, ◌<◌, true, false, List, length, get_or, Option, Some, is_none, refl, sym, ap, subst, ◌∙◌, position, inl, inr}
use Rattle.std.specs.Str.{bytes_eq}
use Rattle.std.proofs.Math.ListN.{get_or-map}
use Rattle.std.proofs.lemmas.List.{length-map}
use Rattle.std.proofs.lemmas.Bool.{cases_Bool}
use Rattle.std.proofs.lemmas.List.Quantifiers.{position-Some}
use Rattle.std.proofs.lemmas.Slice.Eq.{bytes_eq-Decides}
use Rattle.savi_ends.specs.Places.{Place, IsOnlyOut}
use Rattle.savi_ends.specs.MemPlaces.{named_places, keys_of, NamesDiffer}
use Rattle.savi_ends.proofs.FirstPlace.{IsFirst, first_place-found}

-- where no two places have one name, each place is the first of its name
pub own_first : {X : Type 0} (places : List (List ℕ × Option X)) (i : ℕ) (p : List ℕ × Option X) → NamesDiffer places → i < length places → p ≡ get_or places i p → IsFirst (λ key. bytes_eq key p.0) places i p
own_first {X} places i p differ within is =
    let key_at : (k : ℕ) → get_or (keys_of places) k p.0 ≡ (get_or places k p).0 = λ k. get_or-map (λ (q : List ℕ × Option X). q.0) places k p in
    let long : i < length (keys_of places) = simp length-map within in
    record {
      within = within;
      is = is;
      passes = (bytes_eq-Decides p.0 p.0).1 refl;
      before = λ k below. elim (cases_Bool (bytes_eq (get_or places k p).0 p.0)) [
        | inl same ↦ absurd (differ k i p.0 below long (key_at k ∙ (bytes_eq-Decides (get_or places k p).0 p.0).0 same ∙ ap (λ (q : List ℕ × Option X). q.0) is ∙ sym (key_at i)))
        | inr off ↦ off
      ];
    }

pub only_first : {X : Type 0} (seen places : List (List ℕ × Option X)) (i : ℕ) (p : List ℕ × Option X) (name : List ℕ) → NamesDiffer places → IsOnlyOut (named_places places) name → Some i ≡ position (λ q. is_none q.1) seen → seen ≡ places → p ≡ get_or places i p → IsFirst (λ key. bytes_eq key name) places i p
only_first {X} seen places i p name differ only found same is =
    let here = position-Some (λ (q : List ℕ × Option X). is_none q.1) places i p (sym (found ∙ ap (λ (l : List (List ℕ × Option X)). position (λ q. is_none q.1) l) same)) in
    let empty : is_none p.1 ≡ true = ap (λ (q : List ℕ × Option X). is_none q.1) is ∙ here.1 in
    let own : IsFirst (λ key. bytes_eq key p.0) places i p = own_first places i p differ here.0 is in
    let out : (named_places places p.0).is_out ≡ true = ap (λ (place : Place X). place.is_out) (first_place-found (λ key. bytes_eq key p.0) places i p own) ∙ empty in
    let named : p.0 ≡ name = elim (cases_Bool (bytes_eq p.0 name)) [
      | inl same_name ↦ (bytes_eq-Decides p.0 name).0 same_name
      | inr off ↦
          let clash : true ≡ false = sym out ∙ only.alone p.0 (λ e. let t : false ≡ true = sym off ∙ (bytes_eq-Decides p.0 name).1 e in cc) in
          cc
    ] in
    subst (λ (n : List ℕ). IsFirst (λ key. bytes_eq key n) places i p) named own
