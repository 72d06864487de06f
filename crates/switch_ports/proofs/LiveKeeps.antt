-- The ends of one port after another are kept, those of the last first.
use Rattle.std.proofs.Common.{◌≡◌, ◌≢◌, inl, inr, ℕ, ◌+◌, ◌<◌, ◌≤◌, List, [], ◌∷◌, ◌++◌, length, get_or, refl, ◌∙◌, sym, ap, arith, true, Some, append_assoc, append-nil, length-append, map, slice_index}
use Rattle.std.proofs.lemmas.Bool.{cases_eq}
use Rattle.std.proofs.lemmas.List.{get_or_at, get_or-map, length-map}
use Rattle.std.proofs.lemmas.List.Kept.{AllPairs-from_increasing}
use Rattle.std.specs.List.Sorted.{IsStrictlyIncreasing}
use Rattle.savi_kinds.specs.declared.port.Port.{Port}
use Rattle.savi_kinds.specs.Ports.{number_of}
use Rattle.savi_ends.specs.declared.world.Ends.{Ends}
use Rattle.savi_ends.specs.Places.{Book, Place, PortKey, OtherPortsStay, IsPortOut, IsPortKept}

-- those behind the first so many are kept, and the first are still held
pub record LiveKeeps {S K C : Type 0} (numbers : List ℕ) (still all : List (Ends S K C)) (old new : Book S K C) : Type 0 where
  pub gone : List (Ends S K C)
  pub split : all ≡ still ++ gone
  pub kept : (k : ℕ) (d : Ends S K C) → length still ≤ k → k < length all → IsPortKept old.ports new.ports (slice_index numbers k) (get_or all k d)
  pub others : (key : PortKey) → ((k : ℕ) → length still ≤ k → k < length all → slice_index numbers k ≢ key.number) → new.ports key ≡ old.ports key
  pub rest : new ≡ record old { ports = new.ports }

pub live_keeps_none : {S K C : Type 0} (numbers : List ℕ) (all : List (Ends S K C)) (book : Book S K C) → LiveKeeps numbers all all book book
live_keeps_none {S} {K} {C} numbers all book = record {
  gone = [];
  split = sym (append-nil all);
  kept = λ k d from inside. absurd (omega arith);
  others = λ key off. refl;
  rest = refl;
}

below_apart : (numbers : List ℕ) (i j : ℕ) → IsStrictlyIncreasing numbers → i < j → j < length numbers → slice_index numbers i ≢ slice_index numbers j
below_apart numbers i j rising below inside same = let apart = AllPairs-from_increasing numbers rising i j 0 below inside in omega (arith, apart, same)

module _ {S K C : Type 0} (ports : List Port) (still : List (Ends S K C)) (ends : Ends S K C) (all : List (Ends S K C)) (old mid : Book S K C)
    (rising : IsStrictlyIncreasing (map number_of ports)) (few : length all ≤ length ports) (so_far : LiveKeeps (map number_of ports) (still ++ ends ∷ []) all old mid) where
  abbrev numbers : List ℕ
  numbers = map number_of ports

  sizes : (length all ≡ length still + 1 + length so_far.gone) × (length (still ++ ends ∷ []) ≡ length still + 1) × (length numbers ≡ length ports)
  sizes =
      let first = length-append still (ends ∷ []) in
      let second = ap length so_far.split ∙ length-append (still ++ ends ∷ []) so_far.gone in
      (omega (arith, first, second), omega (arith, first), length-map ports number_of)

  -- the number of the port whose ends come next
  pub live_next_number : (k : ℕ) (p : Port) → p ≡ get_or ports k p → k ≡ length still → number_of p ≡ slice_index numbers (length still)
  live_next_number k p is same =
      ap number_of is
      ∙ sym (get_or-map number_of ports k p 0 (omega (arith, sizes.0, few, same)))
      ∙ ap (slice_index numbers) same

  -- it is still handed out
  -- the places of its number are as they were
  before_here : (key : PortKey) → key.number ≡ slice_index numbers (length still) → mid.ports key ≡ old.ports key
  before_here key is = so_far.others key (λ k from inside equal. below_apart numbers (length still) k rising (omega (arith, sizes.1, from)) (omega (arith, sizes.2, few, inside)) (sym (equal ∙ is)))

  pub live_next_out : ((k : ℕ) → k < length all → IsPortOut old.ports (slice_index numbers k)) → IsPortOut mid.ports (slice_index numbers (length still))
  live_next_out out =
      let was = out (length still) (omega (arith, sizes.0)) in
      (was.0, was.1, ap (λ (x : Place (Ends S K C)). x.is_out) (before_here was.0 was.1) ∙ was.2)

  here : (k : ℕ) (d : Ends S K C) → k ≡ length still → get_or all k d ≡ ends
  here k d is =
      ap (λ (l : List (Ends S K C)). get_or l k d) (so_far.split ∙ append_assoc still (ends ∷ []) so_far.gone)
      ∙ get_or_at still ends so_far.gone d k (sym is)

  pub live_keep_step : (new : Book S K C) → IsPortKept mid.ports new.ports (slice_index numbers (length still)) ends → OtherPortsStay mid.ports new.ports (slice_index numbers (length still)) → new ≡ record mid { ports = new.ports }
      → LiveKeeps numbers still all old new
  live_keep_step new stands stay rest = record {
    gone = ends ∷ so_far.gone;
    split = so_far.split ∙ append_assoc still (ends ∷ []) so_far.gone;
    kept = λ k d from inside key is out. elim (cases_eq k (length still)) [
      | inl same ↦
          let at : key.number ≡ slice_index numbers (length still) = is ∙ ap (slice_index numbers) same in
          stands key at (ap (λ (x : Place (Ends S K C)). x.is_out) (before_here key at) ∙ out) ∙ ap (λ (x : Ends S K C). Some x) (sym (here k d same))
      | inr apart ↦
          let above : length still < k = omega (arith, from, apart) in
          ap (λ (x : Place (Ends S K C)). x.stands) (stay key (λ equal. below_apart numbers (length still) k rising above (omega (arith, sizes.2, few, inside)) (sym equal ∙ is)))
          ∙ so_far.kept k d (omega (arith, sizes.1, above)) inside key is out
    ];
    others = λ key away.
        stay key (λ equal. away (length still) (omega arith) (omega (arith, sizes.0)) (sym equal))
        ∙ so_far.others key (λ k from inside. away k (omega (arith, sizes.1, from)) inside);
    rest = rest ∙ ap (λ (b : Book S K C). record b { ports = new.ports }) so_far.rest;
  }
