-- One output after another is kept, the last one first.
use Rattle.std.proofs.Common.{◌≡◌, ◌≢◌, ℕ, suc, ◌+◌, ◌<◌, true, List, [], ◌∷◌, ◌++◌, length, get_or, Some, refl, sym, ap, subst, ◌∙◌, arith, append_assoc, append-nil, length-append}
use Rattle.std.proofs.lemmas.List.{get_or_at, get_or-append-add, get_or_read_under}
use Rattle.std.proofs.lemmas.List.Elements.{All-cons, All-head, All-tail}
use Rattle.std.specs.Prelude.{All}
use Rattle.savi_ends.specs.Places.{Place, Book, OthersStay}
use Rattle.pcap_split.specs.declared.output.Output.{Output}
use Rattle.split_run.specs.Names.{name_in, AreNamesApart}
use Rattle.split_run.specs.Steps.{HaveOwnInterfaces}

-- of all that were held, these are kept and those are still held
pub record KeepsSoFar {S K C : Type 0} (name : ℕ → List ℕ) (gone still all : List (Output K)) (old new : Book S K C) : Type 0 where
  pub split : all ≡ still ++ gone
  pub kept : All (λ o. (new.outputs (name o.interface)).stands ≡ Some o.sink) gone
  pub others : (other : List ℕ) → All (λ o. name o.interface ≢ other) gone → new.outputs other ≡ old.outputs other
  pub rest : new ≡ record old { outputs = new.outputs }

pub keeps_none : {S K C : Type 0} (name : ℕ → List ℕ) (all : List (Output K)) (book : Book S K C) → KeepsSoFar name [] all all book book
keeps_none {S} {K} {C} name all book = record {
  split = sym (append-nil all);
  kept = λ k d inside. absurd (omega (arith, inside));
  others = λ other off. refl;
  rest = refl;
}

module _ {S K C : Type 0} (names : List (List ℕ)) (gone still all : List (Output K)) (o : Output K) (old mid : Book S K C)
    (apart : AreNamesApart names) (own : HaveOwnInterfaces all) (low : All (λ q. q.interface < length names) all)
    (so_far : KeepsSoFar (name_in names) gone (still ++ o ∷ []) all old mid) where
  whole : all ≡ still ++ o ∷ gone
  whole = so_far.split ∙ append_assoc still (o ∷ []) gone

  -- the output that comes next stands behind those that are still held
  next_at : (d : Output K) → get_or all (length still) d ≡ o
  next_at d = ap (λ (l : List (Output K)). get_or l (length still) d) whole ∙ get_or_at still o gone d (length still) refl

  size : length all ≡ length still + 1 + length gone
  size = omega (arith, ap length whole, length-append still (o ∷ gone))

  pub next_low : o.interface < length names
  next_low = subst (λ (q : Output K). q.interface < length names) (next_at o) (low (length still) o (omega (arith, size)))

  -- those that are kept have other names
  pub away : All (λ q. name_in names q.interface ≢ name_in names o.interface) gone
  away k d inside same =
      let later : get_or all (length still + suc k) d ≡ get_or gone k d = ap (λ (l : List (Output K)). get_or l (length still + suc k) d) whole ∙ get_or-append-add still (o ∷ gone) (suc k) d in
      let behind : length still + suc k < length all = omega (arith, size, inside) in
      let below : (get_or gone k d).interface < length names = subst (λ (q : Output K). q.interface < length names) later (low (length still + suc k) d behind) in
      let equal = apart (get_or gone k d).interface o.interface below next_low same in
      own (length still) (length still + suc k) d (omega arith) behind
      (ap (λ (q : Output K). q.interface) (next_at d) ∙ sym equal ∙ ap (λ (q : Output K). q.interface) (sym later))

  pub next_out : All (λ q. (old.outputs (name_in names q.interface)).is_out ≡ true) all → (mid.outputs (name_in names o.interface)).is_out ≡ true
  next_out out =
      ap (λ (p : Place K). p.is_out) (so_far.others (name_in names o.interface) away)
      ∙ subst (λ (q : Output K). (old.outputs (name_in names q.interface)).is_out ≡ true) (next_at o) (out (length still) o (omega (arith, size)))

  pub keep_step : (new : Book S K C) → (new.outputs (name_in names o.interface)).stands ≡ Some o.sink → OthersStay mid.outputs new.outputs (name_in names o.interface) → new ≡ record mid { outputs = new.outputs }
      → KeepsSoFar (name_in names) (o ∷ gone) still all old new
  keep_step new stands stay rest = record {
    split = whole;
    kept = All-cons (λ (q : Output K). (new.outputs (name_in names q.interface)).stands ≡ Some q.sink) o gone stands
        (λ k d inside. ap (λ (p : Place K). p.stands) (stay (name_in names (get_or gone k d).interface) (away k d inside)) ∙ so_far.kept k d inside);
    others = λ other off.
        stay other (λ same. All-head (λ (q : Output K). name_in names q.interface ≢ other) o gone off (sym same))
        ∙ so_far.others other (All-tail (λ (q : Output K). name_in names q.interface ≢ other) o gone off);
    rest = rest ∙ ap (λ (b : Book S K C). record b { outputs = new.outputs }) so_far.rest;
  }

pub keeps_all : {S K C : Type 0} (name : ℕ → List ℕ) (gone still all : List (Output K)) (old new : Book S K C) → still ≡ [] → KeepsSoFar name gone still all old new → all ≡ gone
keeps_all {S} {K} {C} name gone still all old new none so_far = so_far.split ∙ ap (λ (l : List (Output K)). l ++ gone) none

-- a text that was read from the names is the name at its place
pub text_at : (names : List (List ℕ)) (i : ℕ) (x text : List ℕ) → i < length names → x ≡ get_or names i x → text ≡ x → text ≡ name_in names i
text_at names i x text inside found is = is ∙ get_or_read_under names i (length names) x [] found inside refl
