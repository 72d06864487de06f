-- Numbers that are gathered one by one.
use Rattle.std.proofs.Common.{ℕ, ℤ, ◌≡◌, ◌≢◌, ◌<◌, ◌≤◌, ◌+◌, ◌↔◌, Bool, true, false, List, [], ◌∷◌, ◌++◌, length, map, take, drop, get_or, Result, Ok, Err, refl, sym, ap, ◌∙◌, subst, arith, inl, inr, length-append, append_assoc, append-nil, take-append-drop}
use Rattle.arrayvec.specs.ArrayVec.{ArrayVec}
use Rattle.std.specs.Result.{IsOk, OnOk, OnErr, is_ok}
use Rattle.std.specs.List.{All, AllPairs, Any, Contains, flat_map}
use Rattle.std.proofs.lemmas.Bool.{cases_lt, false≢true, true≢false}
use Rattle.std.proofs.lemmas.List.{get_or-map, get_or_default, length-map, take_all, take_more}
use Rattle.std.proofs.lemmas.List.Elements.{All-nil, All-cons, All-head, All-tail, All-append, All-contains, Contains-append_left, Contains-get_or, Contains-push}
use Rattle.savi_kinds.proofs.Pairs.{AllPairs-append}
use Rattle.savi_conf.specs.Gathering.{Gathers}
use Rattle.savi_conf.specs.Requirements.{AreFewVlans}
use Rattle.savi_conf.proofs.Distinct.{different_among}

abbrev Apart : ℤ → ℤ → Type 0
Apart v w = v ≢ w

all_there : (xs : List ℤ) → All (Contains xs) xs
all_there xs = λ k d within. Contains-get_or xs k d within

-- those of a list are among others, where what it is among is
through : (xs ys zs : List ℤ) → All (Contains ys) xs → All (Contains zs) ys → All (Contains zs) xs
through xs ys zs one other = λ k d within. All-contains (Contains zs) ys (get_or xs k d) other (one k d within)

none_pairs : AllPairs Apart []
none_pairs = λ i j d less within. absurd (omega (arith, within))

-- ---- one number

pub stays : (seen : List ℤ) (number : ℤ) → Any (λ n. n ≡ number) seen → Gathers seen (number ∷ []) true seen
stays seen number (k, n, within, is, same) = record {
  kept = all_there seen;
  added = λ _. All-cons (Contains seen) number [] (subst (Contains seen) (is ∙ same) (Contains-get_or seen k n within)) (All-nil (Contains seen));
  different = λ apart. apart;
  few = λ few. few;
  among = λ all before numbers. before;
  full = λ no. absurd (true≢false no);
}

others_apart : (seen : List ℤ) (number : ℤ) → (Any (λ n. n ≡ number) seen → ⊥) → All (λ x. All (Apart x) (number ∷ [])) seen
others_apart seen number none = λ k d within.
    All-cons (Apart (get_or seen k d)) number []
    (λ same. none (k, get_or seen k d, within, get_or_default seen k (get_or seen k d) d within, same)) (All-nil (Apart (get_or seen k d)))

one_pair : (number : ℤ) → AllPairs Apart (number ∷ [])
one_pair number = λ i j d less within. absurd (omega (arith, less, within))

both_apart : (seen : List ℤ) (number : ℤ) → (Any (λ n. n ≡ number) seen → ⊥) → AllPairs Apart seen → AllPairs Apart (seen ++ number ∷ [])
both_apart seen number none apart = AllPairs-append Apart seen (number ∷ []) apart (one_pair number) (others_apart seen number none)

both_among : (seen : List ℤ) (number : ℤ) (all : List ℤ) → All (Contains all) seen → All (Contains all) (number ∷ []) → All (Contains all) (seen ++ number ∷ [])
both_among seen number all before here = All-append (Contains all) seen (number ∷ []) before here

pub pushed : (seen after : List ℤ) (number : ℤ) → (Any (λ n. n ≡ number) seen → ⊥) → length seen < 8 → after ≡ seen ++ number ∷ [] → Gathers seen (number ∷ []) true after
pushed seen after number none room is = rw is (record {
  kept = λ k d within. Contains-append_left seen (number ∷ []) (get_or seen k d) (Contains-get_or seen k d within);
  added = λ _. All-cons (Contains (seen ++ number ∷ [])) number [] (Contains-push seen number) (All-nil (Contains (seen ++ number ∷ [])));
  different = λ apart. both_apart seen number none apart;
  few = λ few. omega (arith, room, length-append seen (number ∷ []));
  among = λ all before numbers. both_among seen number all before numbers;
  full = λ no. absurd (true≢false no);
})

pub refused : (seen after : List ℤ) (number : ℤ) → (Any (λ n. n ≡ number) seen → ⊥) → length seen ≡ 8 → after ≡ seen → Gathers seen (number ∷ []) false after
refused seen after number none size is = rw is (record {
  kept = all_there seen;
  added = λ yes. absurd (false≢true yes);
  different = λ apart. apart;
  few = λ few. few;
  among = λ all before numbers. before;
  full = λ _ apart all before numbers.
      omega (arith, size, length-append seen (number ∷ []), different_among (seen ++ number ∷ []) all (both_apart seen number none apart) (both_among seen number all before numbers));
})

-- the answer of a push
pub tried : {T E : Type 0} (old new : ArrayVec ℤ) (number : ℤ) (r : Result T E) → (Any (λ n. n ≡ number) old.items → ⊥) → length old.items ≤ 8 → (IsOk r ↔ (length old.items < 8)) → OnOk r (new.items ≡ old.items ++ number ∷ []) → OnErr r (new ≡ old)
    → Gathers old.items (number ∷ []) (is_ok r) new.items
tried old new number (Ok t) none few room ok err = pushed old.items new.items number none (room.0 refl) ok
tried old new number (Err e) none few room ok err =
    elim (cases_lt (length old.items) 8) [
      | inl less ↦ absurd (false≢true (room.1 less))
      | inr full ↦ refused old.items new.items number none (omega (arith, few, full)) (ap (λ (v : ArrayVec ℤ). v.items) err)
    ]

-- ---- one after the other

pub none_yet : (seen : List ℤ) → Gathers seen [] true seen
none_yet seen = record {
  kept = all_there seen;
  added = λ _. All-nil (Contains seen);
  different = λ apart. apart;
  few = λ few. few;
  among = λ all before numbers. before;
  full = λ no. absurd (true≢false no);
}

parted : (P : ℤ → Type 0) (xs ys : List ℤ) → All P (xs ++ ys) → All P xs × All P ys
parted P [] ys each = (All-nil P, each)
parted P (x ∷ xs) ys each =
    let rest = parted P xs ys (All-tail P x (xs ++ ys) each) in
    (All-cons P x xs (All-head P x (xs ++ ys) each) rest.0, rest.1)

pub both : (before mid after numbers more : List ℤ) (result : Bool) → Gathers before numbers true mid → Gathers mid more result after → Gathers before (numbers ++ more) result after
both before mid after numbers more result one other = record {
  kept = through before mid after one.kept other.kept;
  added = λ yes. All-append (Contains after) numbers more (through numbers mid after (one.added refl) other.kept) (other.added yes);
  different = λ apart. other.different (one.different apart);
  few = λ few. other.few (one.few few);
  among = λ all here each. let parts = parted (Contains all) numbers more each in other.among all (one.among all here parts.0) parts.1;
  full = λ no apart all here each.
      let parts = parted (Contains all) numbers more each in
      other.full no (one.different apart) all (one.among all here parts.0) parts.1;
}

-- without room for a front there is none for the whole
pub stopped : (before after numbers more : List ℤ) → Gathers before numbers false after → Gathers before (numbers ++ more) false after
stopped before after numbers more one = record {
  kept = one.kept;
  added = λ yes. absurd (false≢true yes);
  different = one.different;
  few = one.few;
  among = λ all here each. one.among all here (parted (Contains all) numbers more each).0;
  full = λ no apart all here each. one.full no apart all here (parted (Contains all) numbers more each).0;
}

-- one more number of a list, none for which there is room, and the whole list
pub one_more : (before mid after xs : List ℤ) (i : ℕ) (d : ℤ) (result : Bool) → i < length xs → Gathers before (take i xs) true mid → Gathers mid (get_or xs i d ∷ []) result after → Gathers before (take (i + 1) xs) result after
one_more before mid after xs i d result within front here = rw (take_more xs i d within) (both before mid after (take i xs) (get_or xs i d ∷ []) result front here)

pub stopped_at : (before mid after xs : List ℤ) (i : ℕ) (d : ℤ) → i < length xs → Gathers before (take i xs) true mid → Gathers mid (get_or xs i d ∷ []) false after → Gathers before xs false after
stopped_at before mid after xs i d within front here =
    subst (λ (zs : List ℤ). Gathers before zs false after) (take-append-drop (i + 1) xs)
    (stopped before after (take (i + 1) xs) (drop (i + 1) xs) (one_more before mid after xs i d false within front here))

pub whole : (before after xs : List ℤ) (i : ℕ) → length xs ≤ i → Gathers before (take i xs) true after → Gathers before xs true after
whole before after xs i all front = subst (λ (zs : List ℤ). Gathers before zs true after) (take_all i xs all) front

-- ---- all lists

flat : List (List ℤ) → List ℤ
flat lists = flat_map (λ (zs : List ℤ). zs) lists

each_flat : (P : ℤ → Type 0) (lists : List (List ℤ)) → All (All P) lists → All P (flat lists)
unfolding flat
each_flat P [] each = All-nil P
each_flat P (zs ∷ lists) each = All-append P zs (flat lists) (All-head (All P) zs lists each) (each_flat P lists (All-tail (All P) zs lists each))

flat_each : (P : ℤ → Type 0) (lists : List (List ℤ)) → All P (flat lists) → All (All P) lists
unfolding flat
flat_each P [] each = All-nil (All P)
flat_each P (zs ∷ lists) each =
    let parts = parted P zs (flat lists) each in
    All-cons (All P) zs lists parts.0 (flat_each P lists parts.1)

flat-append : (lists more : List (List ℤ)) → flat (lists ++ more) ≡ flat lists ++ flat more
unfolding flat
flat-append [] more = refl
flat-append (zs ∷ lists) more = ap (λ (ys : List ℤ). zs ++ ys) (flat-append lists more) ∙ sym (append_assoc zs (flat lists) (flat more))

flat_one : (zs : List ℤ) → flat (zs ∷ []) ≡ zs
unfolding flat
flat_one zs = append-nil zs

-- one more list
pub list_more : (before mid after : List ℤ) (lists : List (List ℤ)) (i : ℕ) (zs : List ℤ) (result : Bool) → i < length lists → zs ≡ get_or lists i zs
    → Gathers before (flat_map (λ (ys : List ℤ). ys) (take i lists)) true mid → Gathers mid zs result after → Gathers before (flat_map (λ (ys : List ℤ). ys) (take (i + 1) lists)) result after
unfolding flat
list_more before mid after lists i zs result within is front here =
    let more : take (i + 1) lists ≡ take i lists ++ zs ∷ [] = rw (take_more lists i zs within, ← is) in
    let split : flat (take (i + 1) lists) ≡ flat (take i lists) ++ zs = ap flat more ∙ flat-append (take i lists) (zs ∷ []) ∙ ap (λ (ys : List ℤ). flat (take i lists) ++ ys) (flat_one zs) in
    subst (λ (ys : List ℤ). Gathers before ys result after) (sym split) (both before mid after (flat (take i lists)) zs result front here)

-- the same of things that have lists
pub thing_more : {V : Type 0} (items : V → List ℤ) (before mid after : List ℤ) (vs : List V) (i : ℕ) (v : V) (result : Bool) → i < length vs → v ≡ get_or vs i v
    → Gathers before (flat_map (λ (ys : List ℤ). ys) (take i (map items vs))) true mid → Gathers mid (items v) result after → Gathers before (flat_map (λ (ys : List ℤ). ys) (take (i + 1) (map items vs))) result after
thing_more items before mid after vs i v result within is front here =
    let there : i < length (map items vs) = rw (length-map vs items) within in
    let same : items v ≡ get_or (map items vs) i (items v) = ap items is ∙ sym (get_or-map items vs i v (items v) within) in
    list_more before mid after (map items vs) i (items v) result there same front here

pub lists_stopped : (before after : List ℤ) (lists : List (List ℤ)) (i : ℕ) → Gathers before (flat_map (λ (ys : List ℤ). ys) (take i lists)) false after → Gathers before (flat_map (λ (ys : List ℤ). ys) lists) false after
unfolding flat
lists_stopped before after lists i front =
    let split : flat (take i lists) ++ flat (drop i lists) ≡ flat lists = sym (flat-append (take i lists) (drop i lists)) ∙ ap flat (take-append-drop i lists) in
    subst (λ (ys : List ℤ). Gathers before ys false after) split (stopped before after (flat (take i lists)) (flat (drop i lists)) front)

pub lists_whole : (before after : List ℤ) (lists : List (List ℤ)) (i : ℕ) → length lists ≤ i → Gathers before (flat_map (λ (ys : List ℤ). ys) (take i lists)) true after → Gathers before (flat_map (λ (ys : List ℤ). ys) lists) true after
lists_whole before after lists i all front = subst (λ (ys : List (List ℤ)). Gathers before (flat_map (λ (zs : List ℤ). zs) ys) true after) (take_all i lists all) front

pub are_few : (lists : List (List ℤ)) (after : List ℤ) → Gathers [] (flat_map (λ (zs : List ℤ). zs) lists) true after → AreFewVlans lists
unfolding flat
are_few lists after gathered = record {
  vlans = after;
  few = gathered.few (omega arith);
  among = flat_each (Contains after) lists (gathered.added refl);
}

pub are_many : (lists : List (List ℤ)) (after : List ℤ) → Gathers [] (flat_map (λ (zs : List ℤ). zs) lists) false after → AreFewVlans lists → ⊥
unfolding flat
are_many lists after gathered few =
    let more : 8 < length few.vlans = gathered.full refl none_pairs few.vlans (All-nil (Contains few.vlans)) (each_flat (Contains few.vlans) lists few.among) in
    omega (arith, more, few.few)
