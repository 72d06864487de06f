-- The VLANs of ports: numbers that are put one by one into a rising list.
use Rattle.std.proofs.Common.{ℕ, suc, ◌≡◌, ◌+◌, ◌<◌, ◌≤◌, ◌==◌, ◌||◌, nat_le, ◌↔◌, Bool, true, false, not, cond, IsTrue, List, [], ◌∷◌, ◌++◌, Some, map, length, take, drop, get_or, insert, refl, sym, ap, ◌∙◌, subst, arith, inl, inr, eq-eqb, ne_eqb, lt-ltb, le-leb, Result, Ok, Err, Ordering, Less, Equal, Greater, if◌then◌else◌, append_assoc, append-nil, take-append-drop, unwrap_or}
use Rattle.std.specs.List.{All, AllPairs, fold, flat_map, list_any, position, position_or_len, slice_get}
use Rattle.std.specs.List.Sorted.{IsStrictlyIncreasing}
use Rattle.std.specs.Ordering.{nat_cmp, match_ordering}
use Rattle.std.specs.Result.{IsOk, OnOk, OnErr, is_ok}
use Rattle.arrayvec.specs.ArrayVec.{ArrayVec}
use Rattle.std.specs.BTreeSet.{insert_key}
use Rattle.std.proofs.lemmas.Bool.{cases_lt, cases_order, false≢true, le-ltb, lt-leb}
use Rattle.std.proofs.lemmas.Option.{none-some}
use Rattle.std.proofs.lemmas.List.{take_more}
use Rattle.std.proofs.lemmas.List.Edits.{length-insert}
use Rattle.std.proofs.lemmas.List.Elements.{All-nil, All-cons, All-head, All-tail, All-append, All-weaker}
use Rattle.std.proofs.lemmas.List.Folds.{list_any-append, flat_map-map}
use Rattle.std.proofs.lemmas.List.Kept.{AllPairs-cons}
use Rattle.std.proofs.lemmas.List.Sums.{fold_more}
use Rattle.std.proofs.lemmas.Map.Views.{All-insert_key}
use Rattle.savi_kinds.specs.declared.plan.PortPlan.{PortPlan}
use Rattle.savi_kinds.specs.ValidPlan.{HasPlanVlans}
use Rattle.savi_kinds.specs.Vlans.{is_member_of, numbers_of_vlan, vlans_of_ports}
use Rattle.savi_kinds.proofs.Pairs.{AllPairs-head, AllPairs-tail}

one_more : (n : ℕ) → 1 + n ≡ suc n
one_more n = omega arith

-- ---- one number

-- by what the comparison of a number with the first one answers
abbrev put_by : ℕ → ℕ → List ℕ → Ordering → List ℕ
put_by k x xs answer = match_ordering answer (k ∷ x ∷ xs) (x ∷ xs) (x ∷ insert_key nat_cmp xs k)

pub put_before : (k x : ℕ) (xs : List ℕ) → k < x → insert_key nat_cmp (x ∷ xs) k ≡ k ∷ x ∷ xs
put_before k x xs less = ap (λ (b : Bool). put_by k x xs (cond b Less (cond (k == x) Equal Greater))) (lt-ltb k x less)

pub put_same : (k x : ℕ) (xs : List ℕ) → k ≡ x → insert_key nat_cmp (x ∷ xs) k ≡ x ∷ xs
put_same k x xs same =
    ap (λ (b : Bool). put_by k x xs (cond b Less (cond (k == x) Equal Greater))) (le-ltb k x (omega (arith, same)))
    ∙ ap (λ (b : Bool). put_by k x xs (cond b Equal Greater)) (eq-eqb k x same)

pub put_behind : (k x : ℕ) (xs : List ℕ) → x < k → insert_key nat_cmp (x ∷ xs) k ≡ x ∷ insert_key nat_cmp xs k
put_behind k x xs more =
    ap (λ (b : Bool). put_by k x xs (cond b Less (cond (k == x) Equal Greater))) (le-ltb k x (omega (arith, more)))
    ∙ ap (λ (b : Bool). put_by k x xs (cond b Equal Greater)) (ne_eqb k x (λ same. omega (arith, same, more)))

abbrev Below : ℕ → ℕ → Type 0
Below m n = m < n

rising_put : (k : ℕ) (xs : List ℕ) → AllPairs Below xs → AllPairs Below (insert_key nat_cmp xs k)
rising_put k [] rising = AllPairs-cons Below k [] (All-nil (Below k)) rising
rising_put k (x ∷ xs) rising =
    let behind : All (Below x) xs = AllPairs-head Below x xs rising in
    elim (cases_order k x) [
      | inl same ↦ subst (AllPairs Below) (sym (put_same k x xs same)) rising
      | inr (inl less) ↦
          subst (AllPairs Below) (sym (put_before k x xs less))
          (AllPairs-cons Below k (x ∷ xs) (All-cons (Below k) x xs less (All-weaker (Below x) (Below k) (λ y above. omega (arith, less, above)) xs behind)) rising)
      | inr (inr more) ↦
          subst (AllPairs Below) (sym (put_behind k x xs more))
          (AllPairs-cons Below x (insert_key nat_cmp xs k) (All-insert_key nat_cmp k (Below x) xs behind more) (rising_put k xs (AllPairs-tail Below x xs rising)))
    ]

or_twice : (a b : Bool) → (a || b) ≡ (a || (a || b))
or_twice true b = refl
or_twice false b = refl

or_swap : (a b c : Bool) → (a || (b || c)) ≡ (b || (a || c))
or_swap true true c = refl
or_swap true false c = refl
or_swap false true c = refl
or_swap false false c = refl

or_move : (a b c : Bool) → (a || (b || c)) ≡ ((b || a) || c)
or_move true true c = refl
or_move true false c = refl
or_move false true c = refl
or_move false false c = refl

or_none : (a : Bool) → (a || false) ≡ a
or_none true = refl
or_none false = refl

has_put : (v k : ℕ) (xs : List ℕ) → list_any (λ n. n == v) (insert_key nat_cmp xs k) ≡ (k == v || list_any (λ n. n == v) xs)
has_put v k [] = refl
has_put v k (x ∷ xs) =
    let has : List ℕ → Bool = λ ys. list_any (λ n. n == v) ys in
    elim (cases_order k x) [
      | inl same ↦ ap has (put_same k x xs same) ∙ or_twice (x == v) (has xs) ∙ ap (λ (m : ℕ). m == v || (x == v || has xs)) (sym same)
      | inr (inl less) ↦ ap has (put_before k x xs less)
      | inr (inr more) ↦ ap has (put_behind k x xs more) ∙ ap (λ (b : Bool). x == v || b) (has_put v k xs) ∙ or_swap (x == v) (k == v) (has xs)
    ]

length_put : (k : ℕ) (xs : List ℕ) → length xs ≤ length (insert_key nat_cmp xs k)
length_put k [] = omega arith
length_put k (x ∷ xs) =
    elim (cases_order k x) [
      | inl same ↦ let size : length (insert_key nat_cmp (x ∷ xs) k) ≡ length (x ∷ xs) = ap length (put_same k x xs same) in omega (arith, size)
      | inr (inl less) ↦ let size : length (insert_key nat_cmp (x ∷ xs) k) ≡ length (k ∷ x ∷ xs) = ap length (put_before k x xs less) in omega (arith, size)
      | inr (inr more) ↦ let size : length (insert_key nat_cmp (x ∷ xs) k) ≡ length (x ∷ insert_key nat_cmp xs k) = ap length (put_behind k x xs more) in omega (arith, size, length_put k xs)
    ]

-- the place of the first number that isn't lower
abbrev place_in : ℕ → List ℕ → ℕ
place_in k xs = position_or_len (λ n. nat_le k n) xs

place_first : (k x : ℕ) (xs : List ℕ) → k ≤ x → place_in k (x ∷ xs) ≡ 0
place_first k x xs low = ap (λ (b : Bool). cond (not b) (1 + place_in k xs) 0) (le-leb k x low)

place_later : (k x : ℕ) (xs : List ℕ) → x < k → place_in k (x ∷ xs) ≡ suc (place_in k xs)
place_later k x xs more = ap (λ (b : Bool). cond (not b) (1 + place_in k xs) 0) (lt-leb k x more) ∙ one_more (place_in k xs)

-- at its place, unless it is there
pub put_there : (k : ℕ) (xs : List ℕ) → slice_get xs (position_or_len (λ n. nat_le k n) xs) ≡ Some k → insert_key nat_cmp xs k ≡ xs
put_there k [] found = absurd (none-some k found)
put_there k (x ∷ xs) found =
    elim (cases_order k x) [
      | inl same ↦ put_same k x xs same
      | inr (inl less) ↦
          let at : Some x ≡ Some k = sym (ap (slice_get (x ∷ xs)) (place_first k x xs (omega (arith, less)))) ∙ found in
          let same : x ≡ k = cc in
          absurd (omega (arith, same, less))
      | inr (inr more) ↦
          let behind : slice_get xs (place_in k xs) ≡ Some k = sym (ap (slice_get (x ∷ xs)) (place_later k x xs more)) ∙ found in
          put_behind k x xs more ∙ ap (λ (ys : List ℕ). x ∷ ys) (put_there k xs behind)
    ]

pub put_new : (k : ℕ) (xs : List ℕ) → (slice_get xs (position_or_len (λ n. nat_le k n) xs) ≡ Some k → ⊥) → insert_key nat_cmp xs k ≡ insert xs (position_or_len (λ n. nat_le k n) xs) k
put_new k [] other = refl
put_new k (x ∷ xs) other =
    elim (cases_order k x) [
      | inl same ↦ absurd (other (ap (slice_get (x ∷ xs)) (place_first k x xs (omega (arith, same))) ∙ ap (λ (n : ℕ). Some n) (sym same)))
      | inr (inl less) ↦ put_before k x xs less ∙ ap (λ (i : ℕ). insert (x ∷ xs) i k) (sym (place_first k x xs (omega (arith, less))))
      | inr (inr more) ↦
          let later : slice_get xs (place_in k xs) ≡ Some k → ⊥ = λ found. other (ap (slice_get (x ∷ xs)) (place_later k x xs more) ∙ found) in
          put_behind k x xs more ∙ ap (λ (ys : List ℕ). x ∷ ys) (put_new k xs later) ∙ ap (λ (i : ℕ). insert (x ∷ xs) i k) (sym (place_later k x xs more))
    ]

-- what an insertion at that place comes to
pub added_there : (xs : List ℕ) (k place : ℕ) → place ≡ position_or_len (λ n. nat_le k n) xs → slice_get xs place ≡ Some k → insert_key nat_cmp xs k ≡ xs
added_there xs k place is found = put_there k xs (rw (← is) found)

pub added_new : (xs : List ℕ) (k place : ℕ) → place ≡ position_or_len (λ n. nat_le k n) xs → (slice_get xs place ≡ Some k → ⊥) → insert_key nat_cmp xs k ≡ insert xs place k
added_new xs k place is other = put_new k xs (rw (← is) other) ∙ ap (λ (i : ℕ). insert xs i k) (sym is)

pub fits_new : {T E : Type 0} (xs : List ℕ) (k place : ℕ) (r : Result T E) → (IsOk r ↔ (length xs < 8)) → insert_key nat_cmp xs k ≡ insert xs place k → place ≤ length xs → IsTrue (is_ok r) ↔ (length (insert_key nat_cmp xs k) ≤ 8)
fits_new xs k place r room is within =
    let size : length (insert_key nat_cmp xs k) ≡ length xs + 1 = ap length is ∙ length-insert xs place k within in
    (λ yes. omega (arith, size, room.0 yes), λ few. room.1 (omega (arith, size, few)))

pub left_new : {T E : Type 0} (old new : ArrayVec ℕ) (k place : ℕ) (r : Result T E) → OnOk r (new.items ≡ insert old.items place k) → OnErr r (new ≡ old) → insert_key nat_cmp old.items k ≡ insert old.items place k
    → new.items ≡ (if is_ok r then insert_key nat_cmp old.items k else old.items)
left_new old new k place (Ok t) ok err is = ok ∙ sym is
left_new old new k place (Err e) ok err is = ap (λ (v : ArrayVec ℕ). v.items) err

pub place_within : (k : ℕ) (xs : List ℕ) → position_or_len (λ n. nat_le k n) xs ≤ length xs
place_within k [] = omega arith
place_within k (x ∷ xs) =
    elim (cases_order k x) [
      | inl same ↦ omega (arith, place_first k x xs (omega (arith, same)))
      | inr (inl less) ↦ omega (arith, place_first k x xs (omega (arith, less)))
      | inr (inr more) ↦ omega (arith, place_later k x xs more, place_within k xs)
    ]

pub place_found : (k : ℕ) (xs : List ℕ) → unwrap_or (position (λ n. nat_le k n) xs) (length xs) ≡ position_or_len (λ n. nat_le k n) xs
place_found k xs =
    elim (cases_lt (place_in k xs) (length xs)) [
      | inl inside ↦ rw (lt-ltb (place_in k xs) (length xs) inside) refl
      | inr outside ↦
          let whole : length xs ≡ place_in k xs = omega (arith, outside, place_within k xs) in
          rw (le-ltb (place_in k xs) (length xs) outside) whole
    ]

-- ---- many

rising_puts : (ks xs : List ℕ) → AllPairs Below xs → AllPairs Below (fold (insert_key nat_cmp) xs ks)
rising_puts [] xs rising = rising
rising_puts (k ∷ ks) xs rising = rising_puts ks (insert_key nat_cmp xs k) (rising_put k xs rising)

has_puts : (v : ℕ) (ks xs : List ℕ) → list_any (λ n. n == v) (fold (insert_key nat_cmp) xs ks) ≡ (list_any (λ n. n == v) ks || list_any (λ n. n == v) xs)
has_puts v [] xs = refl
has_puts v (k ∷ ks) xs =
    has_puts v ks (insert_key nat_cmp xs k) ∙ ap (λ b. list_any (λ n. n == v) ks || b) (has_put v k xs)
    ∙ or_move (list_any (λ n. n == v) ks) (k == v) (list_any (λ n. n == v) xs)

pub length_puts : (ks xs : List ℕ) → length xs ≤ length (fold (insert_key nat_cmp) xs ks)
length_puts [] xs = omega arith
length_puts (k ∷ ks) xs = omega (arith, length_put k xs, length_puts ks (insert_key nat_cmp xs k))

pub fold-append : (ks ls xs : List ℕ) → fold (insert_key nat_cmp) xs (ks ++ ls) ≡ fold (insert_key nat_cmp) (fold (insert_key nat_cmp) xs ks) ls
fold-append [] ls xs = refl
fold-append (k ∷ ks) ls xs = fold-append ks ls (insert_key nat_cmp xs k)

-- a test that fails
pub no_room : (n : ℕ) (fits : Bool) → fits ≡ false → (IsTrue fits ↔ (n ≤ 8)) → 8 < n
no_room n fits fails tells =
    elim (cases_lt 8 n) [
      | inl many ↦ many
      | inr few ↦ absurd (false≢true (sym fails ∙ tells.1 few))
    ]

-- numbers for one of which there is no room
pub puts_too_many : (before xs : List ℕ) (i d : ℕ) → i < length xs → 8 < length (insert_key nat_cmp (fold (insert_key nat_cmp) before (take i xs)) (get_or xs i d)) → 8 < length (fold (insert_key nat_cmp) before xs)
puts_too_many before xs i d within many =
    let front = fold (insert_key nat_cmp) before (take (i + 1) xs) in
    let size : length front ≡ length (insert_key nat_cmp (fold (insert_key nat_cmp) before (take i xs)) (get_or xs i d)) = ap length (fold_more (insert_key nat_cmp) before xs i d within) in
    let whole : fold (insert_key nat_cmp) front (drop (i + 1) xs) ≡ fold (insert_key nat_cmp) before xs =
    sym (fold-append (take (i + 1) xs) (drop (i + 1) xs) before) ∙ ap (fold (insert_key nat_cmp) before) (take-append-drop (i + 1) xs) in
    omega (arith, many, size, length_puts (drop (i + 1) xs) front, ap length whole)

-- ---- the VLANs of ports

abbrev pub numbers_in : List PortPlan → List ℕ
numbers_in ports = flat_map (λ (p : PortPlan). numbers_of_vlan p.vlan) ports

numbers-append : (ports more : List PortPlan) → numbers_in (ports ++ more) ≡ numbers_in ports ++ numbers_in more
numbers-append [] more = refl
numbers-append (p ∷ ports) more =
    ap (λ (ns : List ℕ). numbers_of_vlan p.vlan ++ ns) (numbers-append ports more) ∙ sym (append_assoc (numbers_of_vlan p.vlan) (numbers_in ports) (numbers_in more))

-- one port more, and ports for one of which there is no room
pub ports_more : (ports : List PortPlan) (i : ℕ) (p : PortPlan) → i < length ports → p ≡ get_or ports i p → fold (insert_key nat_cmp) [] (numbers_in (take (i + 1) ports)) ≡ fold (insert_key nat_cmp) (fold (insert_key nat_cmp) [] (numbers_in (take i ports))) (numbers_of_vlan p.vlan)
ports_more ports i p within is =
    let more : take (i + 1) ports ≡ take i ports ++ p ∷ [] = rw (take_more ports i p within, ← is) in
    let split : numbers_in (take (i + 1) ports) ≡ numbers_in (take i ports) ++ numbers_of_vlan p.vlan =
    ap numbers_in more ∙ numbers-append (take i ports) (p ∷ []) ∙ ap (λ (ns : List ℕ). numbers_in (take i ports) ++ ns) (append-nil (numbers_of_vlan p.vlan)) in
    ap (fold (insert_key nat_cmp) []) split ∙ fold-append (numbers_in (take i ports)) (numbers_of_vlan p.vlan) []

pub ports_too_many : (ports : List PortPlan) (i : ℕ) (p : PortPlan) → i < length ports → p ≡ get_or ports i p → 8 < length (fold (insert_key nat_cmp) (fold (insert_key nat_cmp) [] (numbers_in (take i ports))) (numbers_of_vlan p.vlan)) → 8 < length (vlans_of_ports ports)
ports_too_many ports i p within is many =
    let front = fold (insert_key nat_cmp) [] (numbers_in (take (i + 1) ports)) in
    let size = ap length (ports_more ports i p within is) in
    let split : numbers_in (take (i + 1) ports) ++ numbers_in (drop (i + 1) ports) ≡ numbers_in ports =
    sym (numbers-append (take (i + 1) ports) (drop (i + 1) ports)) ∙ ap numbers_in (take-append-drop (i + 1) ports) in
    let whole : fold (insert_key nat_cmp) front (numbers_in (drop (i + 1) ports)) ≡ vlans_of_ports ports =
    sym (fold-append (numbers_in (take (i + 1) ports)) (numbers_in (drop (i + 1) ports)) []) ∙ ap (fold (insert_key nat_cmp) []) split in
    omega (arith, many, size, length_puts (numbers_in (drop (i + 1) ports)) front, ap length whole)

-- what is said of the VLANs of ports goes by these alone
pub vlans_by : (ports : List PortPlan) → vlans_of_ports ports ≡ fold (insert_key nat_cmp) [] (flat_map numbers_of_vlan (map (λ (p : PortPlan). p.vlan) ports))
vlans_by ports = ap (fold (insert_key nat_cmp) []) (sym (flat_map-map numbers_of_vlan (λ (p : PortPlan). p.vlan) ports))

abbrev none_rise : AllPairs Below []
none_rise = λ i j d first within. absurd (omega (arith, within))

pub vlans_rise : (ports : List PortPlan) → IsStrictlyIncreasing (vlans_of_ports ports)
vlans_rise ports = λ k within. rising_puts (flat_map (λ (p : PortPlan). numbers_of_vlan p.vlan) ports) [] none_rise k (k + 1) 0 (omega arith) within

any_member : (v : ℕ) (ports : List PortPlan) → list_any (λ n. n == v) (flat_map (λ (p : PortPlan). numbers_of_vlan p.vlan) ports) ≡ list_any (is_member_of v) ports
any_member v [] = refl
any_member v (p ∷ ports) =
    list_any-append (λ n. n == v) (numbers_of_vlan p.vlan) (flat_map (λ (q : PortPlan). numbers_of_vlan q.vlan) ports)
    ∙ ap (λ b. list_any (λ n. n == v) (numbers_of_vlan p.vlan) || b) (any_member v ports)

pub vlans_have : (v : ℕ) (ports : List PortPlan) → list_any (λ n. n == v) (vlans_of_ports ports) ≡ list_any (is_member_of v) ports
vlans_have v ports =
    let numbers = flat_map (λ (p : PortPlan). numbers_of_vlan p.vlan) ports in
    has_puts v numbers [] ∙ or_none (list_any (λ n. n == v) numbers) ∙ any_member v ports

some_number : (numbers rest : List ℕ) → 1 ≤ length numbers → 1 ≤ length (fold (insert_key nat_cmp) [] (numbers ++ rest))
some_number [] rest some = absurd (omega arith)
some_number (n ∷ numbers) rest some = omega (arith, length_puts (numbers ++ rest) (n ∷ []))

pub some_vlan : (ports : List PortPlan) → 1 ≤ length ports → All HasPlanVlans ports → 1 ≤ length (vlans_of_ports ports)
some_vlan [] some each = absurd (omega arith)
some_vlan (p ∷ ports) some each =
    some_number (numbers_of_vlan p.vlan) (flat_map (λ (q : PortPlan). numbers_of_vlan q.vlan) ports) (All-head HasPlanVlans p ports each).some

-- what holds of each number of each port holds of each VLAN
all_puts : (P : ℕ → Type 0) (ks xs : List ℕ) → All P ks → All P xs → All P (fold (insert_key nat_cmp) xs ks)
all_puts P [] xs each before = before
all_puts P (k ∷ ks) xs each before = all_puts P ks (insert_key nat_cmp xs k) (All-tail P k ks each) (All-insert_key nat_cmp k P xs before (All-head P k ks each))

all_numbers : (P : ℕ → Type 0) (ports : List PortPlan) → All (λ (p : PortPlan). All P (numbers_of_vlan p.vlan)) ports → All P (flat_map (λ (p : PortPlan). numbers_of_vlan p.vlan) ports)
all_numbers P [] each = All-nil P
all_numbers P (p ∷ ports) each =
    let Numbers : PortPlan → Type 0 = λ q. All P (numbers_of_vlan q.vlan) in
    All-append P (numbers_of_vlan p.vlan) (flat_map (λ (q : PortPlan). numbers_of_vlan q.vlan) ports) (All-head Numbers p ports each) (all_numbers P ports (All-tail Numbers p ports each))

pub vlans_all : (P : ℕ → Type 0) (ports : List PortPlan) → All (λ (p : PortPlan). All P (numbers_of_vlan p.vlan)) ports → All P (vlans_of_ports ports)
vlans_all P ports each = all_puts P (flat_map (λ (p : PortPlan). numbers_of_vlan p.vlan) ports) [] (all_numbers P ports each) (All-nil P)
