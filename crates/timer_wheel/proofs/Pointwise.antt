-- Pairs in order, told from what is due for each address.
use Rattle.std.proofs.Common.{◌≡◌, ◌≢◌, ◌⊎◌, ℕ, ◌+◌, ◌≤◌, ◌<◌, nat_le, Bool, true, false, List, [], ◌∷◌, ◌++◌, filter, Option, None, Some, All, refl, sym, ap, ◌∙◌, arith, inl, inr}
use Rattle.std.proofs.lemmas.Bool.{cases_Bool, cases_eq, cases_lt, lt-ltb, le-ltb, le-leb, lt-leb, eqb-true, eq-eqb}
use Rattle.std.proofs.lemmas.List.Elements.{All-head, All-tail, All-cons, All-weaker}
use Rattle.savi_kinds.specs.declared.address.Addr.{Addr}
use Rattle.timer_wheel.specs.declared.armed.Armed.{Armed}
use Rattle.savi_kinds.specs.Orders.{is_below, is_above, IsRising}
use Rattle.timer_wheel.specs.Arms.{armed_address, is_of, due_in, with_due, pair_for, sooner, first_armed, due_within}
use Rattle.timer_wheel.proofs.Rising.{behind, rest_rising, is_of-other, due_in-none}

-- the first of two that is there
abbrev pub or_else : Option ℕ → Option ℕ → Option ℕ
or_else None other = other
or_else (Some x) other = Some x

pub none-some : {X : Type 0} (o : Option X) (x : X) → o ≡ None → o ≡ Some x → ⊥
none-some o x none some = let both : None ≡ Some x = sym none ∙ some in cc

abbrev pub some_or : {X : Type 0} → X → Option X → X
some_or d None = d
some_or d (Some x) = x

pub some-same : {X : Type 0} (x y : X) → Some x ≡ Some y → x ≡ y
some-same x y same = ap (some_or x) same

pub due_in-append : (xs ys : List Armed) (a : ℕ) → due_in (xs ++ ys) a ≡ or_else (due_in xs a) (due_in ys a)
due_in-append [] ys a = refl
due_in-append (x ∷ xs) ys a =
    elim (cases_Bool (is_of a x)) [
      | inl here ↦ simp here refl
      | inr other ↦ simp other (due_in-append xs ys a)
    ]

-- a filter that lets the pair of an address pass
pub due_in-passes : (p : Armed → Bool) (a : ℕ) (xs : List Armed) → ((x : Armed) → x.address.0 ≡ a → p x ≡ true) → due_in (filter p xs) a ≡ due_in xs a
due_in-passes p a [] passes = refl
due_in-passes p a (x ∷ xs) passes =
    let rest : due_in (filter p xs) a ≡ due_in xs a = due_in-passes p a xs passes in
    elim (cases_Bool (is_of a x)) [
      | inl here ↦ rw (passes x (eqb-true x.address.0 a here), here) refl
      | inr other ↦
          elim (cases_Bool (p x)) [
            | inl yea ↦ simp (yea, other) rest
            | inr nay ↦ simp (nay, other) rest
          ]
    ]

-- one that stops it
pub due_in-stops : (p : Armed → Bool) (a : ℕ) (xs : List Armed) → ((x : Armed) → x.address.0 ≡ a → p x ≡ false) → due_in (filter p xs) a ≡ None
due_in-stops p a [] stops = refl
due_in-stops p a (x ∷ xs) stops =
    let rest : due_in (filter p xs) a ≡ None = due_in-stops p a xs stops in
    elim (cases_Bool (is_of a x)) [
      | inl here ↦ rw (stops x (eqb-true x.address.0 a here)) rest
      | inr other ↦
          elim (cases_Bool (p x)) [
            | inl yea ↦ simp (yea, other) rest
            | inr nay ↦ simp (nay) rest
          ]
    ]

-- what is due for an address once something was armed or canceled for it
pub due_in-with_same : (a : ℕ) (o : Option ℕ) (xs : List Armed) → due_in (with_due a o xs) a ≡ o
due_in-with_same a o xs = due_in-append (filter (is_below armed_address a) xs) (pair_for a o ++ filter (is_above armed_address a) xs) a ∙ rw front (mine o)
  where
    front : due_in (filter (is_below armed_address a) xs) a ≡ None
    front = due_in-stops (is_below armed_address a) a xs (λ x same. le-ltb x.address.0 a (omega (arith, same)))

    back : due_in (filter (is_above armed_address a) xs) a ≡ None
    back = due_in-stops (is_above armed_address a) a xs (λ x same. le-ltb a x.address.0 (omega (arith, same)))

    mine : (p : Option ℕ) → due_in (pair_for a p ++ filter (is_above armed_address a) xs) a ≡ p
    mine None = back
    mine (Some d) = rw (eq-eqb a a refl) refl

-- and for another one
pub due_in-with_other : (a b : ℕ) (o : Option ℕ) (xs : List Armed) → b ≢ a → due_in (with_due a o xs) b ≡ due_in xs b
due_in-with_other a b o xs other = due_in-append (filter (is_below armed_address a) xs) (pair_for a o ++ filter (is_above armed_address a) xs) b ∙ go (cases_lt b a)
  where
    past : (p : Option ℕ) → due_in (pair_for a p ++ filter (is_above armed_address a) xs) b ≡ due_in (filter (is_above armed_address a) xs) b
    past None = refl
    past (Some d) = rw (is_of-other b (record { address = record { 0 = a }; due = d }) (λ same. other (sym same))) refl

    none_behind : (o : Option ℕ) → or_else o None ≡ o
    none_behind None = refl
    none_behind (Some x) = refl

    go : (b < a) ⊎ (a ≤ b) → or_else (due_in (filter (is_below armed_address a) xs) b) (due_in (pair_for a o ++ filter (is_above armed_address a) xs) b) ≡ due_in xs b
    go (inl low) =
        rw (past o, due_in-stops (is_above armed_address a) b xs (λ x same. le-ltb a x.address.0 (omega (arith, same, low))), due_in-passes (is_below armed_address a) b xs (λ x same. lt-ltb x.address.0 a (omega (arith, same, low))))
        (none_behind (due_in xs b))
    go (inr high) =
        let above : a < b = omega (arith, high, other) in
        rw (past o, due_in-stops (is_below armed_address a) b xs (λ x same. le-ltb x.address.0 a (omega (arith, same, above))))
        (due_in-passes (is_above armed_address a) b xs (λ x same. lt-ltb a x.address.0 (omega (arith, same, above))))

-- what is due for an address that is higher than those of a list's head isn't at its head
pub behind_head : (x : Armed) (xs : List Armed) (a d : ℕ) → IsRising armed_address (x ∷ xs) → due_in xs a ≡ Some d → x.address.0 < a
behind_head x xs a d rising found =
    elim (cases_lt x.address.0 a) [
      | inl lower ↦ lower
      | inr not_lower ↦
          absurd (none-some (due_in xs a) d (due_in-none a xs (All-weaker (λ y. x.address.0 < y.address.0) (λ y. a < y.address.0) (λ y h. omega (arith, h, not_lower)) xs (behind x xs rising))) found)
    ]

pub due_in-head : (x : Armed) (xs : List Armed) → due_in (x ∷ xs) x.address.0 ≡ Some x.due
due_in-head x xs = rw (eq-eqb x.address.0 x.address.0 refl) refl

pub due_in-behind : (x : Armed) (xs : List Armed) (a : ℕ) → x.address.0 ≢ a → due_in (x ∷ xs) a ≡ due_in xs a
due_in-behind x xs a other = rw (is_of-other a x other) refl

pub rest_none : (x : Armed) (xs : List Armed) → IsRising armed_address (x ∷ xs) → due_in xs x.address.0 ≡ None
rest_none x xs rising = due_in-none x.address.0 xs (behind x xs rising)

-- two rising lists in which the same is due for each address are one list
pub one_list : (xs ys : List Armed) → IsRising armed_address xs → IsRising armed_address ys → ((a : ℕ) → due_in xs a ≡ due_in ys a) → xs ≡ ys
one_list [] [] rx ry same = refl
one_list [] (y ∷ ys) rx ry same = absurd (none-some (due_in (y ∷ ys) y.address.0) y.due (sym (same y.address.0)) (due_in-head y ys))
one_list (x ∷ xs) [] rx ry same = absurd (none-some (due_in (x ∷ xs) x.address.0) x.due (same x.address.0) (due_in-head x xs))
one_list (x ∷ xs) (y ∷ ys) rx ry same = by_address (one_list xs ys (rest_rising x xs rx) (rest_rising y ys ry)) (cases_lt x.address.0 y.address.0) (cases_lt y.address.0 x.address.0)
  where
    rest : x.address.0 ≡ y.address.0 → (a : ℕ) → due_in xs a ≡ due_in ys a
    rest one a =
        elim (cases_eq a x.address.0) [
          | inl here ↦ ap (due_in xs) here ∙ rest_none x xs rx ∙ sym (ap (due_in ys) (here ∙ one) ∙ rest_none y ys ry)
          | inr other ↦ sym (due_in-behind x xs a (λ e. other (sym e))) ∙ same a ∙ due_in-behind y ys a (λ e. other (sym e ∙ sym one))
        ]

    by_address : (((a : ℕ) → due_in xs a ≡ due_in ys a) → xs ≡ ys) → (x.address.0 < y.address.0) ⊎ (y.address.0 ≤ x.address.0) → (y.address.0 < x.address.0) ⊎ (x.address.0 ≤ y.address.0) → (x ∷ xs) ≡ (y ∷ ys)
    by_address step (inl less) other =
        absurd
        (none-some (due_in (y ∷ ys) x.address.0) x.due
        (due_in-behind y ys x.address.0 (λ e. omega (arith, e, less)) ∙ due_in-none x.address.0 ys (All-weaker (λ z. y.address.0 < z.address.0) (λ z. x.address.0 < z.address.0) (λ z h. omega (arith, h, less)) ys (behind y ys ry)))
        (sym (same x.address.0) ∙ due_in-head x xs))
    by_address step (inr le) (inl less) =
        absurd
        (none-some (due_in (x ∷ xs) y.address.0) y.due
        (due_in-behind x xs y.address.0 (λ e. omega (arith, e, less)) ∙ due_in-none y.address.0 xs (All-weaker (λ z. x.address.0 < z.address.0) (λ z. y.address.0 < z.address.0) (λ z h. omega (arith, h, less)) xs (behind x xs rx)))
        (same y.address.0 ∙ due_in-head y ys))
    by_address step (inr le) (inr ge) =
        let one : x.address.0 ≡ y.address.0 = omega (arith, le, ge) in
        let due : x.due ≡ y.due = some-same x.due y.due (sym (due_in-head x xs) ∙ same x.address.0 ∙ ap (due_in (y ∷ ys)) one ∙ due_in-head y ys) in
        let head : x ≡ y = ap (λ a. record { address = record { 0 = a }; due = x.due }) one ∙ ap (λ d. record { address = y.address; due = d }) due in
        ap (λ z. z ∷ xs) head ∙ ap (λ zs. y ∷ zs) (step (rest one))

-- what holds of each address and its moment holds of each pair
pub all_pairs : (P : ℕ → ℕ → Type 0) (xs : List Armed) → IsRising armed_address xs → ((a d : ℕ) → due_in xs a ≡ Some d → P a d) → All (λ y. P y.address.0 y.due) xs
all_pairs P [] rising each = λ k d within. absurd (omega (arith, within))
all_pairs P (x ∷ xs) rising each =
    All-cons (λ y. P y.address.0 y.due) x xs (each x.address.0 x.due (due_in-head x xs))
    (all_pairs P xs (rest_rising x xs rising)
    (λ a d found. each a d (due_in-behind x xs a (λ e. let lower : x.address.0 < a = behind_head x xs a d rising found in omega (arith, lower, e)) ∙ found)))

-- the first is due no sooner than each
pub first_above : (t : ℕ) (xs : List Armed) (f : ℕ × Addr) → All (λ y. t ≤ y.due) xs → first_armed xs ≡ Some f → t ≤ f.0
first_above t [] f late found = absurd (none-some (first_armed []) f refl found)
first_above t (x ∷ xs) f late found = go (λ g is. first_above t xs g (All-tail (λ y. t ≤ y.due) x xs late) is) (first_armed xs) refl found
  where
    here : t ≤ x.due
    here = All-head (λ y. t ≤ y.due) x xs late

    go : ((g : ℕ × Addr) → first_armed xs ≡ Some g → t ≤ g.0) → (o : Option (ℕ × Addr)) → first_armed xs ≡ o → sooner x o ≡ Some f → t ≤ f.0
    go rest None is same = let e : x.due ≡ f.0 = ap (λ p. p.0) (some-same (x.due, x.address) f same) in omega (arith, here, e)
    go rest (Some g) is same =
        elim (cases_Bool (nat_le x.due g.0)) [
          | inl yea ↦ let e : x.due ≡ f.0 = ap (λ p. p.0) (some-same (x.due, x.address) f (rw yea at same)) in omega (arith, here, e)
          | inr nay ↦
              let e : g.0 ≡ f.0 = ap (λ p. p.0) (some-same g f (rw nay at same)) in
              omega (arith, rest g is, e)
        ]

-- nothing is due by t where each pair is due later
pub first_late : (t : ℕ) (xs : List Armed) → All (λ y. t < y.due) xs → due_within t (first_armed xs) ≡ None
first_late t xs late = go (first_armed xs) refl
  where
    go : (o : Option (ℕ × Addr)) → first_armed xs ≡ o → due_within t o ≡ None
    go None is = refl
    go (Some f) is = let above : t + 1 ≤ f.0 = first_above (t + 1) xs f (All-weaker (λ y. t < y.due) (λ y. t + 1 ≤ y.due) (λ y h. omega (arith, h)) xs late) is in rw (lt-leb f.0 t (omega (arith, above))) refl

-- one pair is due sooner than another one, or at the same moment and of no higher address
abbrev pub IsNoLater : ℕ → ℕ → ℕ → ℕ → Type 0
IsNoLater due a other_due other_a = (due < other_due) ⊎ ((due ≡ other_due) × (a ≤ other_a))

-- the least pair is the first
pub first_is : (a d : ℕ) (xs : List Armed) → IsRising armed_address xs → due_in xs a ≡ Some d → All (λ y. IsNoLater d a y.due y.address.0) xs → first_armed xs ≡ Some (d, record { 0 = a })
first_is a d [] rising found least = absurd (none-some (due_in [] a) d refl found)
first_is a d (x ∷ xs) rising found least =
    go (λ there. first_is a d xs (rest_rising x xs rising) there (All-tail (λ y. IsNoLater d a y.due y.address.0) x xs least)) (cases_Bool (is_of a x))
  where
    no_sooner : All (λ y. d ≤ y.due) xs
    no_sooner =
        All-weaker (λ y. IsNoLater d a y.due y.address.0) (λ y. d ≤ y.due) (λ y h. elim h [ inl sooner_one ↦ omega (arith, sooner_one) | inr same ↦ omega (arith, same.0) ]) xs
        (All-tail (λ y. IsNoLater d a y.due y.address.0) x xs least)

    mine : x.due ≡ d → x.address.0 ≡ a → (o : Option (ℕ × Addr)) → first_armed xs ≡ o → sooner x o ≡ Some (d, record { 0 = a })
    mine due here None is = ap (λ n. Some (n, x.address)) due ∙ ap (λ n. Some (d, record { 0 = n })) here
    mine due here (Some g) is =
        rw (le-leb x.due g.0 (omega (arith, due, first_above d xs g no_sooner is)))
        (ap (λ n. Some (n, x.address)) due ∙ ap (λ n. Some (d, record { 0 = n })) here)

    later : due_in xs a ≡ Some d → IsNoLater d a x.due x.address.0 → d < x.due
    later there (inl less) = less
    later there (inr same) = let lower : x.address.0 < a = behind_head x xs a d rising there in absurd (omega (arith, lower, same.1))

    go : (due_in xs a ≡ Some d → first_armed xs ≡ Some (d, record { 0 = a })) → ((is_of a x ≡ true) ⊎ (is_of a x ≡ false)) → first_armed (x ∷ xs) ≡ Some (d, record { 0 = a })
    go step (inl here) = mine (some-same x.due d (rw here at found)) (eqb-true x.address.0 a here) (first_armed xs) refl
    go step (inr other) =
        let there : due_in xs a ≡ Some d = rw other at found in
        rw (step there, lt-leb x.due d (later there (All-head (λ y. IsNoLater d a y.due y.address.0) x xs least))) refl
