-- Passes that have taken as many turns as the tally has room for leave it full.
use Rattle.std.proofs.Common.{◌≡◌, ◌⊎◌, inl, inr, ℕ, zero, suc, ◌+◌, ◌*◌, ◌<◌, ◌≤◌, List, [], ◌∷◌, length, cond, eq-eqb, ne_eqb, sym, refl, ap, ◌∙◌, subst, arith, length-append, get_or, Some}
use Rattle.std.proofs.Math.Nat.{suc-mul}
use mathlib.Core.Logic.{dite}
use native.Mathlib.Decide.{ℕ_discrete, dec_le}
use lib.ListN.{length-map}
use Rattle.std.specs.List.{All, slice_get}
use Rattle.std.proofs.lemmas.Option.{get_or_from_slice_get, slice_get_within}
use Rattle.table_lock.specs.declared.lock.TableLock.{TableLock}
use Rattle.table_lock.specs.declared.pass.Pass.{Pass}
use Rattle.table_lock.specs.Passes.{AreNumbered, lock_first, lock_seats, pass_number, pass_own, pass_seen}
use Rattle.lock_bench.specs.Made.{HasMade, HaveFilled, room_of}
use Rattle.table_lock.specs.Entries.{Entry, EntryList, mine, StartsWith}
use Rattle.table_lock.specs.Tallies.{Tallied, tally_fixed, tally_history}

starts_le : (whole front : EntryList) → StartsWith whole front → length front ≤ length whole
starts_le whole front s = let e = ap length s.1 ∙ length-append front s.0 in omega arith

-- the entries of the passes with the numbers below n
abbrev below : ℕ → EntryList → ℕ
below zero H = 0
below (suc n) H = below n H + length (mine n H)

-- an entry of a pass with another number isn't counted, and one with such a number once
below_no : (n : ℕ) (e : Entry) (H : EntryList) → n ≤ e.0 → below n (e ∷ H) ≡ below n H
below_no zero e H past = refl
below_no (suc n) e H past =
    let k = below_no n e H (omega arith) in
    let l : length (mine n (e ∷ H)) ≡ length (mine n H) = ap (λ b. length (cond b (e ∷ mine n H) (mine n H))) (ne_eqb e.0 n (λ z. omega arith)) in
    omega arith

below_one : (n : ℕ) (e : Entry) (H : EntryList) → below n (e ∷ H) ≤ below n H + 1
below_one zero e H = omega arith
below_one (suc n) e H = dite (ℕ_discrete e.0 n)
    (λ here.
    let k = below_no n e H (omega arith) in
    let l : length (mine n (e ∷ H)) ≡ suc (length (mine n H)) = ap (λ b. length (cond b (e ∷ mine n H) (mine n H))) (eq-eqb e.0 n here) in
    omega arith)
    (λ other.
    let k = below_one n e H in
    let l : length (mine n (e ∷ H)) ≡ length (mine n H) = ap (λ b. length (cond b (e ∷ mine n H) (mine n H))) (ne_eqb e.0 n other) in
    omega arith)

below_none : (n : ℕ) → below n [] ≡ 0
below_none zero = refl
below_none (suc n) = let k = below_none n in omega arith

below_all : (n : ℕ) (H : EntryList) → below n H ≤ length H
below_all n [] = let k = below_none n in omega arith
below_all n (e ∷ H) = let k = below_one n e H in let l = below_all n H in omega arith

below_shares : (n turns : ℕ) (H : EntryList) → ((i : ℕ) → i < n → turns ≤ length (mine i H)) → n * turns ≤ below n H
below_shares zero turns H each = omega arith
below_shares (suc n) turns H each =
    let k = below_shares n turns H (λ i l. each i (omega arith)) in
    let l = each n (omega arith) in
    let m : suc n * turns ≡ n * turns + turns = suc-mul n turns in
    omega arith

-- passes with as many entries each as their share of the room have filled it
pub shares : (n turns : ℕ) (H : EntryList) → ((i : ℕ) → i < n → turns ≤ length (mine i H)) → n * turns ≤ length H
shares n turns H each = let k = below_shares n turns H each in let l = below_all n H in omega arith

-- what holds of all passes holds of the one at a place
all_at : (P : Pass → Type 0) (passes : List Pass) (k : ℕ) (p : Pass) → slice_get passes k ≡ Some p → All P passes → P p
all_at P passes k p at all = subst P (get_or_from_slice_get passes k p p at) (all k p (slice_get_within passes k p at))

pub filled : (lock : TableLock Tallied) (passes : List Pass) (y : Tallied) → HaveFilled lock passes
    → All (λ p. mine (pass_number p) (tally_history y) ≡ pass_own p) passes → All (λ p. StartsWith (tally_history y) (pass_seen p)) passes
    → AreNumbered (lock_seats lock) passes → tally_fixed y ≡ tally_fixed (lock_first lock) → length y.numbers ≤ y.room → length y.numbers ≡ room_of lock
filled lock passes y f entries begins numbers same fits =
    let room : y.room ≡ room_of lock = ap (λ (l : List ℕ). get_or l 0 0) same in
    let long : length (tally_history y) ≡ length y.numbers = length-map y.numbers (λ n. (n, [])) in
    let full : room_of lock ≤ length (tally_history y) = dite (dec_le (room_of lock) (length (tally_history y))) (λ h. h)
    (λ short. let s = shares (lock_seats lock) f.0 (tally_history y) (λ i l. share short i (numbers i l)) in let r = f.1 in absurd (omega arith)) in
    omega arith
  where
    share : (room_of lock ≤ length (tally_history y) → ⊥) → (i : ℕ) → (k : ℕ) × (p : Pass) × (slice_get passes k ≡ Some p) × (pass_number p ≡ i) → f.0 ≤ length (mine i (tally_history y))
    share short i (k, p, at, number) = go (all_at (HasMade lock f.0) passes k p at f.2).1
      where
        go : (length (pass_own p) ≡ f.0) ⊎ (room_of lock ≤ length (pass_seen p)) → f.0 ≤ length (mine i (tally_history y))
        go (inl e) =
            let own : mine i (tally_history y) ≡ pass_own p = ap (λ (n : ℕ). mine n (tally_history y)) (sym number) ∙ all_at (λ q. mine (pass_number q) (tally_history y) ≡ pass_own q) passes k p at entries in
            let l = ap length own in
            omega arith
        go (inr r) =
            let b = starts_le (tally_history y) (pass_seen p) (all_at (λ q. StartsWith (tally_history y) (pass_seen q)) passes k p at begins) in
            absurd (short (omega arith))
