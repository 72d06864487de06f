-- The passes as they are dealt, and as they come in at the end.
use Rattle.std.proofs.Common.{◌≡◌, ℕ, zero, suc, ◌+◌, ◌<◌, ◌≤◌, ◌⊎◌, inl, inr, ⊎_elim, List, [], ◌∷◌, ◌++◌, length, get_or, sym, refl, ap, ◌∙◌, subst, arith, append_assoc, length-append, Option, Some, None}
use Rattle.std.specs.List.{slice_get, insert, All}
use mathlib.Core.Logic.{dite}
use mathlib.Core.Option.{some, some-injective, some-ne-none}
use native.Mathlib.Decide.{ℕ_discrete}
use lib.ListN.{get_elem?, get_or-append}
use lib.Seq.{get_or-append_seam}
use Rattle.atomic_table.proofs.Lists.{at_longer}
use Rattle.table_lock.specs.declared.board.Stage.TheVariants.{Idle}
use Rattle.table_lock.specs.declared.board.View.{View}
use Rattle.table_lock.specs.declared.pass.Pass.{Pass}
use Rattle.table_lock.specs.Entries.{EntryList, mine, StartsWith}
use Rattle.table_lock.specs.Rule.{Map, Has}
use Rattle.table_lock.specs.Plays.{both, newcomer}
use Rattle.table_lock.specs.Views.{at_turn, view_of}
use Rattle.table_lock.specs.Passes.{pass_number, pass_table, pass_seen, pass_sleeps_at, pass_own, pass_fixed, AreNumbered}
use Rattle.table_lock.proofs.Seats.{Ended}
use Rattle.table_lock.proofs.Maps.{has_left, has_right, has_either, has_only}

module _ {A : Type 0} where
  pub at_get_or : (l : List A) (k : ℕ) (d : A) → k < length l → get_elem? l k ≡ some (get_or l k d)
  at_get_or [] k d h = absurd (omega arith)
  at_get_or (x ∷ xs) zero d h = refl
  at_get_or (x ∷ xs) (suc k) d h = at_get_or xs k d (omega arith)

  pub slice_get_at : (l : List A) (k : ℕ) (a : A) → get_elem? l k ≡ some a → slice_get l k ≡ Some a
  slice_get_at [] k a e = absurd (some-ne-none a (sym e))
  slice_get_at (x ∷ xs) zero a e = ap (λ (y : A). Some y) (some-injective x a e)
  slice_get_at (x ∷ xs) (suc k) a e = slice_get_at xs k a e

  pub all_parts : (P : A → Type 0) (xs : List A) (x : A) → All P (xs ++ x ∷ []) → All P xs × P x
  all_parts P xs x all = (
    (λ k d h. let l = length-append xs (x ∷ []) in subst P (get_or-append xs (x ∷ []) d k h) (all k d (omega arith))),
    (let l = length-append xs (x ∷ []) in subst P (get_or-append_seam xs x [] x) (all (length xs) x (omega arith))),
  )

  pub insert_front : (xs : List A) (x : A) → insert xs 0 x ≡ x ∷ xs
  insert_front [] x = refl
  insert_front (y ∷ ys) x = refl

  pub only_came : (all rest came : List A) → all ≡ rest ++ came → length rest ≡ 0 → all ≡ came
  only_came all [] came e none_left = e
  only_came all (x ∷ xs) came e none_left = absurd (omega arith)

-- the view of a new pass is that of a pass between two turns
pub newcomer_pass : (v : View) (number : ℕ) → v.seats ≡ number → newcomer v ≡ at_turn number Idle (newcomer v)
newcomer_pass v number e = ap (λ (s : ℕ). record { number = Some s; stage = Idle; seats = 0; seen = []; mine = (s, []) ∷ []; fixed = v.fixed; told = [] }) e

-- the pass is the k-th of a lock
pub record IsDealt (z : Rattle.atomic_table.specs.Seated.TableId) (F : List ℕ) (k : ℕ) (p : Pass) : Type 0 where
  pub number : pass_number p ≡ k
  pub seen : pass_seen p ≡ []
  pub table : pass_table p ≡ z
  pub fixed : pass_fixed p ≡ F
  pub sleeps : pass_sleeps_at p ≡ None

-- each pass is the one that its place and a first number say
abbrev pub AllDealt : Rattle.atomic_table.specs.Seated.TableId → List ℕ → ℕ → List Pass → Type 0
AllDealt z F first passes = (k : ℕ) (d : Pass) → k < length passes → IsDealt z F (first + k) (get_or passes k d)

pub dealt_more : (z : Rattle.atomic_table.specs.Seated.TableId) (F : List ℕ) (first : ℕ) (passes : List Pass) (p : Pass) → AllDealt z F first passes → IsDealt z F (first + length passes) p → AllDealt z F first (passes ++ p ∷ [])
dealt_more z F first passes p all last k d h = dite (ℕ_discrete k (length passes))
    (λ e. subst (λ (i : ℕ). IsDealt z F (first + i) (get_or (passes ++ p ∷ []) i d)) (sym e) (subst (IsDealt z F (first + length passes)) (sym (get_or-append_seam passes p [] d)) last))
    (λ ne. let l = length-append passes (p ∷ []) in let below : k < length passes = omega arith in subst (IsDealt z F (first + k)) (sym (get_or-append passes (p ∷ []) d k below)) (all k d below))

pub dealt_front : (z : Rattle.atomic_table.specs.Seated.TableId) (F : List ℕ) (passes : List Pass) (p : Pass) → AllDealt z F 1 passes → IsDealt z F 0 p → AllDealt z F 0 (p ∷ passes)
dealt_front z F passes p all first zero d h = first
dealt_front z F passes p all first (suc k) d h = subst (λ (i : ℕ). IsDealt z F i (get_or passes k d)) (omega arith) (all k d (omega arith))

-- the view of a pass that gave up its seat
pub pass_view : (p : Pass) (v : View) → p.badge.views ≡ v ∷ [] → (v ≡ at_turn (pass_number p) Idle v) × (pass_seen p ≡ v.seen) × (pass_fixed p ≡ v.fixed)
pass_view p v e =
    let same : view_of p.badge.views ≡ v = ap view_of e in
    (sym same ∙ (ap view_of p.seated ∙ ap (at_turn (pass_number p) Idle) same), ap (λ (u : View). u.seen) same, ap (λ (u : View). u.fixed) same)

-- a view knows what a pass had seen
abbrev pub Knows : View → EntryList → Type 0
Knows v xs = (v.seen ≡ xs) ⊎ ((j : ℕ) × (get_elem? v.told j ≡ some xs))

-- the passes that came in, the last of all first, and what the taker has of them
pub record Gathered (all passes : List Pass) (v : View) : Type 0 where
  pub came : List Pass
  pub split : all ≡ passes ++ came
  pub idle : v.stage ≡ Idle
  pub size : length v.mine ≡ length came
  pub has : (k : ℕ) (p : Pass) → get_elem? came k ≡ some p → Has v.mine (pass_number p) (pass_own p)
  pub back : (i : ℕ) (es : EntryList) → Has v.mine i es → (k : ℕ) × (p : Pass) × (get_elem? came k ≡ some p) × (pass_number p ≡ i)
  pub knows : (k : ℕ) (p : Pass) → get_elem? came k ≡ some p → Knows v (pass_seen p)

own_map : (p : Pass) (v : View) → p.badge.views ≡ v ∷ [] → v.mine ≡ (pass_number p, pass_own p) ∷ []
own_map p v e = let t = pass_view p v e in ap (λ (u : View). u.mine) t.0 ∙ ap (λ (h : EntryList). (pass_number p, mine (pass_number p) h) ∷ []) (sym t.1)

pub gathered_first : (all passes : List Pass) (p : Pass) (v : View) → all ≡ passes ++ p ∷ [] → p.badge.views ≡ v ∷ [] → Gathered all passes v
gathered_first all passes p v split e = let t = pass_view p v e in let m = own_map p v e in record {
  came = p ∷ [];
  split = split;
  idle = ap (λ (u : View). u.stage) t.0;
  size = ap length m;
  has = λ k q h. has_first k q h;
  back = λ i es h. (0, p, refl, (has_only (pass_number p) (pass_own p) i es (subst (λ (x : Map). Has x i es) m h)).0);
  knows = λ k q h. knows_first k q h;
}
  where
    has_first : (k : ℕ) (q : Pass) → get_elem? (p ∷ []) k ≡ some q → Has v.mine (pass_number q) (pass_own q)
    has_first zero q h = subst (λ (x : Pass). Has v.mine (pass_number x) (pass_own x)) (some-injective p q h) (0, ap (λ (x : Map). get_elem? x 0) (own_map p v e))
    has_first (suc k) q h = absurd (some-ne-none q (sym h))

    knows_first : (k : ℕ) (q : Pass) → get_elem? (p ∷ []) k ≡ some q → Knows v (pass_seen q)
    knows_first zero q h = inl (sym (pass_view p v e).1 ∙ ap pass_seen (some-injective p q h))
    knows_first (suc k) q h = absurd (some-ne-none q (sym h))

pub gathered_more : (all passes before : List Pass) (p : Pass) (v w : View) → before ≡ passes ++ p ∷ [] → p.badge.views ≡ w ∷ [] → Gathered all before v → Gathered all passes (both v w)
gathered_more all passes before p v w is e g = record {
  came = p ∷ g.came;
  split = g.split ∙ (ap (λ (l : List Pass). l ++ g.came) is ∙ append_assoc passes (p ∷ []) g.came);
  idle = refl;
  size = let l = length-append v.mine w.mine in let m = ap length (own_map p w e) in let s = g.size in omega arith;
  has = has_more;
  back = λ i es h. ⊎_elim (λ (a : Has v.mine i es). let t = g.back i es a in (suc t.0, t.1, t.2, t.3))
      (λ (b : Has w.mine i es). (0, p, refl, (has_only (pass_number p) (pass_own p) i es (subst (λ (x : Map). Has x i es) (own_map p w e) b)).0)) (has_either v.mine w.mine i es h);
  knows = knows_more;
}
  where
    has_more : (k : ℕ) (q : Pass) → get_elem? (p ∷ g.came) k ≡ some q → Has (v.mine ++ w.mine) (pass_number q) (pass_own q)
    has_more zero q h = has_right v.mine w.mine (pass_number q) (pass_own q)
        (subst (λ (x : Pass). Has w.mine (pass_number x) (pass_own x)) (some-injective p q h) (0, ap (λ (x : Map). get_elem? x 0) (own_map p w e)))
    has_more (suc k) q h = has_left v.mine w.mine (pass_number q) (pass_own q) (g.has k q h)

    knows_more : (k : ℕ) (q : Pass) → get_elem? (p ∷ g.came) k ≡ some q → Knows (both v w) (pass_seen q)
    knows_more zero q h = inr (1, ap (λ (x : EntryList). some x) (sym (pass_view p w e).1 ∙ ap pass_seen (some-injective p q h)))
    knows_more (suc k) q h = go (g.knows k q h)
      where
        go : Knows v (pass_seen q) → Knows (both v w) (pass_seen q)
        go (inl a) = inr (0, ap (λ (x : EntryList). some x) a)
        go (inr b) = inr (suc (suc b.0), at_longer v.told w.told b.0 (pass_seen q) b.1)

-- what a history that begins with all that the taker was told says of each pass
pub knows_starts : (H : EntryList) (v : View) (xs : EntryList) → StartsWith H v.seen → ((k : ℕ) (h : EntryList) → get_elem? v.told k ≡ some h → StartsWith H h) → Knows v xs → StartsWith H xs
knows_starts H v xs seen told (inl a) = subst (λ (x : EntryList). StartsWith H x) a seen
knows_starts H v xs seen told (inr b) = told b.0 xs b.1

-- what the value that comes back says of all passes
pub record Closes {V : Type 0} (history : V → EntryList) (fixed : V → List ℕ) (F : List ℕ) (N : ℕ) (all : List Pass) (y : V) : Type 0 where
  pub entries : All (λ p. mine (pass_number p) (history y) ≡ pass_own p) all
  pub begins : All (λ p. StartsWith (history y) (pass_seen p)) all
  pub numbers : AreNumbered N all
  pub others : (i : ℕ) → N ≤ i → mine i (history y) ≡ []
  pub fixed_is : fixed y ≡ F

pub closes : {V : Type 0} (history : V → EntryList) (fixed : V → List ℕ) (F : List ℕ) (N : ℕ) (all rest : List Pass) (v : View) (xs : List (Option V)) (y : V)
    → Gathered all rest v → length rest ≡ 0 → (e : Ended history fixed F N v xs) → e.value ≡ y → Closes history fixed F N all y
closes history fixed F N all rest v xs y g none_left e is =
    let same = only_came all rest g.came g.split none_left in
    let H = ap history is in
    record {
      entries = λ k d h. let there = at_came k d h in sym (e.entries (pass_number (get_or all k d)) (pass_own (get_or all k d)) (g.has k (get_or all k d) there) ∙ ap (mine (pass_number (get_or all k d))) H);
      begins = λ k d h. subst (λ (x : EntryList). StartsWith x (pass_seen (get_or all k d))) H (knows_starts (history e.value) v (pass_seen (get_or all k d)) e.begins e.told (g.knows k (get_or all k d) (at_came k d h)));
      numbers = λ i h. let n = e.numbers i h in let t = g.back i n.0 n.1 in (t.0, t.1, slice_get_at all t.0 t.1 (ap (λ (l : List Pass). get_elem? l t.0) same ∙ t.2), t.3);
      others = λ i h. sym (ap (mine i) H) ∙ e.others i h;
      fixed_is = sym (ap fixed is) ∙ e.fixed_is;
    }
  where
    at_came : (k : ℕ) (d : Pass) → k < length all → get_elem? g.came k ≡ some (get_or all k d)
    at_came k d h = ap (λ (l : List Pass). get_elem? l k) (sym (only_came all rest g.came g.split none_left)) ∙ at_get_or all k d h
