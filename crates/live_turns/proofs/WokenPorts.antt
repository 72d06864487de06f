-- The ports that are woken one after another, in order of number, are all that are to be woken; and all are woken behind the
-- turn.
use Rattle.std.proofs.Common.{◌≡◌, ◌<◌, ◌≤◌, ◌+◌, ◌-◌, ◌==◌, ◌||◌, ◌++◌, ◌∷◌, [], List, ℕ, Bool, true, false, Option, Some, refl, sym, subst, ap, ◌∙◌, inl, inr, arith}
use Rattle.std.proofs.lemmas.Bool.{cases_Bool}
use Rattle.std.proofs.lemmas.Bool.Decides.{Decides-eqb}
use Rattle.std.proofs.lemmas.List.Folds.{list_any-append}
use Rattle.std.proofs.lemmas.Nat.Bits.{bit_at_ones}
use Rattle.std.proofs.lemmas.List.Elements.{All-nil, All-push}
use Rattle.savi_kinds.specs.declared.port.Port.{Port}
use Rattle.savi_kinds.specs.declared.port.PortSet.{PortSet}
use Rattle.savi_kinds.specs.Ports.{number_of}
use Rattle.savi_kinds.specs.PortSets.{is_member}
use Rattle.table_lock.specs.declared.lock.sleeping.Woken.{Woken}
use Rattle.table_lock.specs.Wakings.{woken_place, woken_seen}
use Rattle.arrayvec.specs.ArrayVec.{ArrayVec}
use Rattle.hist_store.specs.Rows.{Row}
use Rattle.table_lock.specs.Entries.{EntryList}
use Rattle.core_keep.specs.Pasts.{coded, decoded}
use Rattle.core_keep.proofs.PastsRead.{past_again}
use Rattle.live_turns.specs.Wakes.{AreBehind, HasAll, IsBehind, is_wake_at, was_woken}

-- the set with all bits has every port
pub every_port : (port : Port) → is_member (record { 0 = 65535 }) (number_of port) ≡ true
every_port port = let low = port.low in let high = port.high in ap (λ (b : ℕ). b == 1) (bit_at_ones 16 (number_of port - 1) (omega (arith, low, high)))

-- each of these ports with a number below this one was woken
abbrev pub WokenBelow : ℕ → PortSet → List (Option Woken) → Type 0
WokenBelow n ports woken = (port : Port) → number_of port < n → is_member ports (number_of port) ≡ true → was_woken woken (number_of port) ≡ true

pub or_first : (a b : Bool) → a ≡ true → (a || b) ≡ true
or_first true b is = refl
or_first false b is = cc

pub or_second : (a b : Bool) → b ≡ true → (a || b) ≡ true
or_second true b is = refl
or_second false b is = is

-- a wake more
pub still_woken : (woken : List (Option Woken)) (wake : Option Woken) (n : ℕ) → was_woken woken n ≡ true → was_woken (woken ++ wake ∷ []) n ≡ true
still_woken woken wake n is = list_any-append (is_wake_at n) woken (wake ∷ []) ∙ or_first _ _ is

pub woken_here : (woken : List (Option Woken)) (wake : Woken) (n : ℕ) → woken_place wake ≡ n → was_woken (woken ++ Some wake ∷ []) n ≡ true
woken_here woken wake n is = list_any-append (is_wake_at n) woken (Some wake ∷ []) ∙ or_second _ _ (or_first _ _ ((Decides-eqb (woken_place wake) n).1 is))

pub woken_below_none : (ports : PortSet) (woken : List (Option Woken)) → WokenBelow 1 ports woken
woken_below_none ports woken = λ port less to. let low = port.low in absurd (omega (arith, less, low))

pub woken_below_next : (n : ℕ) (ports : PortSet) (old new : List (Option Woken))
    → ((number : ℕ) → was_woken old number ≡ true → was_woken new number ≡ true)
    → (is_member ports n ≡ true → was_woken new n ≡ true)
    → WokenBelow n ports old → WokenBelow (n + 1) ports new
woken_below_next n ports old new kept here below = λ port less to.
    elim (cases_Bool (number_of port == n)) [
      | inl same ↦
          let at : number_of port ≡ n = (Decides-eqb (number_of port) n).0 same in
          subst (λ (m : ℕ). was_woken new m ≡ true) (sym at) (here (subst (λ (m : ℕ). is_member ports m ≡ true) at to))
      | inr apart ↦
          let differs : number_of port ≡ n → ⊥ = λ e. let is = (Decides-eqb (number_of port) n).1 e in cc in
          kept (number_of port) (below port (omega (arith, less, differs)) to)
    ]

pub woken_below_all : (n : ℕ) (ports : PortSet) (woken : List (Option Woken)) → 17 ≤ n → WokenBelow n ports woken → HasAll ports woken
woken_below_all n ports woken last below = λ port to. let high = port.high in below port (omega (arith, last, high)) to

-- no wake is behind whatever history, and a wake more is by one that had seen it
pub none_behind : (now : List Row) (woken : List (Option Woken)) → woken ≡ [] → AreBehind now woken
none_behind now woken none = subst (λ (l : List (Option Woken)). AreBehind now l) (sym none) (All-nil (IsBehind now))

pub behind_more : (seen : EntryList) (woken new : List (Option Woken)) (wake : Woken) → woken_seen wake ≡ seen → new ≡ woken ++ Some wake ∷ []
    → AreBehind (decoded seen) woken → AreBehind (decoded seen) new
behind_more seen woken new wake by more so_far =
    subst (λ (l : List (Option Woken)). AreBehind (decoded seen) l) (sym more) (All-push (IsBehind (decoded seen)) woken (Some wake) so_far (ap decoded by))

-- the wakes behind a turn are behind the history that it left
pub behind_turn : (seen : EntryList) (past : List Row) (woken kept : ArrayVec (Option Woken)) → kept ≡ woken → seen ≡ coded past
    → AreBehind (decoded seen) woken.items → AreBehind past kept.items
behind_turn seen past woken kept same left behind =
    subst (λ (l : ArrayVec (Option Woken)). AreBehind past l.items) (sym same)
    (subst (λ (rows : List Row). AreBehind rows woken.items) (ap decoded left ∙ past_again past) behind)
