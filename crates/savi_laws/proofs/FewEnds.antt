-- In a legal history each pass ends at most once.
use Rattle.std.proofs.Common.{◌≡◌, ℕ, zero, suc, ◌+◌, ◌<◌, ◌≤◌, ◌==◌, ◌&&◌, ◌||◌, Bool, true, false, if◌then◌else◌, List, [], ◌∷◌, refl, sym, ap, subst, inl, inr, arith}
use Rattle.std.proofs.lemmas.Bool.{cases_eq, eq-eqb, false≢true}
use Rattle.savi_kinds.specs.declared.plan.Plan.{Plan}
use Rattle.savi_kinds.specs.declared.entry.Who.{Who}
use Rattle.savi_kinds.specs.declared.entry.Who.TheVariants as passes
use Rattle.savi_kinds.specs.declared.entry.How.{How}
use Rattle.savi_kinds.specs.Ports.{number_of}
use Rattle.hist_store.specs.Rows.{Row}
use Rattle.checkpoint.specs.Bases.{Base}
use Rattle.savi_history.specs.Passes.{pass_of, pass_count, has_pass, has_ended, is_end}
use Rattle.savi_history.specs.Legal.{IsLegal, Stands, MayCome}
use Rattle.savi_history.proofs.PortPlaces.{place_within}
use Rattle.savi_history.specs.Events.{Event, Frame, Long, Command, Tick, Drain, End, row_of}

-- how many entries ended a pass
abbrev pub ends : List Row → ℕ
ends [] = 0
ends (r ∷ past) = if is_end r.entry.act then suc (ends past) else ends past

-- how many passes below a number haven't ended
abbrev pub open_below : Base → List Row → ℕ → ℕ
open_below base past zero = 0
open_below base past (suc n) = (if has_ended base n past then 0 else 1) + open_below base past n

module _ (plan : Plan) where
  pub pass_low : (who : Who) → has_pass plan who ≡ true → pass_of plan who < pass_count plan
  pass_low (passes.Ingress p) known = let low = place_within plan (number_of p) known in omega (arith, low)
  pass_low passes.Control known = omega arith
  pass_low passes.Ticker known = omega arith
  pass_low (passes.Egress p) known = let low = place_within plan (number_of p) known in omega (arith, low)

-- one pass more, which may have ended
fewer_step : (now before : Bool) → (before ≡ true → now ≡ true) → (one two : ℕ) → one ≤ two → (if now then 0 else 1) + one ≤ (if before then 0 else 1) + two
fewer_step true true later one two rest = omega (arith, rest)
fewer_step true false later one two rest = omega (arith, rest)
fewer_step false true later one two rest = absurd (false≢true (later refl))
fewer_step false false later one two rest = omega (arith, rest)

less_step : (now before : Bool) → (before ≡ true → now ≡ true) → (one two : ℕ) → suc one ≤ two → suc ((if now then 0 else 1) + one) ≤ (if before then 0 else 1) + two
less_step true true later one two rest = omega (arith, rest)
less_step true false later one two rest = omega (arith, rest)
less_step false true later one two rest = absurd (false≢true (later refl))
less_step false false later one two rest = omega (arith, rest)

less_top : (now before : Bool) → now ≡ true → before ≡ false → (one two : ℕ) → one ≤ two → suc ((if now then 0 else 1) + one) ≤ (if before then 0 else 1) + two
less_top true false is running one two rest = omega (arith, rest)
less_top true true is running one two rest = absurd (false≢true (sym running))
less_top false before is running one two rest = absurd (false≢true is)

start_step : (b : Bool) (count m : ℕ) → 0 + count ≤ m → 0 + ((if b then 0 else 1) + count) ≤ suc m
start_step true count m rest = omega (arith, rest)
start_step false count m rest = omega (arith, rest)

same_step : (x y b : Bool) → x ≡ false → (one two : ℕ) → one ≡ two → (if (x && y) || b then 0 else 1) + one ≡ (if b then 0 else 1) + two
same_step true y b is one two rest = absurd (false≢true (sym is))
same_step false y b is one two rest = ap (λ (n : ℕ). (if b then 0 else 1) + n) rest

few_same : (e f one two n : ℕ) → e ≡ f → one ≡ two → f + two ≤ n → e + one ≤ n
few_same e f one two n ended fewer few = omega (arith, ended, fewer, few)

few_less : (e one two n : ℕ) → suc one ≤ two → e + two ≤ n → suc e + one ≤ n
few_less e one two n less few = omega (arith, less, few)

or_true : (x b : Bool) → b ≡ true → (x || b) ≡ true
or_true true b is = refl
or_true false b is = is

or_first : (x b : Bool) → x ≡ true → (x || b) ≡ true
or_first true b is = refl
or_first false b is = absurd (false≢true is)

module _ (plan : Plan) (base : Base) where
  abbrev ended_by : List Row → Who → How → List Row
  ended_by past who how = row_of plan base past (End who how) ∷ past

  ended_still : (past : List Row) (who : Who) (how : How) (pass : ℕ) → has_ended base pass past ≡ true → has_ended base pass (ended_by past who how) ≡ true
  ended_still past who how pass is = or_true (pass_of plan who == pass) (has_ended base pass past) is

  ended_there : (past : List Row) (who : Who) (how : How) → has_ended base (pass_of plan who) (ended_by past who how) ≡ true
  ended_there past who how = or_first (pass_of plan who == pass_of plan who) (has_ended base (pass_of plan who) past) (eq-eqb (pass_of plan who) (pass_of plan who) refl)

  fewer_open : (past : List Row) (who : Who) (how : How) (n : ℕ) → open_below base (ended_by past who how) n ≤ open_below base past n
  fewer_open past who how zero = omega arith
  fewer_open past who how (suc n) =
      fewer_step (has_ended base n (ended_by past who how)) (has_ended base n past) (λ is. ended_still past who how n is)
      (open_below base (ended_by past who how) n) (open_below base past n) (fewer_open past who how n)

  -- an end leaves one pass less open
  one_less : (past : List Row) (who : Who) (how : How) (n : ℕ) → has_ended base (pass_of plan who) past ≡ false → pass_of plan who < n
      → suc (open_below base (ended_by past who how) n) ≤ open_below base past n
  one_less past who how zero running low = absurd (omega (arith, low))
  one_less past who how (suc n) running low =
      elim (cases_eq (pass_of plan who) n) [
        | inl same ↦
            less_top (has_ended base n (ended_by past who how)) (has_ended base n past)
            (subst (λ (m : ℕ). has_ended base m (ended_by past who how) ≡ true) same (ended_there past who how))
            (subst (λ (m : ℕ). has_ended base m past ≡ false) same running)
            (open_below base (ended_by past who how) n) (open_below base past n) (fewer_open past who how n)
        | inr other ↦
            less_step (has_ended base n (ended_by past who how)) (has_ended base n past) (λ is. ended_still past who how n is)
            (open_below base (ended_by past who how) n) (open_below base past n) (one_less past who how n running (omega (arith, low, other)))
      ]

  few_at_start : (n : ℕ) → 0 + open_below base [] n ≤ n
  few_at_start zero = omega arith
  few_at_start (suc n) = start_step (has_ended base n []) (open_below base [] n) n (few_at_start n)

  open_same : (past : List Row) (r : Row) → is_end r.entry.act ≡ false → (n : ℕ) → open_below base (r ∷ past) n ≡ open_below base past n
  open_same past r still zero = refl
  open_same past r still (suc n) =
      same_step (is_end r.entry.act) (r.entry.by == n) (has_ended base n past) still (open_below base (r ∷ past) n) (open_below base past n) (open_same past r still n)

  abbrev pub IsFew : List Row → Type 0
  IsFew past = ends past + open_below base past (pass_count plan) ≤ pass_count plan

  few_other : (past : List Row) (r : Row) → is_end r.entry.act ≡ false → ends (r ∷ past) ≡ ends past → IsFew past → IsFew (r ∷ past)
  few_other past r still same few =
      few_same (ends (r ∷ past)) (ends past) (open_below base (r ∷ past) (pass_count plan)) (open_below base past (pass_count plan)) (pass_count plan) same (open_same past r still (pass_count plan)) few

  -- one more pass that was open has ended
  pub few_more : (past : List Row) (who : Who) (how : How) → has_pass plan who ≡ true → has_ended base (pass_of plan who) past ≡ false → IsFew past → IsFew (ended_by past who how)
  few_more past who how known running few =
      few_less (ends past) (open_below base (ended_by past who how) (pass_count plan)) (open_below base past (pass_count plan)) (pass_count plan)
      (one_less past who how (pass_count plan) running (pass_low plan who known)) few

  few_event : (past : List Row) (event : Event) → MayCome plan base past event → IsFew past → IsFew (row_of plan base past event ∷ past)
  few_event past (Frame port stamp octets) may few = few_other past (row_of plan base past (Frame port stamp octets)) refl refl few
  few_event past (Long port stamp len) may few = few_other past (row_of plan base past (Long port stamp len)) refl refl few
  few_event past (Command stamp line) may few = few_other past (row_of plan base past (Command stamp line)) refl refl few
  few_event past (Tick stamp) may few = few_other past (row_of plan base past (Tick stamp)) refl refl few
  few_event past (Drain port count) may few = few_other past (row_of plan base past (Drain port count)) refl refl few
  few_event past (End who how) may few = few_more past who how may.0.known may.0.running few

  -- the ends of a legal history and the passes that are open are no more than there are passes
  pub few_ends : (past : List Row) → IsLegal plan base past → IsFew past
  few_ends [] legal = few_at_start (pass_count plan)
  few_ends (r ∷ past) legal =
      let stands : Stands plan base past r = legal.0 in
      subst (λ (x : Row). IsFew (x ∷ past)) (sym stands.2) (few_event past stands.0 stands.1 (few_ends past legal.1))
