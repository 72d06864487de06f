-- An input is paused exactly where more inputs have ended than have ended for good.
use Rattle.std.proofs.Common.{◌≡◌, ◌≢◌, ℕ, zero, suc, ◌+◌, ◌<◌, ◌≤◌, ◌==◌, ◌&&◌, ◌||◌, Bool, true, false, if◌then◌else◌, Option, Some, None, List, [], ◌∷◌, map, get_or, cond, refl, sym, ap, subst, ◌∙◌, inl, inr, arith}
use Rattle.std.specs.Prelude.{nat_lt}
use Rattle.std.specs.Option.{is_some}
use Rattle.std.proofs.lemmas.Bool.{cases_Bool, cases_eq, cond-true, cond-false, eq-eqb, ne_eqb, false≢true}
use Rattle.std.proofs.lemmas.Bool.Decides.{nat_tests}
use Rattle.savi_kinds.specs.declared.plan.Plan.{Plan}
use Rattle.savi_kinds.specs.declared.entry.Who.{Who}
use Rattle.savi_kinds.specs.declared.entry.Who.TheVariants.{Ingress, Control, Ticker, Egress}
use Rattle.savi_kinds.specs.declared.entry.How.{How}
use Rattle.savi_kinds.specs.Ports.{number_of}
use Rattle.hist_store.specs.Rows.{Row}
use Rattle.checkpoint.specs.Bases.{Base}
use Rattle.savi_history.specs.Endings.{has_pause, is_input, is_paused_input, is_paused_reason}
use Rattle.savi_history.specs.Events.{Event, row_of}
use Rattle.savi_history.specs.Events as events
use Rattle.savi_history.specs.Legal.{IsLegal, MayCome}
use Rattle.savi_history.specs.Passes.{control_pass, has_ended, has_pass, pass_count, pass_of}
use Rattle.savi_history.proofs.PortPlaces.{place_within}
use Rattle.savi_segments.specs.Checkpoints.{end_of}
use Rattle.savi_core.specs.PassMarks.{open_among}
use Rattle.savi_core.proofs.Over.{any_some, end_none}

-- counts of what is open

one_open : (b : Bool) → cond b 0 1 ≤ 1
one_open true = omega arith
one_open false = omega arith

fewer_open : (here there : Bool) → (there ≡ true → here ≡ true) → cond here 0 1 ≤ cond there 0 1
fewer_open here true more = rw (more refl) (omega arith)
fewer_open here false more = one_open here

-- what has ended there has ended here
abbrev EndsMore : ℕ → List Bool → List Bool → Type 0
EndsMore n here there = (pass : ℕ) → pass < n → get_or there pass false ≡ true → get_or here pass false ≡ true

fewer : (here there : List Bool) (n : ℕ) → EndsMore n here there → open_among here n ≤ open_among there n
fewer here there zero more = omega arith
fewer here there (suc n) more =
    let before = fewer here there n (λ pass below. more pass (omega (arith, below))) in
    let last = fewer_open (get_or here n false) (get_or there n false) (more n (omega arith)) in
    omega (arith, before, last)

less_by : (here there : List Bool) (n pass : ℕ) → EndsMore n here there → pass < n → get_or here pass false ≡ true → get_or there pass false ≡ false → open_among here n < open_among there n
less_by here there zero pass more below is not = absurd (omega (arith, below))
less_by here there (suc n) pass more below is not =
    elim (cases_eq pass n) [
      | inl same ↦
          let before = fewer here there n (λ p low. more p (omega (arith, low))) in
          let shut : ◌≡◌ {A = ℕ} (cond (get_or here n false) 0 1) 0 = cond-true _ 0 1 (ap (λ p. get_or here p false) (sym same) ∙ is) in
          let left : ◌≡◌ {A = ℕ} (cond (get_or there n false) 0 1) 1 = cond-false _ 0 1 (ap (λ p. get_or there p false) (sym same) ∙ not) in
          omega (arith, before, shut, left)
      | inr other ↦
          let before = less_by here there n pass (λ p low. more p (omega (arith, low))) (omega (arith, below, other)) is not in
          let last = fewer_open (get_or here n false) (get_or there n false) (more n (omega arith)) in
          omega (arith, before, last)
    ]

same_open : (here there : List Bool) (n : ℕ) → ((pass : ℕ) → pass < n → get_or here pass false ≡ get_or there pass false) → open_among here n ≡ open_among there n
same_open here there zero same = refl
same_open here there (suc n) same =
    let before = same_open here there n (λ pass below. same pass (omega (arith, below))) in
    let last : get_or here n false ≡ get_or there n false = same n (omega arith) in
    ap (λ (count : ℕ). count + cond (get_or here n false) 0 1) before ∙ ap (λ (b : Bool). open_among there n + cond b 0 1) last

-- which passes are those of inputs

module _ (plan : Plan) where
  not_below : (who : Who) (pass : ℕ) → is_input who ≡ false → pass < control_pass plan + 1 → pass_of plan who ≢ pass
  not_below (Ingress p) pass other below same = absurd (false≢true (sym other))
  not_below Control pass other below same = absurd (false≢true (sym other))
  not_below Ticker pass other below same = absurd (omega (arith, below, same))
  not_below (Egress p) pass other below same = absurd (omega (arith, below, same))

  input_below : (who : Who) → has_pass plan who ≡ true → is_input who ≡ true → pass_of plan who < control_pass plan + 1
  input_below (Ingress p) known input = let within = place_within plan (number_of p) known in omega (arith, within)
  input_below Control known input = omega arith
  input_below Ticker known input = absurd (false≢true input)
  input_below (Egress p) known input = absurd (false≢true input)

or_second : (a b : Bool) → b ≡ true → (a || b) ≡ true
or_second true b is = refl
or_second false b is = is

and_both : (a b : Bool) → (a && b) ≡ true → (a ≡ true) × (b ≡ true)
and_both true b both = (refl, both)
and_both false b both = absurd (false≢true both)

and_first : (a b : Bool) → (a && b) ≡ false → b ≡ true → a ≡ false
and_first true b none is = absurd (false≢true (sym none ∙ is))
and_first false b none is = refl

module _ (plan : Plan) (base : Base) where
  abbrev IsInput : ℕ → Type 0
  IsInput pass = pass < control_pass plan + 1

  -- where no input is paused, what has ended has ended for good

  abbrev IsSame : ℕ → List Row → Type 0
  IsSame pass past = has_ended base pass past ≡ is_some (end_of base pass past)

  behind_end : (paused here was : Bool) (how : How) (before : Option How) → (paused ≡ true → here ≡ false) → was ≡ is_some before
      → (here || was) ≡ is_some (if paused then before else if here then Some how else before)
  behind_end true here was how before apart same = ap (λ (b : Bool). b || was) (apart refl) ∙ same
  behind_end false true was how before apart same = refl
  behind_end false false was how before apart same = same

  same_behind : (past : List Row) (event : Event) (pass : ℕ) → is_paused_input (row_of plan base past event).entry.act ≡ false → IsInput pass → IsSame pass past → IsSame pass (row_of plan base past event ∷ past)
  same_behind past (events.Frame port stamp octets) pass none input same = same
  same_behind past (events.Long port stamp len) pass none input same = same
  same_behind past (events.Command stamp line) pass none input same = same
  same_behind past (events.Tick stamp) pass none input same = same
  same_behind past (events.Drain port count) pass none input same = same
  same_behind past (events.End who how) pass none input same =
      behind_end (is_paused_reason how) (pass_of plan who == pass) (has_ended base pass past) how (end_of base pass past)
      (λ paused. ne_eqb (pass_of plan who) pass (not_below plan who pass (and_first (is_input who) (is_paused_reason how) none paused) input)) same

  none_or : (x y : Bool) → (x || y) ≡ false → (x ≡ false) × (y ≡ false)
  none_or true y none = absurd (false≢true (sym none))
  none_or false y none = (refl, none)

  same_ended : (past : List Row) (pass : ℕ) → IsLegal plan base past → has_pause past ≡ false → IsInput pass → IsSame pass past
  same_ended [] pass legal none input = any_some pass base.ended
  same_ended (r ∷ past) pass legal none input =
      let parts = none_or (is_paused_input r.entry.act) (has_pause past) none in
      subst (λ (x : Row). IsSame pass (x ∷ past)) (sym legal.0.2)
      (same_behind past legal.0.0 pass (ap (λ (x : Row). is_paused_input x.entry.act) (sym legal.0.2) ∙ parts.0) input (same_ended past pass legal.1 parts.1 input))

  -- and where one is, it has ended, and not for good

  record IsPaused (past : List Row) : Type 0 where
    pass : ℕ
    input : IsInput pass
    ended : has_ended base pass past ≡ true
    goes_on : end_of base pass past ≡ None

  end_still : (paused here : Bool) (how : How) (before : Option How) → here ≡ false → before ≡ None → (if paused then before else if here then Some how else before) ≡ None
  end_still true here how before other none = none
  end_still false here how before other none = ap (λ (b : Bool). if b then Some how else before) other ∙ none

  -- an older pause stays
  paused_behind : (past : List Row) (event : Event) → MayCome plan base past event → IsPaused past → IsPaused (row_of plan base past event ∷ past)
  paused_behind past (events.Frame port stamp octets) may was = record { pass = was.pass; input = was.input; ended = was.ended; goes_on = was.goes_on }
  paused_behind past (events.Long port stamp len) may was = record { pass = was.pass; input = was.input; ended = was.ended; goes_on = was.goes_on }
  paused_behind past (events.Command stamp line) may was = record { pass = was.pass; input = was.input; ended = was.ended; goes_on = was.goes_on }
  paused_behind past (events.Tick stamp) may was = record { pass = was.pass; input = was.input; ended = was.ended; goes_on = was.goes_on }
  paused_behind past (events.Drain port count) may was = record { pass = was.pass; input = was.input; ended = was.ended; goes_on = was.goes_on }
  paused_behind past (events.End who how) may was = record {
    pass = was.pass;
    input = was.input;
    ended = or_second (pass_of plan who == was.pass) (has_ended base was.pass past) was.ended;
    goes_on = end_still (is_paused_reason how) (pass_of plan who == was.pass) how (end_of base was.pass past) (ne_eqb (pass_of plan who) was.pass other) was.goes_on;
  }
    where
      other : pass_of plan who ≢ was.pass
      other same = absurd (false≢true (sym may.0.running ∙ ap (λ (n : ℕ). has_ended base n past) same ∙ was.ended))

  -- the pause of the newest row
  paused_now : (past : List Row) (event : Event) → MayCome plan base past event → is_paused_input (row_of plan base past event).entry.act ≡ true → IsPaused (row_of plan base past event ∷ past)
  paused_now past (events.Frame port stamp octets) may is = absurd (false≢true is)
  paused_now past (events.Long port stamp len) may is = absurd (false≢true is)
  paused_now past (events.Command stamp line) may is = absurd (false≢true is)
  paused_now past (events.Tick stamp) may is = absurd (false≢true is)
  paused_now past (events.Drain port count) may is = absurd (false≢true is)
  paused_now past (events.End who how) may is =
      let both = and_both (is_input who) (is_paused_reason how) is in
      let here : (pass_of plan who == pass_of plan who) ≡ true = eq-eqb (pass_of plan who) (pass_of plan who) refl in
      let before : end_of base (pass_of plan who) past ≡ None = end_none base (pass_of plan who) past may.0.running in
      record {
        pass = pass_of plan who;
        input = input_below plan who may.0.known both.0;
        ended = ap (λ (b : Bool). b || has_ended base (pass_of plan who) past) here;
        goes_on = ap (λ (b : Bool). if b then end_of base (pass_of plan who) past else if pass_of plan who == pass_of plan who then Some how else end_of base (pass_of plan who) past) both.1 ∙ before;
      }

  is_paused : (past : List Row) → IsLegal plan base past → has_pause past ≡ true → IsPaused past
  is_paused [] legal is = absurd (false≢true is)
  is_paused (r ∷ past) legal is =
      subst (λ (x : Row). IsPaused (x ∷ past)) (sym legal.0.2) (elim (cases_Bool (is_paused_input r.entry.act)) [
        | inl now ↦ paused_now past legal.0.0 legal.0.1 (ap (λ (x : Row). is_paused_input x.entry.act) (sym legal.0.2) ∙ now)
        | inr older ↦ paused_behind past legal.0.0 legal.0.1 (is_paused past legal.1 (sym (ap (λ (b : Bool). b || has_pause past) older) ∙ is))
      ])

-- what a core keeps of both

over_at : (ends : List (Option How)) (pass : ℕ) → get_or (map is_some ends) pass false ≡ is_some (get_or ends pass None)
over_at [] pass = refl
over_at (end ∷ ends) zero = refl
over_at (end ∷ ends) (suc pass) = over_at ends pass

ended_too : (ended : Bool) (end : Option How) → (ended ≡ false → end ≡ None) → is_some end ≡ true → ended ≡ true
ended_too true end none is = refl
ended_too false end none is = absurd (false≢true (sym (ap is_some (none refl)) ∙ is))

module _ (plan : Plan) (base : Base) (past : List Row) (legal : IsLegal plan base past) (ended : List Bool) (ends : List (Option How))
    (are : (pass : ℕ) → pass < pass_count plan → get_or ended pass false ≡ has_ended base pass past)
    (over : (pass : ℕ) → pass < pass_count plan → get_or ends pass None ≡ end_of base pass past) where
  is_pass : (pass : ℕ) → pass < control_pass plan + 1 → pass < pass_count plan
  is_pass pass below = omega (arith, below)

  over_is : (pass : ℕ) → pass < control_pass plan + 1 → get_or (map is_some ends) pass false ≡ is_some (end_of base pass past)
  over_is pass below = over_at ends pass ∙ ap (λ (end : Option How). is_some end) (over pass (is_pass pass below))

  ends_more : EndsMore (control_pass plan + 1) ended (map is_some ends)
  ends_more pass below is =
      are pass (is_pass pass below)
      ∙ ended_too (has_ended base pass past) (end_of base pass past) (end_none base pass past) (sym (over_is pass below) ∙ is)

  pause_by : (b : Bool) → has_pause past ≡ b → nat_lt (open_among ended (control_pass plan + 1)) (open_among (map is_some ends) (control_pass plan + 1)) ≡ b
  pause_by true is =
      let here = is_paused plan base past legal is in
      let less = less_by ended (map is_some ends) (control_pass plan + 1) here.pass ends_more here.input
      (are here.pass (is_pass here.pass here.input) ∙ here.ended)
      (over_is here.pass here.input ∙ ap (λ (end : Option How). is_some end) here.goes_on) in
      grind (arith, nat_tests)
  pause_by false none =
      let same = same_open ended (map is_some ends) (control_pass plan + 1)
      (λ pass below. are pass (is_pass pass below) ∙ same_ended plan base past pass legal none below ∙ sym (over_is pass below)) in
      grind (arith, nat_tests)

  pub pause_told : nat_lt (open_among ended (control_pass plan + 1)) (open_among (map is_some ends) (control_pass plan + 1)) ≡ has_pause past
  pause_told = pause_by (has_pause past) refl
