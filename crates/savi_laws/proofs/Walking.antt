-- Walks over two histories: what came in is the same, or one of them has a tick more.
use Rattle.std.proofs.Common.{◌≡◌, ℕ, ◌≤◌, ◌^◌, min, max, Bool, true, false, List, [], ◌∷◌, Option, Some, None, IfSome, refl, sym, ap, subst, ◌∙◌, inl, inr, ◌⊎◌, arith}
use Rattle.std.proofs.lemmas.Bool.{cases_Bool, false≢true}
use Rattle.savi_kinds.specs.declared.plan.Plan.{Plan}
use Rattle.savi_kinds.specs.declared.entry.Act.{Act}
use Rattle.savi_kinds.specs.declared.entry.Act.TheVariants as acts
use Rattle.hist_store.specs.Rows.{Row}
use Rattle.checkpoint.specs.Bases.{Base}
use Rattle.savi_history.specs.Moments.{last_moment, moment_at}
use Rattle.savi_history.specs.Legal.{IsLegal, Stands}
use Rattle.savi_history.specs.Events.{Event, Frame, Long, Command, Tick, Drain, End, row_of}
use Rattle.savi_history.specs.Ticks.{IsSameFrom}
use Rattle.savi_laws.specs.Rebuilt.{rows_by, AreRows, stamp_of, first_of, first_stamp, ComesFirst, with_tick}
use Rattle.savi_laws.specs.Answered.{Came, came_of, came, answered}
use Rattle.savi_laws.proofs.Alike.{Alike, is_in, alike_start, alike_same, turned, passed_over, entered, same_from}

-- the event that an act with these octets stands for
abbrev event_by : Act → List ℕ → Event
event_by (acts.Frame port stamp at len) octets = Frame port stamp octets
event_by (acts.Long port stamp len) octets = Long port stamp len
event_by (acts.Tick stamp) octets = Tick stamp
event_by (acts.Command stamp at len) octets = Command stamp octets
event_by (acts.Drain port count) octets = Drain port count
event_by (acts.End who how) octets = End who how

abbrev event_in : Came → Event
event_in c = event_by c.act c.octets

abbrev head_or : Came → List Came → Came
head_or d [] = d
head_or d (x ∷ xs) = x

abbrev rest_of : List Came → List Came
rest_of [] = []
rest_of (x ∷ xs) = xs

abbrev is_there : List Came → Bool
is_there [] = false
is_there (x ∷ xs) = true

module _ (plan : Plan) (base : Base) where
  pub rows_of_legal : (past : List Row) → IsLegal plan base past → AreRows plan base past
  rows_of_legal [] legal = tt
  rows_of_legal (r ∷ past) legal =
      let stands : Stands plan base past r = legal.0 in
      ((stands.0, stands.2), rows_of_legal past legal.1)

  came_input : (past : List Row) (event : Event) → is_in event ≡ true → came (row_of plan base past event ∷ past) ≡ came_of (row_of plan base past event) ∷ came past
  came_input past (Frame port stamp octets) is = refl
  came_input past (Long port stamp len) is = refl
  came_input past (Command stamp line) is = refl
  came_input past (Tick stamp) is = absurd (false≢true is)
  came_input past (Drain port count) is = absurd (false≢true is)
  came_input past (End who how) is = absurd (false≢true is)

  came_other : (past : List Row) (event : Event) → is_in event ≡ false → came (row_of plan base past event ∷ past) ≡ came past
  came_other past (Frame port stamp octets) not = absurd (false≢true (sym not))
  came_other past (Long port stamp len) not = absurd (false≢true (sym not))
  came_other past (Command stamp line) not = absurd (false≢true (sym not))
  came_other past (Tick stamp) not = refl
  came_other past (Drain port count) not = refl
  came_other past (End who how) not = refl

  event_back : (past : List Row) (event : Event) → is_in event ≡ true → event_in (came_of (row_of plan base past event)) ≡ event
  event_back past (Frame port stamp octets) is = refl
  event_back past (Long port stamp len) is = refl
  event_back past (Command stamp line) is = refl
  event_back past (Tick stamp) is = absurd (false≢true is)
  event_back past (Drain port count) is = absurd (false≢true is)
  event_back past (End who how) is = absurd (false≢true is)

  -- an input on both sides
  both_in : (past other : List Row) (event next : Event) → is_in event ≡ true → is_in next ≡ true
      → came (row_of plan base past event ∷ past) ≡ came (row_of plan base other next ∷ other)
      → (came past ≡ came other → Alike plan base past other)
      → Alike plan base (row_of plan base past event ∷ past) (row_of plan base other next ∷ other)
  both_in past other event next is next_is same rest =
      let all : came_of (row_of plan base past event) ∷ came past ≡ came_of (row_of plan base other next) ∷ came other =
      sym (came_input past event is) ∙ same ∙ came_input other next next_is in
      let heads : came_of (row_of plan base past event) ≡ came_of (row_of plan base other next) = ap (head_or (came_of (row_of plan base past event))) all in
      let events : event ≡ next = sym (event_back past event is) ∙ ap event_in heads ∙ event_back other next next_is in
      let moments : (row_of plan base past event).entry.moment ≡ (row_of plan base other next).entry.moment = ap (λ (c : Came). c.moment) heads in
      subst (λ (e : Event). (row_of plan base past event).entry.moment ≡ (row_of plan base other e).entry.moment → Alike plan base (row_of plan base past event ∷ past) (row_of plan base other e ∷ other)) events
      (λ at. entered plan base past other (rest (ap rest_of all)) event is at) moments

  -- an input on one side, and the rows of the other side up to it
  meet : (past : List Row) → ((other : List Row) → AreRows plan base other → came past ≡ came other → Alike plan base past other)
      → (event : Event) → is_in event ≡ true → (other : List Row) → AreRows plan base other → came (row_of plan base past event ∷ past) ≡ came other
      → Alike plan base (row_of plan base past event ∷ past) other
  meet past rest event is [] rows same = absurd (false≢true (sym (ap is_there (sym (came_input past event is) ∙ same))))
  meet past rest event is (r ∷ other) rows same =
      meet_by rows.0.0 (cases_Bool (is_in rows.0.0)) rows.0.1 (λ now. meet past rest event is other rows.1 now) (λ now. rest other rows.1 now)
    where
      meet_by : (next : Event) → ((is_in next ≡ true) ⊎ (is_in next ≡ false)) → r ≡ row_of plan base other next
          → (came (row_of plan base past event ∷ past) ≡ came other → Alike plan base (row_of plan base past event ∷ past) other)
          → (came past ≡ came other → Alike plan base past other)
          → Alike plan base (row_of plan base past event ∷ past) (r ∷ other)
      meet_by next (inl next_is) row again before =
          let now : came (row_of plan base past event ∷ past) ≡ came (row_of plan base other next ∷ other) = same ∙ ap (λ (x : Row). came (x ∷ other)) row in
          subst (λ (x : Row). Alike plan base (row_of plan base past event ∷ past) (x ∷ other)) (sym row) (both_in past other event next is next_is now before)
      meet_by next (inr not) row again before =
          let now : came (row_of plan base past event ∷ past) ≡ came other = same ∙ ap (λ (x : Row). came (x ∷ other)) row ∙ came_other other next not in
          subst (λ (x : Row). Alike plan base (row_of plan base past event ∷ past) (x ∷ other)) (sym row)
          (turned plan base (row_of plan base other next ∷ other) (row_of plan base past event ∷ past)
          (passed_over plan base other (row_of plan base past event ∷ past) next not (turned plan base (row_of plan base past event ∷ past) other (again now))))

  -- one side has ended
  none_left : (other : List Row) → AreRows plan base other → came [] ≡ came other → Alike plan base [] other
  none_left [] rows same = alike_start plan base
  none_left (r ∷ other) rows same = left_by rows.0.0 (cases_Bool (is_in rows.0.0)) rows.0.1 (λ now. none_left other rows.1 now)
    where
      left_by : (next : Event) → ((is_in next ≡ true) ⊎ (is_in next ≡ false)) → r ≡ row_of plan base other next
          → (came [] ≡ came other → Alike plan base [] other) → Alike plan base [] (r ∷ other)
      left_by next (inl next_is) row again =
          absurd (false≢true (ap is_there (same ∙ ap (λ (x : Row). came (x ∷ other)) row ∙ came_input other next next_is)))
      left_by next (inr not) row again =
          subst (λ (x : Row). Alike plan base [] (x ∷ other)) (sym row)
          (turned plan base (row_of plan base other next ∷ other) [] (passed_over plan base other [] next not
          (turned plan base [] other (again (same ∙ ap (λ (x : Row). came (x ∷ other)) row ∙ came_other other next not)))))

  -- the same is known where the same came in
  pub same_known : (past other : List Row) → AreRows plan base past → AreRows plan base other → came past ≡ came other → Alike plan base past other
  same_known [] other rows others same = none_left other others same
  same_known (r ∷ past) other rows others same = known_by rows.0.0 (cases_Bool (is_in rows.0.0)) rows.0.1 (λ o its now. same_known past o rows.1 its now)
    where
      known_by : (event : Event) → ((is_in event ≡ true) ⊎ (is_in event ≡ false)) → r ≡ row_of plan base past event
          → ((o : List Row) → AreRows plan base o → came past ≡ came o → Alike plan base past o) → Alike plan base (r ∷ past) other
      known_by event (inl is) row rest =
          subst (λ (x : Row). Alike plan base (x ∷ past) other) (sym row)
          (meet past rest event is other others (ap (λ (x : Row). came (x ∷ past)) (sym row) ∙ same))
      known_by event (inr not) row rest =
          subst (λ (x : Row). Alike plan base (x ∷ past) other) (sym row)
          (passed_over plan base past other event not (rest other others (sym (came_other past event not) ∙ ap (λ (x : Row). came (x ∷ past)) (sym row) ∙ same)))

  pub same_answers : (past other : List Row) → AreRows plan base past → AreRows plan base other → came past ≡ came other → answered past ≡ answered other
  same_answers past other rows others same = let alike : Alike plan base past other = same_known past other rows others same in alike.answers

  pub same_later : (past other : List Row) → AreRows plan base past → AreRows plan base other → came past ≡ came other → last_moment base other ≤ last_moment base past → IsSameFrom plan base (last_moment base past) past other
  same_later past other rows others same low = let alike : Alike plan base past other = same_known past other rows others same in same_from plan base past other alike.known low

  -- an event on both sides, at one moment
  both_step : (past other : List Row) (event : Event) → ((row_of plan base past event).entry.moment ≡ (row_of plan base other event).entry.moment) ⊎ (is_in event ≡ false)
      → Alike plan base past other → Alike plan base (row_of plan base past event ∷ past) (row_of plan base other event ∷ other)
  both_step past other event (inr not) alike =
      passed_over plan base past (row_of plan base other event ∷ other) event not
      (turned plan base (row_of plan base other event ∷ other) past (passed_over plan base other past event not (turned plan base past other alike)))
  both_step past other event (inl same) alike =
      elim (cases_Bool (is_in event)) [
        | inl is ↦ entered plan base past other alike event is same
        | inr not ↦ passed_over plan base past (row_of plan base other event ∷ other) event not
            (turned plan base (row_of plan base other event ∷ other) past (passed_over plan base other past event not (turned plan base past other alike)))
      ]

  module _ (past : List Row) (stamp : ℕ) where
    -- the last moments with a tick and without it: they differ until an event with a stamp came
    abbrev Apart : Option ℕ → ℕ → ℕ → Type 0
    Apart None one other = (one ≡ moment_at base past stamp) × (other ≡ last_moment base past)
    Apart (Some next) one other = one ≡ other

    abbrev IsFirst : Option ℕ → Type 0
    IsFirst first = IfSome first (λ next. moment_at base past stamp ≤ moment_at base past next)

    first_before : (first other : Option ℕ) → IsFirst (first_of first other) → IsFirst first
    first_before None other is = tt
    first_before (Some next) other is = is

    stamped_same : (first : Option ℕ) (next one other : ℕ) → Apart first one other → IsFirst (first_of first (Some next))
        → max one (min next (2 ^ 62)) ≡ max other (min next (2 ^ 62))
    stamped_same None next one other apart is =
        let low : moment_at base past stamp ≤ moment_at base past next = is in
        let one_is : one ≡ moment_at base past stamp = apart.0 in
        let other_is : other ≡ last_moment base past = apart.1 in
        omega (arith, low, one_is, other_is)
    stamped_same (Some before) next one other apart is = ap (λ (n : ℕ). max n (min next (2 ^ 62))) apart

    stamped_apart : (first : Option ℕ) (next one other : ℕ) → one ≡ other → Apart (first_of first (Some next)) one other
    stamped_apart None next one other same = same
    stamped_apart (Some before) next one other same = same

    plain_apart : (first : Option ℕ) (one other : ℕ) → Apart first one other → Apart (first_of first None) one other
    plain_apart None one other apart = apart
    plain_apart (Some before) one other apart = apart

    pub record AreAt (events : List Event) : Type 0 where
      pub alike : Alike plan base (with_tick plan base past stamp events) (rows_by plan base past events)
      pub apart : Apart (first_stamp events) (last_moment base (with_tick plan base past stamp events)) (last_moment base (rows_by plan base past events))

    stamped : (events : List Event) (event : Event) (next : ℕ) → AreAt events
        → (row_of plan base (with_tick plan base past stamp events) event).entry.moment ≡ (row_of plan base (rows_by plan base past events) event).entry.moment
        → stamp_of event ≡ Some next → AreAt (event ∷ events)
    stamped events event next at same is = record {
      alike = both_step (with_tick plan base past stamp events) (rows_by plan base past events) event (inl same) at.alike;
      apart = subst (λ (o : Option ℕ). Apart (first_of (first_stamp events) o) (row_of plan base (with_tick plan base past stamp events) event).entry.moment (row_of plan base (rows_by plan base past events) event).entry.moment) (sym is)
          (stamped_apart (first_stamp events) next (row_of plan base (with_tick plan base past stamp events) event).entry.moment (row_of plan base (rows_by plan base past events) event).entry.moment same);
    }

    one_step : (events : List Event) (event : Event) → AreAt events → ComesFirst base past stamp (event ∷ events) → AreAt (event ∷ events)
    one_step events (Frame port next octets) at first =
        stamped events (Frame port next octets) next at (stamped_same (first_stamp events) next (last_moment base (with_tick plan base past stamp events)) (last_moment base (rows_by plan base past events)) at.apart first) refl
    one_step events (Long port next len) at first =
        stamped events (Long port next len) next at (stamped_same (first_stamp events) next (last_moment base (with_tick plan base past stamp events)) (last_moment base (rows_by plan base past events)) at.apart first) refl
    one_step events (Command next line) at first =
        stamped events (Command next line) next at (stamped_same (first_stamp events) next (last_moment base (with_tick plan base past stamp events)) (last_moment base (rows_by plan base past events)) at.apart first) refl
    one_step events (Tick next) at first =
        stamped events (Tick next) next at (stamped_same (first_stamp events) next (last_moment base (with_tick plan base past stamp events)) (last_moment base (rows_by plan base past events)) at.apart first) refl
    one_step events (Drain port count) at first = record {
      alike = both_step (with_tick plan base past stamp events) (rows_by plan base past events) (Drain port count) (inr refl) at.alike;
      apart = plain_apart (first_stamp events) (last_moment base (with_tick plan base past stamp events)) (last_moment base (rows_by plan base past events)) at.apart;
    }
    one_step events (End who how) at first = record {
      alike = both_step (with_tick plan base past stamp events) (rows_by plan base past events) (End who how) (inr refl) at.alike;
      apart = plain_apart (first_stamp events) (last_moment base (with_tick plan base past stamp events)) (last_moment base (rows_by plan base past events)) at.apart;
    }

    are_at : (events : List Event) → ComesFirst base past stamp events → AreAt events
    are_at [] first = record { alike = passed_over plan base past past (Tick stamp) refl (alike_same plan base past); apart = (refl, refl) }
    are_at (event ∷ events) first = one_step events event (are_at events (first_before (first_stamp events) (stamp_of event) first)) first

    pub tick_answers : (events : List Event) → ComesFirst base past stamp events → answered (with_tick plan base past stamp events) ≡ answered (rows_by plan base past events)
    tick_answers events first = let at : AreAt events = are_at events first in at.alike.answers

    no_later : (first : Option ℕ) (one other : ℕ) → Apart first one other → other ≤ one
    no_later None one other apart =
        let one_is : one ≡ moment_at base past stamp = apart.0 in
        let other_is : other ≡ last_moment base past = apart.1 in
        omega (arith, one_is, other_is)
    no_later (Some next) one other apart = let same : one ≡ other = apart in omega (arith, same)

    pub tick_later : (events : List Event) → ComesFirst base past stamp events
        → IsSameFrom plan base (last_moment base (with_tick plan base past stamp events)) (with_tick plan base past stamp events) (rows_by plan base past events)
    tick_later events first =
        let at : AreAt events = are_at events first in
        same_from plan base (with_tick plan base past stamp events) (rows_by plan base past events) at.alike.known
        (no_later (first_stamp events) (last_moment base (with_tick plan base past stamp events)) (last_moment base (rows_by plan base past events)) at.apart)
