-- How a run with a plan ends, by whether its session had memory.
use Rattle.std.proofs.Common.{◌≡◌, ◌≢◌, ℕ, ◌<◌, ◌&&◌, ◌||◌, not, if◌then◌else◌, ◌⊎◌, inl, inr, List, [], ◌∷◌, Bool, true, false, length, refl, sym, ap, ◌∙◌, subst, arith, Option, Some, None, IfNone, IfSome}
use Rattle.std.specs.Prelude.{All}
use Rattle.savi_kinds.specs.declared.plan.Plan.{Plan}
use Rattle.savi_kinds.specs.ValidPlan.{numbers_of}
use Rattle.savi_ends.specs.declared.world.Std.TheVariants.{Out}
use Rattle.savi_ends.specs.declared.world.Ends.{Ends}
use Rattle.savi_ends.specs.Places.{Place, Book, PortKey, ControlKey, OthersStay}
use Rattle.hist_store.specs.Rows.{Row}
use Rattle.savi_history.specs.Endings.{has_failed, has_failed_write, has_malformed}
use Rattle.savi_segments.specs.Segments.{joined}
use Rattle.savi_segments.specs.Unbroken.{unbroken}
use Rattle.port_worker.specs.declared.control_ends.ControlEnds.{ControlEnds}
use Rattle.port_worker.specs.declared.port_ends.PortEnds.{PortEnds}
use Rattle.switch_ports.specs.Named.{control_key}
use Rattle.switch_ports.specs.Openings.{IsReadAnew}
use Rattle.switch_report.specs.RunLines.{memory_line}
use Rattle.switch_run.specs.declared.outcome.Outcome.{Outcome}
use Rattle.switch_run.specs.Causes.{IsBack, IsControlBack, IsOffPlanSame, IsOneOf, IsUnusedOf, KeepsAll, ports_in, quiet_statuses, session_statuses, statuses, unused_statuses}
use Rattle.switch_run.specs.Session.{IsSessionOf, IsSummed}
use Rattle.switch_run.specs.Played.{IsOutcomeOf, IsPlayed}
use Rattle.switch_run.proofs.Through.{Handled, HandledAll, Laws, session_of, ports_back, control_back, output_back, cases_name, back_from, keeps_all_of, off_plan}

-- what the clauses say where all was opened, with this session
pub record Closes {S K C : Type 0} (live : Bool) (left : S → Option (List ℕ)) (written : K → Option (List ℕ)) (plan : Plan) (Says : List ℕ → Type 0) (Session : Type 0) (old new : Book S K C) (status : ℕ) : Type 0 where
  pub one_of : IsOneOf statuses status
  pub usage : status ≢ 2
  pub config : status ≢ 3
  pub opening : status ≢ 7
  pub memory : status ≡ 1 → Says memory_line
  pub unplayed : status ≡ 1 → KeepsAll live left written plan old new × IsOffPlanSame plan old new
  pub session : IsOneOf session_statuses status → Session
  pub quiet : IsOneOf quiet_statuses status → new.std Out ≡ old.std Out
  pub unused : IsOneOf unused_statuses status → IsUnusedOf live plan old new

is_status : (f w m : Bool) → IsOneOf statuses (if f then 5 else if w then 6 else if m then 4 else 0)
is_status true w m = refl
is_status false true m = refl
is_status false false true = refl
is_status false false false = refl

not_quiet : (f w m : Bool) → IsOneOf quiet_statuses (if f then 5 else if w then 6 else if m then 4 else 0) → ⊥
not_quiet true w m e = let t : false ≡ true = e in cc
not_quiet false true m e = let t : false ≡ true = e in cc
not_quiet false false true e = let t : false ≡ true = e in cc
not_quiet false false false e = let t : false ≡ true = e in cc

-- the status of what was summed up is one of those of a session
summed_is : {K : Type 0} (written : K → Option (List ℕ)) (faults : K → ℕ) (Says : List ℕ → Type 0) (all told : List Row) (journal_written : Bool) (old new : Place K) (status : ℕ) → IsSummed written faults Says all told journal_written old new status → IsOneOf statuses status × (IsOneOf quiet_statuses status → ⊥)
summed_is written faults Says all told journal_written old new status summed =
    let w = has_failed_write told || not (journal_written && summed.summary_written) in (
      subst (λ (n : ℕ). IsOneOf statuses n) (sym summed.cause) (is_status (has_failed told) w (has_malformed told)),
      λ one_of. not_quiet (has_failed told) w (has_malformed told) (subst (λ (n : ℕ). IsOneOf quiet_statuses n) summed.cause one_of),
    )

-- a place that wasn't touched has its end back
pub untouched_back : {X : Type 0} (old new : Place X) → new ≡ old → IsBack old new
untouched_back {X} old new same = subst (λ (x : Place X). IsBack old x) (sym same) (back_from old.stands)

-- there was no memory
pub closes_unplayed : {S K C : Type 0} (live : Bool) (left : S → Option (List ℕ)) (written : K → Option (List ℕ)) (plan : Plan) (Says : List ℕ → Type 0) (Session : Type 0) (old new : Book S K C) (status : ℕ)
    → status ≡ 1 → Says memory_line → new.std Out ≡ old.std Out → KeepsAll live left written plan old new → IsOffPlanSame plan old new → IsUnusedOf live plan old new
    → Closes live left written plan Says Session old new status
closes_unplayed live left written plan Says Session old new status one told quiet keeps off unused = record {
  one_of = rw one refl;
  usage = λ two. absurd (omega (arith, one, two));
  config = λ three. absurd (omega (arith, one, three));
  opening = λ seven. absurd (omega (arith, one, seven));
  memory = λ e. told;
  unplayed = λ e. (keeps, off);
  session = λ is_one. absurd (let t : false ≡ true = subst (λ (n : ℕ). IsOneOf session_statuses n) one is_one in cc);
  quiet = λ one_of. quiet;
  unused = λ one_of. unused;
}

-- a history was summed up
pub closes_played : {S K C : Type 0} (live : Bool) (left : S → Option (List ℕ)) (written : K → Option (List ℕ)) (sink_faults : K → ℕ) (plan : Plan) (Says : List ℕ → Type 0) (Session : Type 0) (all told : List Row) (journal_written : Bool) (old new : Book S K C) (status : ℕ)
    → IsSummed written sink_faults Says all told journal_written (old.std Out) (new.std Out) status → Session
    → Closes live left written plan Says Session old new status
closes_played live left written sink_faults plan Says Session all told journal_written old new status summed did =
    let is = summed_is written sink_faults Says all told journal_written (old.std Out) (new.std Out) status summed in
    let never : IsOneOf quiet_statuses status → ⊥ = is.1 in
    let never_is : (n : ℕ) → IsOneOf quiet_statuses n → status ≡ n → ⊥ = λ n quiet e. never (subst (λ (m : ℕ). IsOneOf quiet_statuses m) (sym e) quiet) in
    record {
      one_of = is.0;
      usage = never_is 2 refl;
      config = never_is 3 refl;
      opening = never_is 7 refl;
      memory = λ one. absurd (never_is 1 refl one);
      unplayed = λ one. absurd (never_is 1 refl one);
      session = λ one_of. did;
      quiet = λ one_of. absurd (never one_of);
      unused = λ one_of. absurd (never one_of);
    }

closes_none : {S K C : Type 0} (left : S → Option (List ℕ)) (written : K → Option (List ℕ)) (plan : Plan) (Says : List ℕ → Type 0) (Session : Type 0) (control control' : Option (ControlEnds S K C)) (held back : List (PortEnds S K C)) (sink sink' : K) (old new : Book S K C) (status : ℕ)
    → HandledAll plan control control' held back sink sink' old new → new.ticker ≡ old.ticker → control' ≡ control → back ≡ held → sink' ≡ sink → status ≡ 1 → Says memory_line → new.std Out ≡ old.std Out
    → Closes false left written plan Says Session old new status
closes_none {S} {K} {C} left written plan Says Session control control' held back sink sink' old new status all ticker same_ends same same' one told quiet =
    let unread : HandledAll plan control control held held sink sink old new =
    subst (λ (k : K). HandledAll plan control control held held sink k old new) same'
    (subst (λ (l : List (PortEnds S K C)). HandledAll plan control control held l sink sink' old new) same
    (subst (λ (e : Option (ControlEnds S K C)). HandledAll plan control e held back sink sink' old new) same_ends all)) in
    let off = off_plan plan control control held held sink sink old new unread in
    closes_unplayed false left written plan Says Session old new status one told quiet (keeps_all_of left written plan control held sink old new unread) off (record {
      ports = ports_back held (ports_in plan old) (ports_in plan new) unread.ports;
      others = off.ports;
      control = control_back plan.control control old.control new.control unread.ends;
      ticker = untouched_back old.ticker new.ticker ticker;
      outputs = output_back plan.journal sink old.outputs new.outputs unread.journal;
    })

module _ {S K C : Type 0} (left : S → Option (List ℕ)) (written : K → Option (List ℕ)) (source_faults : S → ℕ) (sink_faults : K → ℕ) (plan : Plan) (Says : List ℕ → Type 0) (control control' : Option (ControlEnds S K C)) (held back : List (PortEnds S K C)) (sink sink' : K) (old new : Book S K C) (status : ℕ) where
  -- what was played, and what is left of it
  abbrev pub Plays : Outcome → Type 0
  Plays o = (segments : List (List Row)) × IsOutcomeOf segments o × IsPlayed left written source_faults sink_faults plan segments control control' held back sink sink' o.journal_written

  -- and what was said of it, between the same standard outputs
  abbrev pub Concludes : Book S K C → Outcome → Type 0
  Concludes mid o = (segments : List (List Row)) → IsOutcomeOf segments o → IsSummed written sink_faults Says (joined segments) (unbroken segments) o.journal_written (mid.std Out) (new.std Out) status

  said : (mid : Book S K C) (o : Outcome) → mid.std ≡ old.std → (plays : Plays o) → Concludes mid o → IsSummed written sink_faults Says (joined plays.0) (unbroken plays.0) o.journal_written (old.std Out) (new.std Out) status
  said mid o same plays concluded =
      subst (λ (p : Place K). IsSummed written sink_faults Says (joined plays.0) (unbroken plays.0) o.journal_written p (new.std Out) status) (ap (λ (p : _ → Place K). p Out) same) (concluded plays.0 plays.1)

  -- by whether there was an outcome
  pub closes : (outcome : Option Outcome) (mid : Book S K C)
      → Laws → HandledAll plan control control' held back sink sink' old new → new.ticker ≡ old.ticker → mid.std ≡ old.std → All IsReadAnew held
      → IfNone outcome ((control' ≡ control) × (back ≡ held) × (sink' ≡ sink)) → IfSome outcome Plays
      → IfNone outcome ((status ≡ 1) × (Says memory_line × (new ≡ mid))) → IfSome outcome (Concludes mid)
      → Closes false left written plan Says (IsSessionOf left written source_faults sink_faults plan Says old new status) old new status
  closes None mid laws all ticker same anew none played unserved concluded =
      closes_none left written plan Says _ control control' held back sink sink' old new status all ticker none.0 none.1 none.2 unserved.0 unserved.1.0
      (ap (λ (b : Book S K C). b.std Out) unserved.1.1 ∙ ap (λ (p : _ → Place K). p Out) same)
  closes (Some o) mid laws all ticker same anew none played unserved concluded =
      let summed = said mid o same played concluded in
      closes_played false left written sink_faults plan Says _ (joined played.0) (unbroken played.0) o.journal_written old new status summed
      (session_of left written source_faults sink_faults plan Says control control' held back sink sink' played.0 o.journal_written old new status laws all anew played.2 summed)

element : {X : Type 0} (xs : List X) (k : ℕ) → k < length xs → X
element [] k inside = absurd (omega arith)
element (x ∷ xs) k inside = x

stays_by : {K : Type 0} (old new : List ℕ → Place K) (name other : List ℕ) → new name ≡ old name → OthersStay old new name → (other ≡ name) ⊎ (other ≢ name) → new other ≡ old other
stays_by {K} old new name other here others (inl same) = subst (λ (n : List ℕ). new n ≡ old n) (sym same) here
stays_by old new name other here others (inr apart) = others other apart

-- where one place is as it was, and every other one is
pub stays_all : {K : Type 0} (old new : List ℕ → Place K) (name : List ℕ) → new name ≡ old name → OthersStay old new name → (other : List ℕ) → new other ≡ old other
stays_all old new name here others other = stays_by old new name other here others (cases_name other name)

-- places of control that weren't touched have their ends back
pub control_same : {S K C : Type 0} (live : Bool) (names : Option (List ℕ × List ℕ)) (old new : ControlKey → Place (Ends S K C)) → new ≡ old → IsControlBack live names old new
control_same live None old new same = same
control_same {S} {K} {C} live (Some names) old new same = untouched_back (old (control_key live names)) (new (control_key live names)) (ap (λ (p : ControlKey → Place (Ends S K C)). p (control_key live names)) same)

-- the ports that were opened came back as they were, and so did control, and no output was touched
pub unused_by : {S K C : Type 0} (plan : Plan) (held : List (PortEnds S K C)) (old new : Book S K C) → Handled held held (ports_in plan old) (ports_in plan new) → ((key : PortKey) → All (λ n. n ≢ key.number) (numbers_of plan.ports) → new.ports key ≡ old.ports key)
    → IsControlBack false plan.control old.control new.control → new.ticker ≡ old.ticker → ((name : List ℕ) → new.outputs name ≡ old.outputs name) → IsUnusedOf false plan old new
unused_by {S} {K} {C} plan held old new handled others control ticker same = record {
  ports = ports_back held (ports_in plan old) (ports_in plan new) handled;
  others = others;
  control = control;
  ticker = untouched_back old.ticker new.ticker ticker;
  outputs = λ name. subst (λ (x : Place K). IsBack (old.outputs name) x) (sym (same name)) (back_from (old.outputs name).stands);
}

-- nothing was touched
pub unused_still : {S K C : Type 0} (live : Bool) (plan : Plan) (book : Book S K C) → IsUnusedOf live plan book book
unused_still live plan book = record {
  ports = λ port. back_from (ports_in plan book port).stands;
  others = λ key away. refl;
  control = control_same live plan.control book.control book.control refl;
  ticker = back_from book.ticker.stands;
  outputs = λ name. back_from (book.outputs name).stands;
}
