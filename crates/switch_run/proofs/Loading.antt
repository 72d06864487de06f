-- How the run of a load ends.
use Rattle.std.proofs.Common.{◌≡◌, ℕ, ◌⊎◌, inl, inr, List, [], ◌∷◌, Bool, true, false, if◌then◌else◌, refl, sym, ap, ◌∙◌, subst, arith, Option, Some, None, append-nil, length}
use Rattle.savi_ends.specs.declared.world.Std.TheVariants.{Out}
use Rattle.savi_ends.specs.Octets.{behind}
use Rattle.savi_ends.specs.Places.{Place, Book}
use Rattle.hist_store.specs.Rows.{Row}
use Rattle.checkpoint.specs.Bases.{Base}
use Rattle.savi_history.specs.Shown.{counts_of}
use Rattle.savi_history.specs.Summary.{Summary, capped, summary_of, summary_text}
use Rattle.savi_segments.specs.Counted.{summary_by}
use Rattle.savi_segments.specs.Segments.{IsWholeSession, base_after, joined}
use Rattle.savi_core.specs.Machines.{Machine, base_of}
use Rattle.port_worker.specs.Replayed.{HasReplayed}
use Rattle.load_gen.specs.LoadPlan.{IsLoadPlan}
use Rattle.load_gen.proofs.PlanHolds.{load_plan_holds}
use Rattle.load_run.specs.LoadHistory.{AreOrdinary, load_segments}
use Rattle.switch_report.specs.RunLines.{memory_line}
use Rattle.switch_run.specs.Causes.{IsOneOf, IsUnserved, Keeps, TookOrPart, quiet_statuses, statuses}
use Rattle.switch_run.specs.Loads.{IsLoadRun, IsLoadSummed, IsLoadUnplayed}
use Rattle.switch_run.specs.Session.{WasTold, ToldBy}
use Rattle.switch_run.proofs.Sessions.{CountersSumUp}
use Rattle.switch_run.proofs.Running.{Ran, ran_told, ran_quiet, out≢err}

by_written : (P : ℕ → Type 0) (status : ℕ) (written : Bool) → P 0 → P 6 → status ≡ (if written then 0 else 6) → P status
by_written P status true zero six is = subst P (sym is) zero
by_written P status false zero six is = subst P (sym is) six

-- what holds of the three statuses of the run of a load
by_did : {K : Type 0} (written : K → Option (List ℕ)) (sink_faults : K → ℕ) (seed frames : ℕ) (Says : List ℕ → Type 0) (old new : Place K) (status : ℕ) (P : ℕ → Type 0) → P 0 → P 1 → P 6
    → IsLoadUnplayed Says old new status ⊎ IsLoadSummed written sink_faults seed frames Says old new status → P status
by_did written sink_faults seed frames Says old new status P zero one six (inl unplayed) = subst P (sym unplayed.one) one
by_did written sink_faults seed frames Says old new status P zero one six (inr summed) = by_written P status summed.summary_written zero six summed.cause

module _ {S K C : Type 0} (written : K → Option (List ℕ)) (sink_faults : K → ℕ) (seed frames : ℕ) (Says : List ℕ → Type 0) (old new : Book S K C) (status : ℕ) (run : IsLoadRun written sink_faults seed frames Says old new status) where
  by_status : (P : ℕ → Type 0) → P 0 → P 1 → P 6 → P status
  by_status P zero one six = by_did written sink_faults seed frames Says (old.std Out) (new.std Out) status P zero one six run.did

  pub load_is : IsOneOf statuses status
  load_is = by_status (λ n. IsOneOf statuses n) refl refl refl

  pub not_two : status ≡ 2 → ⊥
  not_two = by_status (λ n. n ≡ 2 → ⊥) (λ e. absurd (omega (arith, e))) (λ e. absurd (omega (arith, e))) (λ e. absurd (omega (arith, e)))

  pub not_seven : status ≡ 7 → ⊥
  not_seven = by_status (λ n. n ≡ 7 → ⊥) (λ e. absurd (omega (arith, e))) (λ e. absurd (omega (arith, e))) (λ e. absurd (omega (arith, e)))

  load_quiet : IsOneOf quiet_statuses status → status ≡ 1
  load_quiet = by_status (λ n. IsOneOf quiet_statuses n → n ≡ 1) (λ e. let t : false ≡ true = e in cc) (λ e. refl) (λ e. let t : false ≡ true = e in cc)

  -- without memory
  told_so : IsLoadUnplayed Says (old.std Out) (new.std Out) status ⊎ IsLoadSummed written sink_faults seed frames Says (old.std Out) (new.std Out) status → status ≡ 1 → Says memory_line × (new.std Out ≡ old.std Out)
  told_so (inl unplayed) one = (unplayed.errors, unplayed.out)
  told_so (inr summed) one =
      absurd (by_written (λ n. n ≡ 1 → ⊥) status summed.summary_written (λ e. absurd (omega (arith, e))) (λ e. absurd (omega (arith, e))) summed.cause one)

  pub load_memory : status ≡ 1 → Says memory_line × (new.std Out ≡ old.std Out)
  load_memory one = told_so run.did one

  pub load_out : IsOneOf quiet_statuses status → new.std Out ≡ old.std Out
  load_out quiet = (load_memory (load_quiet quiet)).1

  pub load_unserved : IsUnserved old new
  load_unserved = record {
    ports = ap (λ (b : Book S K C). b.ports) run.rest;
    control = ap (λ (b : Book S K C). b.control) run.rest;
    ticker = ap (λ (b : Book S K C). b.ticker) run.rest;
    outputs = ap (λ (b : Book S K C). b.outputs) run.rest;
  }

module _ {S K C : Type 0} (written : K → Option (List ℕ)) (sink_faults : K → ℕ) (seed frames : ℕ) (b0 b1 b2 b3 : Book S K C) (e e' : K) (status : ℕ) (ran : Ran b0 b1 b2 b3 e e') where
  moved : IsLoadUnplayed (ToldBy sink_faults written e e') (b1.std Out) (b2.std Out) status ⊎ IsLoadSummed written sink_faults seed frames (ToldBy sink_faults written e e') (b1.std Out) (b2.std Out) status
      → IsLoadUnplayed (WasTold sink_faults written b0 b3) (b0.std Out) (b3.std Out) status ⊎ IsLoadSummed written sink_faults seed frames (WasTold sink_faults written b0 b3) (b0.std Out) (b3.std Out) status
  moved (inl unplayed) = inl (record {
    one = unplayed.one;
    errors = ran_told sink_faults written b0 b1 b2 b3 e e' memory_line ran unplayed.errors;
    out = ran_quiet b0 b1 b2 b3 e e' ran unplayed.out;
  })
  moved (inr summed) = inr (record {
    plan = summed.plan;
    load = summed.load;
    session = summed.session;
    ordinary = summed.ordinary;
    summary_written = summed.summary_written;
    summary = rw (ran.others3 Out out≢err, sym (ran.others1 Out out≢err)) summed.summary;
    errors = ran_told sink_faults written b0 b1 b2 b3 e e' [] ran summed.errors;
    cause = summed.cause;
  })

  pub ran_load : IsLoadRun written sink_faults seed frames (ToldBy sink_faults written e e') b1 b2 status → IsLoadRun written sink_faults seed frames (WasTold sink_faults written b0 b3) b0 b3 status
  ran_load run = record {
    did = moved run.did;
    rest = ran.rest3 ∙ ap (λ (b : Book S K C). record b { std = b3.std }) run.rest ∙ ap (λ (b : Book S K C). record b { std = b3.std }) ran.rest1;
  }

nothing_more : (told : Option (List ℕ)) → told ≡ behind told []
nothing_more None = refl
nothing_more (Some octets) = ap (λ (o : List ℕ). Some o) (sym (append-nil octets))

-- what was told nothing is as it was
pub told_nothing : {K : Type 0} (faults : K → ℕ) (written : K → Option (List ℕ)) (sink : K) → ToldBy faults written sink sink []
told_nothing faults written sink = inl (nothing_more (written sink))

-- the segments of a load were summed up, and standard error was told nothing
pub load_summed : {K : Type 0} (written : K → Option (List ℕ)) (faults : K → ℕ) (seed frames : ℕ) (sink : K) (core : Machine) (entries : ℕ) (sum : Summary) (done : Bool) (old new : Place K) (status : ℕ)
    → CountersSumUp → IsLoadPlan core.plan
    → HasReplayed core (λ segments. (segments ≡ load_segments core.plan seed frames) × IsWholeSession core.plan segments × (entries ≡ capped (length (joined segments))))
    → AreOrdinary (joined (load_segments core.plan seed frames))
    → sum ≡ summary_by entries (counts_of (base_of core) core.past) → Keeps (TookOrPart faults written done (summary_text sum)) old new → status ≡ (if done then 0 else 6)
    → IsLoadSummed written faults seed frames (ToldBy faults written sink sink) old new status
load_summed written faults seed frames sink core entries sum done old new status law load replayed ordinary summed keeps is =
    let plan = core.plan in
    let segments : List (List Row) = core.past ∷ replayed.before in
    let whole : segments ≡ load_segments plan seed frames = replayed.all.0 in
    let session = replayed.all.1 in
    let counted : sum ≡ summary_of (joined segments) =
    summed
    ∙ ap (λ (base : Base). summary_by entries (counts_of base core.past)) replayed.base
    ∙ ap (λ (n : ℕ). summary_by n (counts_of (base_after plan replayed.before) core.past)) replayed.all.2
    ∙ sym (law plan core.past replayed.before (load_plan_holds plan load) session.legal) in
    record {
      plan = plan;
      load = load;
      session = subst (IsWholeSession plan) whole session;
      ordinary = ordinary;
      summary_written = done;
      summary = subst (λ (s : Summary). Keeps (TookOrPart faults written done (summary_text s)) old new) (counted ∙ ap (λ (l : List (List Row)). summary_of (joined l)) whole) keeps;
      errors = told_nothing faults written sink;
      cause = is;
    }
