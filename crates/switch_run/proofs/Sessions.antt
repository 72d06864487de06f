-- From a session over the ends of control and of ports, and its journal, to what was played.
use Rattle.std.proofs.Common.{◌≡◌, ℕ, ◌-◌, ◌≤◌, not, List, [], ◌∷◌, Bool, true, false, length, refl, sym, ap, ◌∙◌, subst, arith, append-nil, Option, Some, None, IfSome, is_some, inl, Vec, Global}
use Rattle.std.specs.Prelude.{All}
use Rattle.savi_kinds.specs.declared.entry.How.{How}
use Rattle.savi_kinds.specs.declared.entry.Who.{Who}
use Rattle.savi_kinds.specs.declared.plan.Plan.{Plan}
use Rattle.savi_kinds.specs.declared.plan.PrefixPlan.{PrefixPlan}
use Rattle.savi_kinds.specs.Prefixes.{first_of}
use Rattle.savi_kinds.specs.ValidPlan.{IsValidPlan, nets_of}
use Rattle.savi_ends.specs.declared.world.Ends.{Ends}
use Rattle.savi_ends.specs.Octets.{behind}
use Rattle.hist_store.specs.Rows.{Row}
use Rattle.checkpoint.specs.Bases.{Base}
use Rattle.savi_history.specs.Journals.{IsAddress}
use Rattle.savi_history.specs.Shown.{counts_of}
use Rattle.savi_history.specs.Summary.{capped, summary_of}
use Rattle.savi_segments.specs.Counted.{summary_by}
use Rattle.savi_segments.specs.Journals.{journal_of}
use Rattle.savi_segments.specs.Segments.{AreLegal, base_after, joined}
use Rattle.cli_lang.specs.Arrivals.{Input}
use Rattle.savi_core.specs.Machines.{base_of}
use Rattle.journal_write.specs.Written.{WasGiven}
use Rattle.port_worker.specs.declared.control_ends.ControlEnds.{ControlEnds}
use Rattle.port_worker.specs.declared.port_ends.PortEnds.{PortEnds}
use Rattle.port_worker.specs.declared.session.Ready.{Ready}
use Rattle.port_worker.specs.ControlServed.{ServesControl}
use Rattle.port_worker.specs.Journalled.{TookJournal}
use Rattle.port_worker.specs.Replayed.{HasReplayed}
use Rattle.port_worker.specs.Served.{ServesEnds}
use Rattle.journal_write.specs.Told.{TellsOf}
use Rattle.live_session.specs.LiveSession.{ControlOf}
use Rattle.live_switch.specs.declared.ready.Closed.{Closed}
use Rattle.live_switch.specs.declared.ready.Ready as live
use Rattle.live_switch.specs.Endings.{HasServed}
use Rattle.switch_run.specs.declared.outcome.Outcome.{Outcome}
use Rattle.switch_run.specs.Causes.{TookOrPart}
use Rattle.switch_run.specs.Live.{IsLivePlayed}
use Rattle.switch_run.specs.Played.{IsOutcomeOf, IsPlayed}

-- the law on counters
abbrev pub CountersSumUp : Type 0
CountersSumUp =
    (plan : Plan) (segment : List Row) (before : List (List Row)) → IsValidPlan plan → AreLegal plan (segment ∷ before)
    → summary_of (joined (segment ∷ before)) ≡ summary_by (capped (length (joined (segment ∷ before)))) (counts_of (base_after plan before) segment)

-- each prefix of a plan has an address of 128 bits
abbrev pub HasAddresses : List PrefixPlan → Type 0
HasAddresses prefixes = All (λ net. IsAddress (first_of net)) (nets_of prefixes)

some_segments : (segment : List Row) (before : List (List Row)) → 1 ≤ length (segment ∷ before)
some_segments segment before = omega arith

-- journals

module _ {K : Type 0} (written : K → Option (List ℕ)) (faults : K → ℕ) where
  -- what was given without a fault was taken where nothing waits
  pub took_given : (failed : Bool) (text : List ℕ) (old new : K) → WasGiven written faults old new [] failed text → TookOrPart faults written (not failed) text old new
  took_given true text old new given = let rose = given.1 in (omega (arith, rose), given.0)
  took_given false text old new given = (given.0.sink ∙ ap (behind (written old)) (sym (append-nil given.0.took) ∙ given.0.all), given.1)

-- a journal that was there before a session is there behind it
pub some_journal : {K : Type 0} (written : K → Option (List ℕ)) (faults : K → ℕ) (plan : Plan) (segments : List (List Row)) (failed : Bool) (old : K) (new : Option K) → TookJournal written faults plan segments failed (Some old) new → is_some new ≡ true
some_journal written faults plan segments failed old None took = absurd took
some_journal written faults plan segments failed old (Some new) took = refl

-- a replay

-- what a replay was to its ends and its journal, and what is told of it
abbrev pub Replays : {S K C : Type 0} → (S → Option (List ℕ)) → (K → Option (List ℕ)) → (S → ℕ) → (K → ℕ) → Plan → Ready S K C → Ready S K C → ℕ → List (Who × How) → Bool → List (List Row) → Type 0
Replays left written source_faults sink_faults plan old new entries ends failed segments =
    ServesEnds left written source_faults sink_faults plan segments old.control new.control old.ports.items new.ports.items × TellsOf entries ends segments × TookJournal written sink_faults plan segments failed old.journal new.journal

-- what is left of it, and what was played, once its ends are given back
pub played_back : {S K C : Type 0} (left : S → Option (List ℕ)) (written : K → Option (List ℕ)) (source_faults : S → ℕ) (sink_faults : K → ℕ) (plan : Plan) (prefixes : List PrefixPlan) (o : Outcome) (outcome : Option Outcome) (failed : Bool) (old new : Ready S K C) (journal : K)
    (control' : Option (ControlEnds S K C)) (ports' : Vec (PortEnds S K C) Global) (journal' : K)
    → CountersSumUp → IsValidPlan plan → o.core.plan ≡ plan → prefixes ≡ o.core.plan.prefixes → HasAddresses prefixes → o.journal_written ≡ not failed → old.journal ≡ Some journal
    → control' ≡ new.control → ports' ≡ new.ports → Some journal' ≡ new.journal → outcome ≡ Some o
    → HasReplayed o.core (Replays left written source_faults sink_faults plan old new o.entries o.ends.items failed)
    → IfSome outcome (λ o. (segments : List (List Row)) × IsOutcomeOf segments o × IsPlayed left written source_faults sink_faults plan segments old.control control' old.ports.items ports'.items journal journal' o.journal_written)
played_back {S} {K} {C} left written source_faults sink_faults plan prefixes o outcome failed old new journal control' ports' journal' law valid same lent addresses written_is had control_is ports_are has is replayed =
    let segments : List (List Row) = o.core.past ∷ replayed.before in
    let serves = replayed.all.0 in
    let tells = replayed.all.1 in
    let legal : AreLegal plan segments = serves.session.legal in
    let took : TookJournal written sink_faults plan segments failed (Some journal) (Some journal') =
    subst (λ (j : Option K). TookJournal written sink_faults plan segments failed (Some journal) j) (sym has)
    (subst (λ (j : Option K). TookJournal written sink_faults plan segments failed j new.journal) had replayed.all.2) in
    let base_is : base_after plan replayed.before ≡ base_of o.core = ap (λ (p : Plan). base_after p replayed.before) (sym same) ∙ sym replayed.base in
    let left_of : IsOutcomeOf segments o = record {
      tells = tells;
      counted =
          law plan o.core.past replayed.before valid legal
          ∙ ap (λ (n : ℕ). summary_by n (counts_of (base_after plan replayed.before) o.core.past)) (sym tells.entries_are)
          ∙ ap (λ (base : Base). summary_by o.entries (counts_of base o.core.past)) base_is;
    } in
    let played : IsPlayed left written source_faults sink_faults plan segments old.control control' old.ports.items ports'.items journal journal' o.journal_written = record {
      serves =
          subst (λ (c : Option (ControlEnds S K C)). ServesEnds left written source_faults sink_faults plan segments old.control c old.ports.items ports'.items) (sym control_is)
          (subst (λ (p : Vec (PortEnds S K C) Global). ServesEnds left written source_faults sink_faults plan segments old.control new.control old.ports.items p.items) (sym ports_are) serves);
      journal_was = subst (λ (done : Bool). TookOrPart sink_faults written done (journal_of plan segments) journal journal') (sym written_is) (took_given written sink_faults failed (journal_of plan segments) journal journal' took);
      tells = record {
        valid = valid;
        addresses = subst HasAddresses (lent ∙ ap (λ (p : Plan). p.prefixes) same) addresses;
        some = some_segments o.core.past replayed.before;
        legal = legal;
        journal = inl refl;
      };
    } in
    subst (λ (out : Option Outcome). IfSome out (λ o. (segments : List (List Row)) × IsOutcomeOf segments o × IsPlayed left written source_faults sink_faults plan segments old.control control' old.ports.items ports'.items journal journal' o.journal_written)) (sym is)
    (segments, left_of, played)

-- ends of control are there behind a session where they were before
pub same_control : {S K C : Type 0} (left : S → Option (List ℕ)) (written : K → Option (List ℕ)) (source_faults : S → ℕ) (sink_faults : K → ℕ) (plan : Plan) (segments : List (List Row)) (old new : Option (ControlEnds S K C)) (lines : Option Input) (stop : Option ℕ)
    → ServesControl left written source_faults sink_faults plan segments old new lines stop → is_some new ≡ is_some old
same_control left written source_faults sink_faults plan segments None None lines stop serves = refl
same_control left written source_faults sink_faults plan segments None (Some new) lines stop serves = absurd serves
same_control left written source_faults sink_faults plan segments (Some old) None lines stop serves = absurd serves
same_control left written source_faults sink_faults plan segments (Some old) (Some new) lines stop serves = refl

-- a live session

-- what is left of it, and what was served
pub served_of : {S K C : Type 0} (left : S → Option (List ℕ)) (written : K → Option (List ℕ)) (source_faults : S → ℕ) (sink_faults : K → ℕ) (readings : C → Option (List ℕ)) (plan : Plan) (prefixes : List PrefixPlan) (old : live.Ready S K C) (closed : Closed S K C) (o : Outcome)
    → CountersSumUp → IsValidPlan plan → closed.core.plan ≡ plan → prefixes ≡ closed.core.plan.prefixes → HasAddresses prefixes
    → o ≡ record { core = closed.core; entries = closed.entries; ends = closed.ends; journal_written = not closed.journal_failed }
    → HasServed left written source_faults sink_faults readings plan old closed
    → (segments : List (List Row)) × IsOutcomeOf segments o × IsLivePlayed left written source_faults sink_faults readings plan segments old closed.ready o.journal_written
served_of {S} {K} {C} left written source_faults sink_faults readings plan prefixes old closed o law valid same lent addresses is served =
    let segments : List (List Row) = closed.core.past ∷ served.before in
    let legal : AreLegal plan segments = served.live.session.legal in
    let out : Outcome = record { core = closed.core; entries = closed.entries; ends = closed.ends; journal_written = not closed.journal_failed } in
    let left_of : IsOutcomeOf segments out = record {
      tells = served.tells;
      counted =
          law plan closed.core.past served.before valid legal
          ∙ ap (λ (n : ℕ). summary_by n (counts_of (base_after plan served.before) closed.core.past)) (sym served.tells.entries_are)
          ∙ ap (λ (base : Base). summary_by closed.entries (counts_of base closed.core.past)) (sym served.base);
    } in
    let played : IsLivePlayed left written source_faults sink_faults readings plan segments old closed.ready (not closed.journal_failed) = record {
      live = served.live;
      journal_was = took_given written sink_faults closed.journal_failed (journal_of plan segments) old.journal closed.ready.journal served.journal;
      tells = record {
        valid = valid;
        addresses = subst HasAddresses (lent ∙ ap (λ (p : Plan). p.prefixes) same) addresses;
        some = some_segments closed.core.past served.before;
        legal = legal;
        journal = inl refl;
      };
    } in
    subst (λ (x : Outcome). (segments : List (List Row)) × IsOutcomeOf segments x × IsLivePlayed left written source_faults sink_faults readings plan segments old closed.ready x.journal_written) (sym is) (segments, left_of, played)

pub same_live : {S K C : Type 0} (left : S → Option (List ℕ)) (written : K → Option (List ℕ)) (source_faults : S → ℕ) (sink_faults : K → ℕ) (readings : C → Option (List ℕ)) (plan : Plan) (segments : List (List Row)) (old new : Option (Ends S K C))
    → ControlOf left written source_faults sink_faults readings plan segments old new → is_some new ≡ is_some old
same_live left written source_faults sink_faults readings plan segments None None served = refl
same_live left written source_faults sink_faults readings plan segments None (Some new) served = absurd served
same_live left written source_faults sink_faults readings plan segments (Some old) None served = absurd served
same_live left written source_faults sink_faults readings plan segments (Some old) (Some new) served = refl
