-- From the ends that were opened and kept for a live session to what stands when it is over.
use Rattle.std.proofs.Common.{◌≡◌, ◌≢◌, ℕ, ◌+◌, ◌<◌, suc, zero, length-append, ◌⊎◌, inl, inr, List, ◌∷◌, ◌++◌, Bool, true, false, length, map, take, drop, get_or, refl, sym, ap, ◌∙◌, subst, arith, Option, Some, None, IfNone, IfSome, IsSome, is_some, slice_index}
use Rattle.std.proofs.lemmas.List.{get_or_default, get_or-take, get_or-append-add, length-map, length-take-le, take-append-drop}
use Rattle.std.proofs.lemmas.List.Kept.{AllPairs-from_increasing}
use Rattle.std.proofs.Math.Seq.{drop-cons}
use Rattle.std.proofs.lemmas.Bool.{cases_eq}
use Rattle.std.specs.List.Sorted.{IsStrictlyIncreasing}
use Rattle.std.specs.Prelude.{All, OnSome}
use Rattle.savi_kinds.specs.declared.plan.Plan.{Plan}
use Rattle.savi_kinds.specs.declared.plan.PortPlan.{PortPlan}
use Rattle.savi_kinds.specs.declared.port.Port.{Port}
use Rattle.savi_kinds.specs.Ports.{number_of}
use Rattle.savi_kinds.specs.ValidPlan.{numbers_of}
use Rattle.savi_ends.specs.declared.world.Std.TheVariants.{Out}
use Rattle.savi_ends.specs.declared.world.Ends.{Ends}
use Rattle.savi_ends.specs.Places.{Place, Book, PortKey, ControlKey, IsPortOut, IsControlOut, IsControlKept}
use Rattle.hist_store.specs.Rows.{Row}
use Rattle.savi_segments.specs.Segments.{joined}
use Rattle.savi_segments.specs.Unbroken.{unbroken}
use Rattle.live_session.specs.LiveRows.{ControlRow, TickerRow}
use Rattle.live_session.specs.LiveSession.{PortRow, ControlOf}
use Rattle.live_switch.specs.declared.ready.Ready.{Ready}
use Rattle.port_worker.specs.SentFrames.{TookMore}
use Rattle.port_worker.specs.Used.{IsUsed}
use Rattle.switch_ports.specs.Named.{control_key, key_among, named_by}
use Rattle.switch_ports.proofs.Named.{key_number}
use Rattle.switch_ports.specs.Live.{AreKept, AreOpened, IsLiveControlOpened, IsNextOf, IsOffFirst, OthersSame}
use Rattle.switch_report.specs.RunLines.{cannot_open_line, control_word, journal_word, memory_line, port_name}
use Rattle.switch_run.specs.declared.outcome.Outcome.{Outcome}
use Rattle.switch_run.specs.Causes.{IsBack, IsControlBack, IsOffPlanSame, IsUnusedOf, Keeps, KeepsAll, KeepsControl, ports_in}
use Rattle.switch_run.specs.Played.{IsOutcomeOf}
use Rattle.switch_run.specs.Live.{IsLivePlayed, IsServeOf, ServesControlAt}
use Rattle.switch_run.specs.Session.{IsControlUnopened, IsJournalUnopened, IsPortUnopened, IsSummed}
use Rattle.switch_run.proofs.Through.{HandledEnds, HandledOne, Laws, back_from, both_told, element, is_some_of, keeps_of, output_back, reported_of, unused_ends, unused_sink}
use Rattle.switch_run.proofs.Ending.{Closes, closes_played, closes_unplayed, untouched_back}
use Rattle.switch_run.proofs.LegalFailures.{number_of_place}

-- The ends that were told of the first of these ports were opened and are kept by now, each at its own place; those of other
-- ports stay.
pub record HandledPorts {S K C : Type 0} (numbers : List ℕ) (held back : List (Ends S K C)) (old new : ℕ → Place (Ends S K C)) : Type 0 where
  pub size : length back ≡ length held
  pub told : (k : ℕ) (d : Ends S K C) → k < length held → IfSome (old (slice_index numbers k)).stands (λ t. get_or held k d ≡ t)
  pub kept : (k : ℕ) (d : Ends S K C) → k < length held → (new (slice_index numbers k)).stands ≡ Some (get_or back k d)
  pub others : (n : ℕ) → IsOffFirst numbers (length held) n → new n ≡ old n

-- the same of the ends of control, where the plan has names for them; else there are none, and their places stay
abbrev pub HandledLive : {S K C : Type 0} → Option (List ℕ × List ℕ) → Option (Ends S K C) → Option (Ends S K C) → (ControlKey → Place (Ends S K C)) → (ControlKey → Place (Ends S K C)) → Type 0
HandledLive None None None old new = new ≡ old
HandledLive None None (Some back) old new = ⊥
HandledLive None (Some held) back old new = ⊥
HandledLive (Some names) None back old new = ⊥
HandledLive (Some names) (Some held) None old new = ⊥
HandledLive (Some names) (Some held) (Some back) old new = HandledEnds held back (old (control_key true names)) (new (control_key true names))

-- the same of the ticker's clock
pub record HandledClock {C : Type 0} (clock clock' : C) (old new : Place C) : Type 0 where
  pub told : IfSome old.stands (λ t. clock ≡ t)
  pub kept : new.stands ≡ Some clock'

-- the same of all ends of a plan
pub record HandledPlan {S K C : Type 0} (plan : Plan) (held back : Ready S K C) (sink sink' : K) (old new : Book S K C) : Type 0 where
  pub planned : length held.ports.items ≡ length plan.ports
  pub ports : HandledPorts (numbers_of plan.ports) held.ports.items back.ports.items (ports_in plan old) (ports_in plan new)
  pub others : OthersSame (numbers_of plan.ports) (length held.ports.items) old.ports new.ports
  pub control : HandledLive plan.control held.control back.control old.control new.control
  pub ticker : HandledClock held.ticker back.ticker old.ticker new.ticker
  pub journal : HandledOne plan.journal sink sink' old.outputs new.outputs

pub numbers_len : (plan : Plan) → length (numbers_of plan.ports) ≡ length plan.ports
numbers_len plan = length-map plan.ports (λ (p : PortPlan). number_of p.number)

-- the numbers that were copied are as many as the ports
pub numbers_count : (plan : Plan) (numbers : List Port) → map number_of numbers ≡ numbers_of plan.ports → length numbers ≡ length plan.ports
numbers_count plan numbers are = sym (length-map numbers number_of) ∙ ap length are ∙ numbers_len plan

-- ports that were opened are handed out
pub live_out : {S K C : Type 0} (IsFresh : Ends S K C → Type 0) (plans : List PortPlan) (numbers numbers' : List ℕ) (held back : List (Ends S K C)) (p0 p1 p2 : PortKey → Place (Ends S K C)) → AreOpened IsFresh numbers (named_by plans p0) (named_by plans p1) held → length back ≡ length held → numbers' ≡ numbers → p2 ≡ p1
    → (k : ℕ) → k < length back → IsPortOut p2 (slice_index numbers' k)
live_out {S} {K} {C} IsFresh plans numbers numbers' held back p0 p1 p2 opened size are same k inside =
    let within : k < length held = omega (arith, size, inside) in
    let n = slice_index numbers k in
    subst (λ (l : List ℕ). IsPortOut p2 (slice_index l k)) (sym are)
    (key_among plans n, key_number plans n, ap (λ (p : PortKey → Place (Ends S K C)). (p (key_among plans n)).is_out) same ∙ (opened k (element held k within) within).out)

-- the ports that aren't held stay
pub live_others : {S K C : Type 0} (numbers numbers' : List ℕ) (held back : List (Ends S K C)) (p0 p1 p2 p3 p4 : PortKey → Place (Ends S K C))
    → OthersSame numbers (length held) p0 p1 → p2 ≡ p1 → length back ≡ length held → numbers' ≡ numbers → OthersSame numbers' (length back) p2 p3 → p4 ≡ p3 → OthersSame numbers (length held) p0 p4
live_others {S} {K} {C} numbers numbers' held back p0 p1 p2 p3 p4 off1 same12 size are off3 same34 = λ key off.
    ap (λ (p : PortKey → Place (Ends S K C)). p key) same34
    ∙ off3 key (λ k inside same. off k (omega (arith, size, inside)) (ap (λ (l : List ℕ). slice_index l k) (sym are) ∙ same))
    ∙ ap (λ (p : PortKey → Place (Ends S K C)). p key) same12 ∙ off1 key off

pub live_handled : {S K C : Type 0} (IsFresh : Ends S K C → Type 0) (plans : List PortPlan) (numbers numbers' : List ℕ) (held back : List (Ends S K C)) (p0 p1 p2 p3 p4 : PortKey → Place (Ends S K C))
    → AreOpened IsFresh numbers (named_by plans p0) (named_by plans p1) held → OthersSame numbers (length held) p0 p1 → p2 ≡ p1
    → length back ≡ length held → numbers' ≡ numbers → AreKept numbers' p2 p3 back → OthersSame numbers' (length back) p2 p3 → p4 ≡ p3
    → HandledPorts numbers held back (named_by plans p0) (named_by plans p4)
live_handled {S} {K} {C} IsFresh plans numbers numbers' held back p0 p1 p2 p3 p4 opened off1 same12 size are kept off3 same34 = record {
  size = size;
  told = λ k d inside. (opened k d inside).told;
  kept = λ k d inside.
      let n = slice_index numbers k in
      let key = key_among plans n in
      ap (λ (p : PortKey → Place (Ends S K C)). (p key).stands) same34
      ∙ kept k d (omega (arith, size, inside)) key (key_number plans n ∙ ap (λ (l : List ℕ). slice_index l k) (sym are)) (ap (λ (p : PortKey → Place (Ends S K C)). (p key).is_out) same12 ∙ (opened k d inside).out);
  others = λ n off. live_others numbers numbers' held back p0 p1 p2 p3 p4 off1 same12 size are off3 same34 (key_among plans n) (subst (λ (m : ℕ). IsOffFirst numbers (length held) m) (sym (key_number plans n)) off);
}

-- ends of control that are held are handed out
pub live_control_out : {S K C : Type 0} (IsFresh : Ends S K C → Type 0) (names : Option (List ℕ × List ℕ)) (held back : Option (Ends S K C)) (p0 p1 p2 : ControlKey → Place (Ends S K C))
    → IsLiveControlOpened IsFresh names p0 p1 held → is_some back ≡ is_some held → p2 ≡ p1 → OnSome back (IsControlOut p2)
live_control_out IsFresh None None None p0 p1 p2 opened same stays = tt
live_control_out IsFresh None None (Some back) p0 p1 p2 opened same stays = let t : true ≡ false = same in cc
live_control_out IsFresh None (Some held) back p0 p1 p2 opened same stays = absurd opened
live_control_out IsFresh (Some names) None back p0 p1 p2 opened same stays = absurd opened
live_control_out IsFresh (Some names) (Some held) None p0 p1 p2 opened same stays = tt
live_control_out {S} {K} {C} IsFresh (Some names) (Some held) (Some back) p0 p1 p2 opened same stays =
    (control_key true names, ap (λ (p : ControlKey → Place (Ends S K C)). (p (control_key true names)).is_out) stays ∙ opened.out)

-- the places of control before the ports were opened, behind control's opening, and before and behind the keeping of its ends
pub live_control : {S K C : Type 0} (IsFresh : Ends S K C → Type 0) (names : Option (List ℕ × List ℕ)) (held back : Option (Ends S K C)) (p0 p1 p2 p3 p4 p5 : ControlKey → Place (Ends S K C))
    → p1 ≡ p0 → IsLiveControlOpened IsFresh names p1 p2 held → is_some back ≡ is_some held → p3 ≡ p2 → IfSome back (λ ends. IsControlKept p3 p4 ends) → IfNone back (p4 ≡ p3) → p5 ≡ p4 → HandledLive names held back p0 p5
live_control IsFresh None None None p0 p1 p2 p3 p4 p5 same01 opened same same23 kept none same45 = same45 ∙ none ∙ same23 ∙ opened ∙ same01
live_control IsFresh None None (Some back) p0 p1 p2 p3 p4 p5 same01 opened same same23 kept none same45 = let t : true ≡ false = same in cc
live_control IsFresh None (Some held) back p0 p1 p2 p3 p4 p5 same01 opened same same23 kept none same45 = absurd opened
live_control IsFresh (Some names) None back p0 p1 p2 p3 p4 p5 same01 opened same same23 kept none same45 = absurd opened
live_control IsFresh (Some names) (Some held) None p0 p1 p2 p3 p4 p5 same01 opened same same23 kept none same45 = let t : false ≡ true = same in cc
live_control {S} {K} {C} IsFresh (Some names) (Some held) (Some back) p0 p1 p2 p3 p4 p5 same01 opened same same23 kept none same45 = record {
  told = subst (λ (p : ControlKey → Place (Ends S K C)). IfSome (p (control_key true names)).stands (λ t. held ≡ t)) same01 opened.told;
  kept = ap (λ (p : ControlKey → Place (Ends S K C)). (p (control_key true names)).stands) same45
      ∙ kept (control_key true names) (ap (λ (p : ControlKey → Place (Ends S K C)). (p (control_key true names)).is_out) same23 ∙ opened.out);
}

-- a port is among the first of these, or it is none of them

off_or_here : (numbers : List ℕ) (count n k : ℕ) → IsOffFirst numbers count n → slice_index numbers count ≢ n → k < suc count → slice_index numbers k ≡ n → (k ≡ count) ⊎ (k ≢ count) → ⊥
off_or_here numbers count n k off other inside same (inl here) = other (ap (slice_index numbers) (sym here) ∙ same)
off_or_here numbers count n k off other inside same (inr apart) = off k (omega (arith, inside, apart)) same

among_next : (numbers : List ℕ) (count n : ℕ) → IsOffFirst numbers count n ⊎ ((k : ℕ) × (k < count) × (slice_index numbers k ≡ n)) → (slice_index numbers count ≡ n) ⊎ (slice_index numbers count ≢ n)
    → IsOffFirst numbers (suc count) n ⊎ ((k : ℕ) × (k < suc count) × (slice_index numbers k ≡ n))
among_next numbers count n (inr (k, inside, found)) here = inr (k, omega (arith, inside), found)
among_next numbers count n (inl off) (inl here) = inr (count, omega arith, here)
among_next numbers count n (inl off) (inr other) = inl (λ k inside same. off_or_here numbers count n k off other inside same (cases_eq k count))

among_first : (numbers : List ℕ) (count n : ℕ) → IsOffFirst numbers count n ⊎ ((k : ℕ) × (k < count) × (slice_index numbers k ≡ n))
among_first numbers zero n = inl (λ k inside. absurd (omega arith))
among_first numbers (suc count) n = among_next numbers count n (among_first numbers count n) (cases_eq (slice_index numbers count) n)

-- the ends that came back as they were are back

port_back : {S K C : Type 0} (numbers : List ℕ) (held : List (Ends S K C)) (old new : ℕ → Place (Ends S K C)) (n : ℕ) → HandledPorts numbers held held old new → IsOffFirst numbers (length held) n ⊎ ((k : ℕ) × (k < length held) × (slice_index numbers k ≡ n)) → IsBack (old n) (new n)
port_back {S} {K} {C} numbers held old new n handled (inl off) = subst (λ (x : Place (Ends S K C)). IsBack (old n) x) (sym (handled.others n off)) (back_from (old n).stands)
port_back {S} {K} {C} numbers held old new n handled (inr (k, inside, found)) =
    let d = element held k inside in
    subst (λ (m : ℕ). IsBack (old m) (new m)) found
    (both_told (λ told kept. kept ≡ told) (old (slice_index numbers k)).stands (new (slice_index numbers k)).stands (get_or held k d) (get_or held k d) (handled.told k d inside) (handled.kept k d inside) refl)

pub live_ports_back : {S K C : Type 0} (numbers : List ℕ) (held : List (Ends S K C)) (old new : ℕ → Place (Ends S K C)) → HandledPorts numbers held held old new → (n : ℕ) → IsBack (old n) (new n)
live_ports_back numbers held old new handled n = port_back numbers held old new n handled (among_first numbers (length held) n)

pub live_control_back : {S K C : Type 0} (names : Option (List ℕ × List ℕ)) (held : Option (Ends S K C)) (old new : ControlKey → Place (Ends S K C)) → HandledLive names held held old new → IsControlBack true names old new
live_control_back None None old new handled = handled
live_control_back None (Some held) old new handled = absurd handled
live_control_back (Some names) None old new handled = absurd handled
live_control_back (Some names) (Some held) old new handled =
    both_told (λ told kept. kept ≡ told) (old (control_key true names)).stands (new (control_key true names)).stands held held handled.told handled.kept refl

control_off : {S K C : Type 0} (names : Option (List ℕ × List ℕ)) (held back : Option (Ends S K C)) (old new : ControlKey → Place (Ends S K C)) → HandledLive names held back old new → names ≡ None → new ≡ old
control_off None None None old new handled none = handled
control_off None None (Some back) old new handled none = absurd handled
control_off None (Some held) back old new handled none = absurd handled
control_off (Some names) held back old new handled none = cc

control_kept : {S K C : Type 0} (names : Option (List ℕ × List ℕ)) (held back : Option (Ends S K C)) (old new : ControlKey → Place (Ends S K C)) → HandledLive names held back old new → IfSome names (λ n. IsSome (new (control_key true n)).stands)
control_kept None held back old new handled = tt
control_kept (Some names) None back old new handled = absurd handled
control_kept (Some names) (Some held) None old new handled = absurd handled
control_kept (Some names) (Some held) (Some back) old new handled = is_some_of (new (control_key true names)).stands back handled.kept

keeps_control : {S K C : Type 0} (left : S → Option (List ℕ)) (written : K → Option (List ℕ)) (names : Option (List ℕ × List ℕ)) (held : Option (Ends S K C)) (old new : ControlKey → Place (Ends S K C)) → HandledLive names held held old new → KeepsControl (IsUsed left written) true names old new
keeps_control left written None None old new handled = handled
keeps_control left written None (Some held) old new handled = absurd handled
keeps_control left written (Some names) None old new handled = absurd handled
keeps_control left written (Some names) (Some held) old new handled =
    keeps_of (IsUsed left written) (old (control_key true names)) (new (control_key true names)) held held handled.told handled.kept (unused_ends left written held)

-- the ends of a session for which there was no memory are kept as they were
live_keeps_all : {S K C : Type 0} (left : S → Option (List ℕ)) (written : K → Option (List ℕ)) (plan : Plan) (ready : Ready S K C) (sink : K) (old new : Book S K C) → HandledPlan plan ready ready sink sink old new → KeepsAll true left written plan old new
live_keeps_all {S} {K} {C} left written plan ready sink old new all = record {
  ports = λ k d inside.
      let held = ready.ports.items in
      let planned = all.planned in
      let sizes = numbers_len plan in
      let within : k < length held = omega (arith, sizes, planned, inside) in
      let e = element held k within in
      subst (λ (n : ℕ). Keeps (IsUsed left written) (ports_in plan old n) (ports_in plan new n)) (sym (get_or_default (numbers_of plan.ports) k d 0 inside))
      (keeps_of (IsUsed left written) _ _ (get_or held k e) (get_or held k e) (all.ports.told k e within) (all.ports.kept k e within) (unused_ends left written (get_or held k e)));
  control = keeps_control left written plan.control ready.control old.control new.control all.control;
  journal = keeps_of (λ told kept. TookMore (written told) (written kept)) _ _ sink sink all.journal.told all.journal.kept (unused_sink written sink);
}

-- the ports off the plan are none of those that were opened
ports_off : {S K C : Type 0} (plan : Plan) (count : ℕ) (old new : PortKey → Place (Ends S K C)) → count < suc (length plan.ports) → OthersSame (numbers_of plan.ports) count old new → (key : PortKey) → All (λ m. m ≢ key.number) (numbers_of plan.ports) → new key ≡ old key
ports_off plan count old new few others key away = others key (λ k inside same. away k 0 (omega (arith, numbers_len plan, few, inside)) same)

live_off_plan : {S K C : Type 0} (plan : Plan) (held back : Ready S K C) (sink sink' : K) (old new : Book S K C) → HandledPlan plan held back sink sink' old new → IsOffPlanSame plan old new
live_off_plan {S} {K} {C} plan held back sink sink' old new all = record {
  ports = ports_off plan (length held.ports.items) old.ports new.ports (let planned = all.planned in omega (arith, planned)) all.others;
  control = λ none. control_off plan.control held.control back.control old.control new.control all.control none;
  outputs = all.journal.others;
}

-- where the ends of control that are held were served, those in their place were
serves_control : {S K C : Type 0} (left : S → Option (List ℕ)) (written : K → Option (List ℕ)) (source_faults : S → ℕ) (sink_faults : K → ℕ) (readings : C → Option (List ℕ)) (plan : Plan) (segments : List (List Row)) (names : Option (List ℕ × List ℕ)) (held back : Option (Ends S K C)) (old new : ControlKey → Place (Ends S K C))
    → HandledLive names held back old new → ControlOf left written source_faults sink_faults readings plan segments held back
    → ServesControlAt left written source_faults sink_faults readings plan segments names old new
serves_control left written source_faults sink_faults readings plan segments None None None old new handled served = (served, handled)
serves_control left written source_faults sink_faults readings plan segments None None (Some back) old new handled served = absurd handled
serves_control left written source_faults sink_faults readings plan segments None (Some held) back old new handled served = absurd handled
serves_control left written source_faults sink_faults readings plan segments (Some names) None back old new handled served = absurd handled
serves_control left written source_faults sink_faults readings plan segments (Some names) (Some held) None old new handled served = absurd handled
serves_control left written source_faults sink_faults readings plan segments (Some names) (Some held) (Some back) old new handled served =
    keeps_of (ControlRow left written source_faults sink_faults readings plan segments) (old (control_key true names)) (new (control_key true names)) held back handled.told handled.kept served

-- what a session was to the ends is what it was to the places
serve_of : {S K C : Type 0} (left : S → Option (List ℕ)) (written : K → Option (List ℕ)) (source_faults : S → ℕ) (sink_faults : K → ℕ) (readings : C → Option (List ℕ)) (plan : Plan) (Says : List ℕ → Type 0) (held back : Ready S K C) (segments : List (List Row)) (journal_written : Bool) (old new : Book S K C) (status : ℕ)
    → Laws → HandledPlan plan held back held.journal back.journal old new → IsLivePlayed left written source_faults sink_faults readings plan segments held back journal_written
    → IsSummed written sink_faults Says (joined segments) (unbroken segments) journal_written (old.std Out) (new.std Out) status
    → IsServeOf left written source_faults sink_faults readings plan Says old new status
serve_of {S} {K} {C} left written source_faults sink_faults readings plan Says held back segments journal_written old new status laws all served summed = record {
  segments = segments;
  session = served.live.session;
  ports = λ k d inside.
      let planned = all.planned in
      let within : k < length held.ports.items = omega (arith, planned, inside) in
      let e = element held.ports.items k within in
      let p = get_or plan.ports k d in
      let Row : Ends S K C → Ends S K C → Type 0 = PortRow left written source_faults sink_faults readings plan segments p in
      subst (λ (n : ℕ). Keeps Row (ports_in plan old n) (ports_in plan new n)) (number_of_place plan k d inside)
      (keeps_of Row _ _ (get_or held.ports.items k e) (get_or back.ports.items k e) (all.ports.told k e within) (all.ports.kept k e within) (served.live.ports k d e inside));
  control = serves_control left written source_faults sink_faults readings plan segments plan.control held.control back.control old.control new.control all.control served.live.control;
  ticker = keeps_of (TickerRow readings plan segments) old.ticker new.ticker held.ticker back.ticker all.ticker.told all.ticker.kept served.live.ticker;
  reported = reported_of written sink_faults plan Says held.journal back.journal segments (unbroken segments) journal_written old new status laws all.journal served.journal_was served.tells summed;
  elsewhere = live_off_plan plan held back held.journal back.journal old new all;
}

-- all ports of a plan are kept
ports_kept : {S K C : Type 0} (plan : Plan) (held back : List (Ends S K C)) (old new : ℕ → Place (Ends S K C)) → length held ≡ length plan.ports → HandledPorts (numbers_of plan.ports) held back old new → All (λ n. IsSome (new n).stands) (numbers_of plan.ports)
ports_kept plan held back old new planned handled = λ k d inside.
    let within : k < length held = omega (arith, numbers_len plan, planned, inside) in
    let e = element held k within in
    subst (λ (n : ℕ). IsSome (new n).stands) (sym (get_or_default (numbers_of plan.ports) k d 0 inside)) (is_some_of _ _ (handled.kept k e within))

-- an opening of a port failed, and what was open is kept
pub live_port_unopened : {S K C : Type 0} (plan : Plan) (Says : List ℕ → Type 0) (held : List (Ends S K C)) (port : ℕ) (old new : Book S K C) → IsStrictlyIncreasing (numbers_of plan.ports) → IsNextOf (numbers_of plan.ports) (length held) port
    → HandledPorts (numbers_of plan.ports) held held (ports_in plan old) (ports_in plan new) → OthersSame (numbers_of plan.ports) (length held) old.ports new.ports → new.control ≡ old.control → new.outputs ≡ old.outputs → Says (cannot_open_line (port_name port)) → IsPortUnopened plan Says old new
live_port_unopened {S} {K} {C} plan Says held port old new rising (inside, here) handled others control outputs told =
    let numbers = numbers_of plan.ports in
    let count = length held in
    let before = take count numbers in
    let later = drop (suc count) numbers in
    let size : length before ≡ count = length-take-le count numbers (omega (arith, inside)) in
    let whole : numbers ≡ before ++ port ∷ later = sym (take-append-drop count numbers) ∙ ap (λ (l : List ℕ). before ++ l) (drop-cons numbers count 0 inside ∙ ap (λ (n : ℕ). n ∷ later) here) in
    let sizes = ap length whole ∙ length-append before (port ∷ later) in
    record {
      before = before;
      port = port;
      later = later;
      all = whole;
      kept = λ k d below.
          let within : k < count = omega (arith, size, below) in
          let e = element held k within in
          subst (λ (n : ℕ). IsSome (ports_in plan new n).stands) (sym (get_or-take count numbers k d within ∙ get_or_default numbers k d 0 (omega (arith, within, inside)))) (is_some_of _ _ (handled.kept k e within));
      same = λ j d below key is. others key (λ k within equal.
          let there = ap (λ (l : List ℕ). get_or l (length before + j) d) whole ∙ get_or-append-add before (port ∷ later) j d in
          let apart = AllPairs-from_increasing numbers rising k (length before + j) d (omega (arith, size, within)) (omega (arith, sizes, below)) in
          let first = get_or_default numbers k d 0 (omega (arith, within, inside)) in
          omega (arith, first, there, apart, equal, is));
      control = control;
      outputs = outputs;
      elsewhere = record {
        ports = ports_off plan (length held) old.ports new.ports (omega (arith, numbers_len plan, inside)) others;
        control = λ none. control;
        outputs = λ other apart. ap (λ (o : List ℕ → Place K). o other) outputs;
      };
      errors = told;
    }

-- the opening of control failed, and all ports are kept
pub live_control_unopened : {S K C : Type 0} (plan : Plan) (Says : List ℕ → Type 0) (held : List (Ends S K C)) (old new : Book S K C) → IsSome plan.control → length held ≡ length plan.ports
    → HandledPorts (numbers_of plan.ports) held held (ports_in plan old) (ports_in plan new) → OthersSame (numbers_of plan.ports) (length held) old.ports new.ports → new.control ≡ old.control → new.outputs ≡ old.outputs → Says (cannot_open_line control_word) → IsControlUnopened plan Says old new
live_control_unopened {S} {K} {C} plan Says held old new named planned handled others control outputs told = record {
  named = named;
  kept = ports_kept plan held held (ports_in plan old) (ports_in plan new) planned handled;
  control = control;
  outputs = outputs;
  elsewhere = record {
    ports = ports_off plan (length held) old.ports new.ports (omega (arith, planned)) others;
    control = λ none. control;
    outputs = λ other apart. ap (λ (o : List ℕ → Place K). o other) outputs;
  };
  errors = told;
}

-- the opening of the journal failed, and all ports and control are kept
pub live_journal_unopened : {S K C : Type 0} (plan : Plan) (Says : List ℕ → Type 0) (held : List (Ends S K C)) (control : Option (Ends S K C)) (old new : Book S K C) → length held ≡ length plan.ports
    → HandledPorts (numbers_of plan.ports) held held (ports_in plan old) (ports_in plan new) → OthersSame (numbers_of plan.ports) (length held) old.ports new.ports → HandledLive plan.control control control old.control new.control → ((name : List ℕ) → new.outputs name ≡ old.outputs name) → Says (cannot_open_line journal_word) → IsJournalUnopened true plan Says old new
live_journal_unopened plan Says held control old new planned handled others handled_control outputs told = record {
  kept = ports_kept plan held held (ports_in plan old) (ports_in plan new) planned handled;
  control = control_kept plan.control control control old.control new.control handled_control;
  outputs = outputs;
  elsewhere = record {
    ports = ports_off plan (length held) old.ports new.ports (omega (arith, planned)) others;
    control = λ none. control_off plan.control control control old.control new.control handled_control none;
    outputs = λ other apart. outputs other;
  };
  errors = told;
}

-- the ports that were opened came back as they were, and so did control, and neither the ticker nor an output was touched
pub live_unused : {S K C : Type 0} (plan : Plan) (held : List (Ends S K C)) (old new : Book S K C) → length held < suc (length plan.ports) → HandledPorts (numbers_of plan.ports) held held (ports_in plan old) (ports_in plan new) → OthersSame (numbers_of plan.ports) (length held) old.ports new.ports
    → IsControlBack true plan.control old.control new.control → new.ticker ≡ old.ticker → ((name : List ℕ) → new.outputs name ≡ old.outputs name) → IsUnusedOf true plan old new
live_unused {S} {K} {C} plan held old new few handled others control ticker same = record {
  ports = live_ports_back (numbers_of plan.ports) held (ports_in plan old) (ports_in plan new) handled;
  others = ports_off plan (length held) old.ports new.ports few others;
  control = control;
  ticker = untouched_back old.ticker new.ticker ticker;
  outputs = λ name. untouched_back (old.outputs name) (new.outputs name) (same name);
}

unused_plan : {S K C : Type 0} (plan : Plan) (held : Ready S K C) (sink : K) (old new : Book S K C) → HandledPlan plan held held sink sink old new → IsUnusedOf true plan old new
unused_plan plan held sink old new all = record {
  ports = live_ports_back (numbers_of plan.ports) held.ports.items (ports_in plan old) (ports_in plan new) all.ports;
  others = ports_off plan (length held.ports.items) old.ports new.ports (let planned = all.planned in omega (arith, planned)) all.others;
  control = live_control_back plan.control held.control old.control new.control all.control;
  ticker = both_told (λ told kept. kept ≡ told) old.ticker.stands new.ticker.stands held.ticker held.ticker all.ticker.told all.ticker.kept refl;
  outputs = output_back plan.journal sink old.outputs new.outputs all.journal;
}

live_closes_none : {S K C : Type 0} (left : S → Option (List ℕ)) (written : K → Option (List ℕ)) (plan : Plan) (Says : List ℕ → Type 0) (Session : Type 0) (held back : Ready S K C) (sink sink' : K) (old new : Book S K C) (status : ℕ)
    → HandledPlan plan held back sink sink' old new → back ≡ held → sink' ≡ sink → status ≡ 1 → Says memory_line → new.std Out ≡ old.std Out
    → Closes true left written plan Says Session old new status
live_closes_none {S} {K} {C} left written plan Says Session held back sink sink' old new status all same same' one told quiet =
    let unread : HandledPlan plan held held sink sink old new =
    subst (λ (k : K). HandledPlan plan held held sink k old new) same' (subst (λ (r : Ready S K C). HandledPlan plan held r sink sink' old new) same all) in
    closes_unplayed true left written plan Says Session old new status one told quiet (live_keeps_all left written plan held sink old new unread) (live_off_plan plan held held sink sink old new unread) (unused_plan plan held sink old new unread)

-- by whether there was an outcome
pub live_closes : {S K C : Type 0} (left : S → Option (List ℕ)) (written : K → Option (List ℕ)) (source_faults : S → ℕ) (sink_faults : K → ℕ) (readings : C → Option (List ℕ)) (plan : Plan) (Says : List ℕ → Type 0) (held back : Ready S K C) (outcome : Option Outcome) (old mid new : Book S K C) (status : ℕ)
    → Laws → HandledPlan plan held back held.journal back.journal old new → mid.std ≡ old.std
    → IfNone outcome (back ≡ held) → IfSome outcome (λ o. (segments : List (List Row)) × IsOutcomeOf segments o × IsLivePlayed left written source_faults sink_faults readings plan segments held back o.journal_written)
    → IfNone outcome ((status ≡ 1) × (Says memory_line × (new ≡ mid))) → IfSome outcome (λ o. (segments : List (List Row)) → IsOutcomeOf segments o → IsSummed written sink_faults Says (joined segments) (unbroken segments) o.journal_written (mid.std Out) (new.std Out) status)
    → Closes true left written plan Says (IsServeOf left written source_faults sink_faults readings plan Says old new status) old new status
live_closes {S} {K} {C} left written source_faults sink_faults readings plan Says held back None old mid new status laws all same none served unserved concluded =
    live_closes_none left written plan Says _ held back held.journal back.journal old new status all none (ap (λ (r : Ready S K C). r.journal) none) unserved.0 unserved.1.0
    (ap (λ (b : Book S K C). b.std Out) unserved.1.1 ∙ ap (λ (p : _ → Place K). p Out) same)
live_closes {S} {K} {C} left written source_faults sink_faults readings plan Says held back (Some o) old mid new status laws all same none served unserved concluded =
    let segments = served.0 in
    let summed = subst (λ (p : Place K). IsSummed written sink_faults Says (joined segments) (unbroken segments) o.journal_written p (new.std Out) status) (ap (λ (p : _ → Place K). p Out) same) (concluded segments served.1) in
    closes_played true left written sink_faults plan Says _ (joined segments) (unbroken segments) o.journal_written old new status summed
    (serve_of left written source_faults sink_faults readings plan Says held back segments o.journal_written old new status laws all served.2 summed)

-- the place of the ticker's clock before its opening, behind that, and behind the keeping of the clock
pub clock_by : {C : Type 0} (clock clock' : C) (p0 p1 p2 p3 : Place C) → p1 ≡ p0 → IfSome p1.stands (λ t. clock ≡ t) → p2.stands ≡ Some clock' → p3 ≡ p2 → HandledClock clock clock' p0 p3
clock_by {C} clock clock' p0 p1 p2 p3 same01 told kept same23 = record {
  told = subst (λ (p : Place C). IfSome p.stands (λ t. clock ≡ t)) same01 told;
  kept = ap (λ (p : Place C). p.stands) same23 ∙ kept;
}
