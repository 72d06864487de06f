-- From the ends that were opened and the ends that were kept to what stands when a run is over.
use Rattle.std.proofs.Common.{◌≡◌, ◌≢◌, ℕ, ◌+◌, ◌<◌, length-append, ◌⊎◌, inl, inr, suc, List, [], ◌∷◌, ◌++◌, Bool, true, false, length, map, get_or, refl, sym, ap, ◌∙◌, subst, arith, Option, Some, None, IfSome, IsSome, IsSomeAnd, append-nil}
use Rattle.std.proofs.lemmas.List.{get_or-map, get_or_default, get_or-append-add, get_or_append_left, length-map, map-append}
use Rattle.std.proofs.lemmas.List.Kept.{AllPairs-from_increasing}
use Rattle.std.specs.List.Sorted.{IsStrictlyIncreasing}
use Rattle.std.proofs.lemmas.Bool.{cases_eq, cases_Bool}
use Rattle.std.proofs.lemmas.List.Elements.{All-append, All-cons, All-nil}
use Rattle.std.proofs.lemmas.Slice.Eq.{bytes_eq-Decides}
use Rattle.std.specs.Str.{bytes_eq}
use Rattle.pcap_io.specs.Kinds.{classic_kinds}
use Rattle.pcap_io.specs.Readers.{State, Fresh, Comes}
use Rattle.pcap_io.specs.Runs.{Arrive}
use Rattle.std.specs.Prelude.{All, slice_index}
use Rattle.savi_kinds.specs.declared.plan.Plan.{Plan}
use Rattle.savi_kinds.specs.declared.plan.PortPlan.{PortPlan}
use Rattle.savi_kinds.specs.declared.port.Port.{Port}
use Rattle.savi_kinds.specs.Ports.{number_of}
use Rattle.savi_kinds.specs.ValidPlan.{IsValidPlan, numbers_of}
use Rattle.savi_ends.specs.declared.world.Std.TheVariants.{Out}
use Rattle.savi_ends.specs.declared.world.Ends.{Ends}
use Rattle.savi_ends.specs.Octets.{behind, in_front}
use Rattle.savi_ends.specs.Places.{Place, Book, PortKey, ControlKey, OthersStay}
use Rattle.ra_guard.specs.Refused.{IsAdvertFrame, IsHiddenFrame}
use Rattle.cli_lang.specs.Arrivals as lines_of
use Rattle.hist_store.specs.Rows.{Row}
use Rattle.hist_store.specs.JournalTexts.{address_text}
use Rattle.savi_history.specs.Adverts.{IsGuarded, NotPassed}
use Rattle.savi_history.proofs.Guarded.{guarded}
use Rattle.savi_segments.specs.FirstCome.{AllSegmentsPassedRightly, SegmentsKeepWhoCameFirst}
use Rattle.savi_segments.specs.Journals.{IsJournalOf, IsJournalOfOne, journal_of}
use Rattle.savi_segments.specs.Segments.{AreLegal, base_after, joined}
use Rattle.savi_segments.specs.Unbroken.{unbroken}
use Rattle.port_worker.specs.declared.control_ends.ControlEnds.{ControlEnds}
use Rattle.port_worker.specs.declared.port_ends.PortEnds.{PortEnds}
use Rattle.port_worker.specs.Replays.{ports_held}
use Rattle.port_worker.specs.SentFrames.{TookMore}
use Rattle.port_worker.specs.ControlServed.{IsControlServed, ServesControl}
use Rattle.port_worker.specs.Used.{IsUsed}
use Rattle.port_worker.specs.Served.{IsServed, ServesPorts, ServesEnds}
use Rattle.switch_ports.specs.Named.{control_key}
use Rattle.switch_ports.specs.Openings.{ports_of, IsNextBehind, IsOff, IsReadAnew}
use Rattle.switch_report.specs.RunLines.{cannot_open_line, control_word, journal_word, port_name}
use Rattle.switch_run.specs.Causes.{IsBack, IsControlBack, Keeps, KeepsAll, KeepsControl, IsOffPlanSame, TookOrPart, ports_in}
use Rattle.switch_run.specs.Session.{IsControlUnopened, IsJournalUnopened, IsPortUnopened, IsReported, IsSessionOf, IsSummed, ServesControlPlace}
use Rattle.switch_run.specs.Played.{IsPlayed}

-- The ends that were told of some ports were opened and are kept by now, each at its own place; those of other ports stay.
pub record Handled {S K C : Type 0} (held back : List (PortEnds S K C)) (old new : ℕ → Place (Ends S K C)) : Type 0 where
  pub size : length back ≡ length held
  pub same : (k : ℕ) (d : PortEnds S K C) → k < length held → number_of (get_or back k d).port ≡ number_of (get_or held k d).port
  pub told : All (λ p. IfSome (old (number_of p.port)).stands (λ t. p.ends ≡ t)) held
  pub kept : All (λ p. (new (number_of p.port)).stands ≡ Some p.ends) back
  pub others : (n : ℕ) → IsOff held n → new n ≡ old n

-- The same of the ends of control.
pub record HandledEnds {S K C : Type 0} (ends ends' : Ends S K C) (old new : Place (Ends S K C)) : Type 0 where
  pub told : IfSome old.stands (λ t. ends ≡ t)
  pub kept : new.stands ≡ Some ends'

-- The same where the plan has names for them; else there are none, and their places stay.
abbrev pub HandledControl : {S K C : Type 0} → Option (List ℕ × List ℕ) → Option (ControlEnds S K C) → Option (ControlEnds S K C) → (ControlKey → Place (Ends S K C)) → (ControlKey → Place (Ends S K C)) → Type 0
HandledControl None None None old new = new ≡ old
HandledControl None None (Some back) old new = ⊥
HandledControl None (Some held) back old new = ⊥
HandledControl (Some names) None back old new = ⊥
HandledControl (Some names) (Some held) None old new = ⊥
HandledControl (Some names) (Some held) (Some back) old new = HandledEnds held.ends back.ends (old (control_key false names)) (new (control_key false names))

-- The same of the journal.
pub record HandledOne {K : Type 0} (name : List ℕ) (sink sink' : K) (old new : List ℕ → Place K) : Type 0 where
  pub told : IfSome (old name).stands (λ t. sink ≡ t)
  pub kept : (new name).stands ≡ Some sink'
  pub others : OthersStay old new name

-- The same of all ends of a plan.
pub record HandledAll {S K C : Type 0} (plan : Plan) (control control' : Option (ControlEnds S K C)) (held back : List (PortEnds S K C)) (sink sink' : K) (old new : Book S K C) : Type 0 where
  pub planned : ports_held held ≡ ports_of plan.ports
  pub ports : Handled held back (ports_in plan old) (ports_in plan new)
  pub others : (key : PortKey) → IsOff held key.number → new.ports key ≡ old.ports key
  pub ends : HandledControl plan.control control control' old.control new.control
  pub journal : HandledOne plan.journal sink sink' old.outputs new.outputs

pub element : {X : Type 0} (xs : List X) (k : ℕ) → k < length xs → X
element [] k inside = absurd (omega arith)
element (x ∷ xs) k inside = x

-- what was told and is kept
pub both_told : {X : Type 0} (P : X → X → Type 0) (old new : Option X) (x x' : X) → IfSome old (λ t. x ≡ t) → new ≡ Some x' → P x x' → IfSome old (λ told. IsSomeAnd new (λ kept. P told kept))
both_told P None new x x' told kept holds = tt
both_told {X} P (Some t) new x x' told kept holds = rw kept (subst (λ (y : X). P y x') told holds)

-- what was told, and is kept
pub keeps_of : {X : Type 0} (P : X → X → Type 0) (old new : Place X) (x x' : X) → IfSome old.stands (λ t. x ≡ t) → new.stands ≡ Some x' → P x x' → Keeps P old new
keeps_of P old new x x' told kept holds = record { handed = x; back = x'; told = told; kept = kept; holds = holds }

pub is_some_of : {X : Type 0} (o : Option X) (x : X) → o ≡ Some x → IsSome o
is_some_of o x e = rw e refl

pub back_from : {X : Type 0} (o : Option X) → IfSome o (λ told. IsSomeAnd o (λ kept. kept ≡ told))
back_from None = tt
back_from (Some x) = refl

-- the numbers of what is held are those of the plan
pub number_at : {S K C : Type 0} (held : List (PortEnds S K C)) (plans : List PortPlan) (k : ℕ) (d : PortEnds S K C) → ports_held held ≡ ports_of plans → k < length held → slice_index (numbers_of plans) k ≡ number_of (get_or held k d).port
number_at {S} {K} {C} held plans k d ports inside =
    let first = length-map held (λ (p : PortEnds S K C). p.port) in
    let second = length-map plans (λ (p : PortPlan). p.number) in
    let sizes = ap length ports in
    let e = element plans k (omega (arith, first, second, sizes, inside)) in
    get_or-map (λ (p : PortPlan). number_of p.number) plans k e 0 (omega (arith, first, second, sizes, inside))
    ∙ ap number_of (sym (get_or-map (λ (p : PortPlan). p.number) plans k e d.port (omega (arith, first, second, sizes, inside)))
    ∙ ap (λ (l : List Port). get_or l k d.port) (sym ports)
    ∙ get_or-map (λ (p : PortEnds S K C). p.port) held k d d.port inside)

pub size_of : {S K C : Type 0} (held : List (PortEnds S K C)) (plans : List PortPlan) → ports_held held ≡ ports_of plans → length held ≡ length plans
size_of {S} {K} {C} held plans ports = sym (length-map held (λ (p : PortEnds S K C). p.port)) ∙ ap length ports ∙ length-map plans (λ (p : PortPlan). p.number)

-- a port is held, or it is none of those
off_step : {S K C : Type 0} (p : PortEnds S K C) (ps : List (PortEnds S K C)) (n : ℕ) → (number_of p.port ≡ n) ⊎ (number_of p.port ≢ n) → IsOff ps n ⊎ ((k : ℕ) × (k < length ps) × ((d : PortEnds S K C) → number_of (get_or ps k d).port ≡ n))
    → IsOff (p ∷ ps) n ⊎ ((k : ℕ) × (k < length (p ∷ ps)) × ((d : PortEnds S K C) → number_of (get_or (p ∷ ps) k d).port ≡ n))
off_step p ps n (inl same) rest = inr (0, omega arith, λ d. same)
off_step {S} {K} {C} p ps n (inr other) (inl off) = inl (All-cons (λ (q : PortEnds S K C). number_of q.port ≢ n) p ps other off)
off_step p ps n (inr other) (inr (k, inside, found)) = inr (suc k, omega (arith, inside), λ d. found d)

pub off_or_in : {S K C : Type 0} (held : List (PortEnds S K C)) (n : ℕ) → IsOff held n ⊎ ((k : ℕ) × (k < length held) × ((d : PortEnds S K C) → number_of (get_or held k d).port ≡ n))
off_or_in [] n = inl (λ k d inside. absurd (omega arith))
off_or_in (p ∷ ps) n = off_step p ps n (cases_eq (number_of p.port) n) (off_or_in ps n)

kept_at : {S K C : Type 0} (held back : List (PortEnds S K C)) (old new : ℕ → Place (Ends S K C)) (k : ℕ) (d : PortEnds S K C) → Handled held back old new → k < length held → (new (number_of (get_or held k d).port)).stands ≡ Some (get_or back k d).ends
kept_at {S} {K} {C} held back old new k d handled inside =
    subst (λ (n : ℕ). (new n).stands ≡ Some (get_or back k d).ends) (handled.same k d inside) (handled.kept k d (omega (arith, handled.size, inside)))

-- a relation of what was held and what is kept, at the port's place
at_port : {S K C : Type 0} (P : ℕ → Ends S K C → Ends S K C → Type 0) (held back : List (PortEnds S K C)) (old new : ℕ → Place (Ends S K C)) (k : ℕ) (d : PortEnds S K C) → Handled held back old new → k < length held
    → P (number_of (get_or held k d).port) (get_or held k d).ends (get_or back k d).ends
    → IfSome (old (number_of (get_or held k d).port)).stands (λ told. IsSomeAnd (new (number_of (get_or held k d).port)).stands (λ kept. P (number_of (get_or held k d).port) told kept))
at_port {S} {K} {C} P held back old new k d handled inside holds =
    both_told (P (number_of (get_or held k d).port)) _ _ (get_or held k d).ends (get_or back k d).ends (handled.told k d inside) (kept_at held back old new k d handled inside) holds

-- the same, of a place that is kept
pub keeps_at : {S K C : Type 0} (P : Ends S K C → Ends S K C → Type 0) (held back : List (PortEnds S K C)) (old new : ℕ → Place (Ends S K C)) (k : ℕ) (d : PortEnds S K C) → Handled held back old new → k < length held
    → P (get_or held k d).ends (get_or back k d).ends → Keeps P (old (number_of (get_or held k d).port)) (new (number_of (get_or held k d).port))
keeps_at P held back old new k d handled inside holds = keeps_of P _ _ (get_or held k d).ends (get_or back k d).ends (handled.told k d inside) (kept_at held back old new k d handled inside) holds

port_back : {S K C : Type 0} (held : List (PortEnds S K C)) (old new : ℕ → Place (Ends S K C)) (n : ℕ) → Handled held held old new → IsOff held n ⊎ ((k : ℕ) × (k < length held) × ((d : PortEnds S K C) → number_of (get_or held k d).port ≡ n)) → IsBack (old n) (new n)
port_back {S} {K} {C} held old new n handled (inl off) = subst (λ (x : Place (Ends S K C)). IsBack (old n) x) (sym (handled.others n off)) (back_from (old n).stands)
port_back {S} {K} {C} held old new n handled (inr (k, inside, found)) =
    let d = element held k inside in
    subst (λ (m : ℕ). IsBack (old m) (new m)) (found d) (at_port (λ m told kept. kept ≡ told) held held old new k d handled inside refl)

-- the ends that came back as they were are back
pub ports_back : {S K C : Type 0} (held : List (PortEnds S K C)) (old new : ℕ → Place (Ends S K C)) → Handled held held old new → (n : ℕ) → IsBack (old n) (new n)
ports_back held old new handled n = port_back held old new n handled (off_or_in held n)

pub control_back : {S K C : Type 0} (names : Option (List ℕ × List ℕ)) (held : Option (ControlEnds S K C)) (old new : ControlKey → Place (Ends S K C)) → HandledControl names held held old new → IsControlBack false names old new
control_back None None old new handled = handled
control_back None (Some held) old new handled = absurd handled
control_back (Some names) None old new handled = absurd handled
control_back (Some names) (Some held) old new handled =
    both_told (λ told kept. kept ≡ told) (old (control_key false names)).stands (new (control_key false names)).stands held.ends held.ends handled.told handled.kept refl

-- control whose place the plan doesn't name stays
control_off : {S K C : Type 0} (names : Option (List ℕ × List ℕ)) (held back : Option (ControlEnds S K C)) (old new : ControlKey → Place (Ends S K C)) → HandledControl names held back old new → names ≡ None → new ≡ old
control_off None None None old new handled none = handled
control_off None None (Some back) old new handled none = absurd handled
control_off None (Some held) back old new handled none = absurd handled
control_off (Some names) held back old new handled none = cc

-- and else ends are kept there
control_kept : {S K C : Type 0} (names : Option (List ℕ × List ℕ)) (held back : Option (ControlEnds S K C)) (old new : ControlKey → Place (Ends S K C)) → HandledControl names held back old new → IfSome names (λ n. IsSome (new (control_key false n)).stands)
control_kept None held back old new handled = tt
control_kept (Some names) None back old new handled = absurd handled
control_kept (Some names) (Some held) None old new handled = absurd handled
control_kept (Some names) (Some held) (Some back) old new handled = is_some_of (new (control_key false names)).stands back.ends handled.kept

cases_by : (a b : List ℕ) → (bytes_eq a b ≡ true) ⊎ (bytes_eq a b ≡ false) → (a ≡ b) ⊎ (a ≢ b)
cases_by a b (inl same) = inl ((bytes_eq-Decides a b).0 same)
cases_by a b (inr other) = inr (λ e. let t : bytes_eq a b ≡ true = (bytes_eq-Decides a b).1 e in cc)

pub cases_name : (a b : List ℕ) → (a ≡ b) ⊎ (a ≢ b)
cases_name a b = cases_by a b (cases_Bool (bytes_eq a b))

other_back : {K : Type 0} (name : List ℕ) (sink : K) (old new : List ℕ → Place K) (other : List ℕ) → HandledOne name sink sink old new → (other ≡ name) ⊎ (other ≢ name) → IsBack (old other) (new other)
other_back {K} name sink old new other handled (inl same) = subst (λ (m : List ℕ). IsBack (old m) (new m)) (sym same) (both_told (λ told kept. kept ≡ told) _ _ sink sink handled.told handled.kept refl)
other_back {K} name sink old new other handled (inr apart) = subst (λ (x : Place K). IsBack (old other) x) (sym (handled.others other apart)) (back_from (old other).stands)

pub output_back : {K : Type 0} (name : List ℕ) (sink : K) (old new : List ℕ → Place K) → HandledOne name sink sink old new → (other : List ℕ) → IsBack (old other) (new other)
output_back name sink old new handled other = other_back name sink old new other handled (cases_name other name)

-- ends of which nothing was used
front_nothing : (o : Option (List ℕ)) → o ≡ in_front [] o
front_nothing None = refl
front_nothing (Some octets) = refl

behind_nothing : (o : Option (List ℕ)) → o ≡ behind o []
behind_nothing None = refl
behind_nothing (Some octets) = ap (λ (l : List ℕ). Some l) (sym (append-nil octets))

pub unused_ends : {S K C : Type 0} (left : S → Option (List ℕ)) (written : K → Option (List ℕ)) (ends : Ends S K C) → IsUsed left written ends ends
unused_ends left written ends = record { gave = ([], front_nothing (left ends.source)); took = ([], behind_nothing (written ends.sink)); clock = refl }

pub unused_sink : {K : Type 0} (written : K → Option (List ℕ)) (sink : K) → TookMore (written sink) (written sink)
unused_sink written sink = ([], behind_nothing (written sink))

keeps_control : {S K C : Type 0} (left : S → Option (List ℕ)) (written : K → Option (List ℕ)) (names : Option (List ℕ × List ℕ)) (held : Option (ControlEnds S K C)) (old new : ControlKey → Place (Ends S K C)) → HandledControl names held held old new → KeepsControl (IsUsed left written) false names old new
keeps_control left written None None old new handled = handled
keeps_control left written None (Some held) old new handled = absurd handled
keeps_control left written (Some names) None old new handled = absurd handled
keeps_control left written (Some names) (Some held) old new handled =
    keeps_of (IsUsed left written) (old (control_key false names)) (new (control_key false names)) held.ends held.ends handled.told handled.kept (unused_ends left written held.ends)

-- the ends of a session for which there was no memory are kept as they were
pub keeps_all_of : {S K C : Type 0} (left : S → Option (List ℕ)) (written : K → Option (List ℕ)) (plan : Plan) (control : Option (ControlEnds S K C)) (held : List (PortEnds S K C)) (sink : K) (old new : Book S K C) → HandledAll plan control control held held sink sink old new → KeepsAll false left written plan old new
keeps_all_of {S} {K} {C} left written plan control held sink old new all = record {
  ports = λ k d inside.
      let ports = all.planned in
      let handled = all.ports in
      let sizes = length-map plan.ports (λ (p : PortPlan). number_of p.number) in
      let size = size_of held plan.ports ports in
      let e = element held k (omega (arith, sizes, size, inside)) in
      subst (λ (n : ℕ). Keeps (IsUsed left written) (ports_in plan old n) (ports_in plan new n)) (sym (get_or_default (numbers_of plan.ports) k d 0 inside ∙ number_at held plan.ports k e ports (omega (arith, sizes, size, inside))))
      (keeps_at (IsUsed left written) held held (ports_in plan old) (ports_in plan new) k e handled (omega (arith, sizes, size, inside)) (unused_ends left written (get_or held k e).ends));
  control = keeps_control left written plan.control control old.control new.control all.ends;
  journal = keeps_of (λ told kept. TookMore (written told) (written kept)) _ _ sink sink all.journal.told all.journal.kept (unused_sink written sink);
}

pub off_plan : {S K C : Type 0} (plan : Plan) (control control' : Option (ControlEnds S K C)) (held back : List (PortEnds S K C)) (sink sink' : K) (old new : Book S K C) → HandledAll plan control control' held back sink sink' old new → IsOffPlanSame plan old new
off_plan {S} {K} {C} plan control control' held back sink sink' old new all = record {
  ports = λ key away. all.others key (λ k d inside same.
      let sizes = length-map plan.ports (λ (p : PortPlan). number_of p.number) in
      let size = size_of held plan.ports all.planned in
      away k 0 (omega (arith, sizes, size, inside)) (number_at held plan.ports k d all.planned inside ∙ same));
  control = λ none. control_off plan.control control control' old.control new.control all.ends none;
  outputs = all.journal.others;
}

-- where the ends of control that are held were served, those in their place were
serves_control : {S K C : Type 0} (left : S → Option (List ℕ)) (written : K → Option (List ℕ)) (source_faults : S → ℕ) (sink_faults : K → ℕ) (plan : Plan) (segments : List (List Row)) (names : Option (List ℕ × List ℕ)) (held back : Option (ControlEnds S K C)) (lines : Option lines_of.Input) (stop : Option ℕ) (old new : ControlKey → Place (Ends S K C))
    → HandledControl names held back old new → ServesControl left written source_faults sink_faults plan segments held back lines stop
    → ServesControlPlace left written source_faults sink_faults plan segments names lines stop old new
serves_control left written source_faults sink_faults plan segments None None None None stop old new handled serves = handled
serves_control left written source_faults sink_faults plan segments None None None (Some input) stop old new handled serves = absurd serves
serves_control left written source_faults sink_faults plan segments None None (Some back) lines stop old new handled serves = absurd handled
serves_control left written source_faults sink_faults plan segments None (Some held) back lines stop old new handled serves = absurd handled
serves_control left written source_faults sink_faults plan segments (Some names) None back lines stop old new handled serves = absurd handled
serves_control left written source_faults sink_faults plan segments (Some names) (Some held) None lines stop old new handled serves = absurd handled
serves_control left written source_faults sink_faults plan segments (Some names) (Some held) (Some back) None stop old new handled serves = absurd serves
serves_control left written source_faults sink_faults plan segments (Some names) (Some held) (Some back) (Some input) stop old new handled serves =
    keeps_of (IsControlServed left written source_faults sink_faults plan segments input stop) (old (control_key false names)) (new (control_key false names)) held.ends back.ends handled.told handled.kept serves

-- where the ends that are held were served, those in their places were
serves_places : {S K C : Type 0} (left : S → Option (List ℕ)) (written : K → Option (List ℕ)) (source_faults : S → ℕ) (sink_faults : K → ℕ) (plan : Plan) (segments : List (List Row)) (control control' : Option (ControlEnds S K C)) (held back : List (PortEnds S K C)) (place place' : ControlKey → Place (Ends S K C)) (old new : ℕ → Place (Ends S K C))
    → HandledControl plan.control control control' place place' → ports_held held ≡ ports_of plan.ports → Handled held back old new → All IsReadAnew held → ServesEnds left written source_faults sink_faults plan segments control control' held back
    → ServesPorts plan segments (λ lines stop. ServesControlPlace left written source_faults sink_faults plan segments plan.control lines stop place place') (λ at port input stop. Keeps (IsServed left written source_faults sink_faults (Arrive classic_kinds) plan segments port input stop) (old port) (new port))
serves_places {S} {K} {C} left written source_faults sink_faults plan segments control control' held back place place' old new handled_control ports handled anew serves = record {
  lines = serves.lines;
  control = serves_control left written source_faults sink_faults plan segments plan.control control control' serves.lines serves.stops.control place place' handled_control serves.control;
  inputs = serves.inputs;
  stops = serves.stops;
  size = serves.size;
  replay = serves.replay;
  session = serves.session;
  each = λ k i within.
      let size = size_of held plan.ports ports in
      let inside : k < length held = omega (arith, size, within) in
      let d = element held k inside in
      let port = slice_index (numbers_of plan.ports) k in
      let Served : State → Ends S K C → Ends S K C → Type 0 = λ s. IsServed left written source_faults sink_faults (Comes s) plan segments port (get_or serves.inputs k i) (serves.stops.ports port) in
      subst (λ (n : ℕ). Keeps (Served (Fresh classic_kinds)) (old n) (new n)) (sym (number_at held plan.ports k d ports inside))
      (keeps_at (Served (Fresh classic_kinds)) held back old new k d handled inside
      (subst (λ (s : State). Served s (get_or held k d).ends (get_or back k d).ends) (anew k d inside) (serves.each k i within d)));
}

-- the laws that the report of a session rests on
pub record Laws : Type 0 where
  pub alone : IsJournalOfOne address_text
  pub access : (plan : Plan) (segments : List (List Row)) → IsValidPlan plan → plan.savi ≡ true → AreLegal plan segments → AllSegmentsPassedRightly plan segments
  pub first_come : (plan : Plan) (segments : List (List Row)) → IsValidPlan plan → plan.savi ≡ true → AreLegal plan segments → SegmentsKeepWhoCameFirst plan segments

-- each segment is guarded, and so are they all
all_guarded : (plan : Plan) (segments : List (List Row)) → AreLegal plan segments → IsGuarded plan (joined segments)
all_guarded plan [] legal = record { no_advert = All-nil (NotPassed IsAdvertFrame plan); no_hidden = All-nil (NotPassed IsHiddenFrame plan) }
all_guarded plan (segment ∷ before) legal =
    let here = guarded plan (base_after plan before) segment legal.0 in
    let rest = all_guarded plan before legal.2 in
    record {
      no_advert = All-append (NotPassed IsAdvertFrame plan) segment (joined before) here.no_advert rest.no_advert;
      no_hidden = All-append (NotPassed IsHiddenFrame plan) segment (joined before) here.no_hidden rest.no_hidden;
    }

-- what became of the journal's sink became of that in its place, and the segments are reported
pub reported_of : {S K C : Type 0} (written : K → Option (List ℕ)) (sink_faults : K → ℕ) (plan : Plan) (Says : List ℕ → Type 0) (sink sink' : K) (segments : List (List Row)) (told : List Row) (journal_written : Bool) (old new : Book S K C) (status : ℕ)
    → Laws → HandledOne plan.journal sink sink' old.outputs new.outputs → TookOrPart sink_faults written journal_written (journal_of plan segments) sink sink'
    → IsJournalOf address_text plan segments (journal_of plan segments) → IsSummed written sink_faults Says (joined segments) told journal_written (old.std Out) (new.std Out) status
    → IsReported written sink_faults plan segments told Says old new status
reported_of written sink_faults plan Says sink sink' segments told journal_written old new status laws handled was tells summed = record {
  journal_written = journal_written;
  journal = keeps_of (TookOrPart sink_faults written journal_written (journal_of plan segments)) _ _ sink sink' handled.told handled.kept was;
  tells = tells;
  alone = λ plan' segments' other. laws.alone plan plan' segments segments' (journal_of plan segments) tells other;
  summed = summed;
  guarded = all_guarded plan segments tells.legal;
  access = λ on. laws.access plan segments tells.valid on tells.legal;
  first_come = λ on. laws.first_come plan segments tells.valid on tells.legal;
}

-- what a session was to the ends is what it was to the places
pub session_of : {S K C : Type 0} (left : S → Option (List ℕ)) (written : K → Option (List ℕ)) (source_faults : S → ℕ) (sink_faults : K → ℕ) (plan : Plan) (Says : List ℕ → Type 0) (control control' : Option (ControlEnds S K C)) (held back : List (PortEnds S K C)) (sink sink' : K) (segments : List (List Row)) (journal_written : Bool) (old new : Book S K C) (status : ℕ)
    → Laws → HandledAll plan control control' held back sink sink' old new → All IsReadAnew held → IsPlayed left written source_faults sink_faults plan segments control control' held back sink sink' journal_written
    → IsSummed written sink_faults Says (joined segments) (unbroken segments) journal_written (old.std Out) (new.std Out) status
    → IsSessionOf left written source_faults sink_faults plan Says old new status
session_of left written source_faults sink_faults plan Says control control' held back sink sink' segments journal_written old new status laws all anew played summed = record {
  elsewhere = off_plan plan control control' held back sink sink' old new all;
  did = record {
    segments = segments;
    serves = serves_places left written source_faults sink_faults plan segments control control' held back old.control new.control (ports_in plan old) (ports_in plan new) all.ends all.planned all.ports anew played.serves;
    reported = reported_of written sink_faults plan Says sink sink' segments (unbroken segments) journal_written old new status laws all.journal played.journal_was played.tells summed;
  };
}

-- the numbers of the ports of a plan
numbers_are : (plans : List PortPlan) → numbers_of plans ≡ map number_of (ports_of plans)
numbers_are [] = refl
numbers_are (p ∷ plans) = ap (λ (l : List ℕ). number_of p.number ∷ l) (numbers_are plans)

held_number : {S K C : Type 0} (held : List (PortEnds S K C)) (k d : ℕ) (e : PortEnds S K C) → k < length held → get_or (map number_of (ports_held held)) k d ≡ number_of (get_or held k e).port
held_number {S} {K} {C} held k d e inside =
    let size = length-map held (λ (p : PortEnds S K C). p.port) in
    get_or-map number_of (ports_held held) k e.port d (omega (arith, size, inside))
    ∙ ap number_of (get_or-map (λ (p : PortEnds S K C). p.port) held k e e.port inside)

held_size : {S K C : Type 0} (held : List (PortEnds S K C)) → length (map number_of (ports_held held)) ≡ length held
held_size {S} {K} {C} held = length-map (ports_held held) number_of ∙ length-map held (λ (p : PortEnds S K C). p.port)

-- the ports that were opened are kept
held_kept : {S K C : Type 0} (held back : List (PortEnds S K C)) (old new : ℕ → Place (Ends S K C)) → Handled held back old new → All (λ n. IsSome (new n).stands) (map number_of (ports_held held))
held_kept {S} {K} {C} held back old new handled = λ k d inside.
    let size = held_size held in
    let within : k < length held = omega (arith, size, inside) in
    let e = element held k within in
    subst (λ (n : ℕ). IsSome (new n).stands) (sym (held_number held k d e within)) (is_some_of _ _ (kept_at held back old new k e handled within))

-- those that come behind them in the plan are none of them
later_off : {S K C : Type 0} (held : List (PortEnds S K C)) (numbers rest : List ℕ) → IsStrictlyIncreasing numbers → numbers ≡ map number_of (ports_held held) ++ rest → All (λ n. IsOff held n) rest
later_off {S} {K} {C} held numbers rest rising all = λ j d inside k e within same.
    let before = map number_of (ports_held held) in
    let size = held_size held in
    let sizes = ap length all ∙ length-append before rest in
    let here = ap (λ (l : List ℕ). get_or l (length before + j) d) all ∙ get_or-append-add before rest j d in
    let there = ap (λ (l : List ℕ). get_or l k d) all ∙ get_or_append_left before rest d k (omega (arith, size, within)) ∙ held_number held k d e within in
    let below = AllPairs-from_increasing numbers rising k (length before + j) d (omega (arith, size, within)) (omega (arith, sizes, inside)) in
    omega (arith, here, there, below, same)

-- a port off the plan is none of those that were opened
off_held : {S K C : Type 0} (held : List (PortEnds S K C)) (numbers rest : List ℕ) (n : ℕ) → numbers ≡ map number_of (ports_held held) ++ rest → All (λ m. m ≢ n) numbers → IsOff held n
off_held {S} {K} {C} held numbers rest n all away = λ k d inside same.
    let before = map number_of (ports_held held) in
    let size = held_size held in
    let sizes = ap length all ∙ length-append before rest in
    let there = ap (λ (l : List ℕ). get_or l k 0) all ∙ get_or_append_left before rest 0 k (omega (arith, size, inside)) ∙ held_number held k 0 d inside in
    away k 0 (omega (arith, size, sizes, inside)) (there ∙ same)

-- an opening of a port failed, and what was open is kept
pub port_unopened : {S K C : Type 0} (plan : Plan) (Says : List ℕ → Type 0) (held : List (PortEnds S K C)) (port : Port) (old new : Book S K C) → IsStrictlyIncreasing (numbers_of plan.ports) → IsNextBehind port (ports_held held) (ports_of plan.ports)
    → Handled held held (ports_in plan old) (ports_in plan new) → ((key : PortKey) → IsOff held key.number → new.ports key ≡ old.ports key) → new.control ≡ old.control → new.outputs ≡ old.outputs → Says (cannot_open_line (port_name (number_of port))) → IsPortUnopened plan Says old new
port_unopened {S} {K} {C} plan Says held port old new rising (later, all) handled others control outputs told =
    let whole : numbers_of plan.ports ≡ map number_of (ports_held held) ++ number_of port ∷ map number_of later = numbers_are plan.ports ∙ ap (map number_of) all ∙ map-append number_of (ports_held held) (port ∷ later) in
    record {
      before = map number_of (ports_held held);
      port = number_of port;
      later = map number_of later;
      all = whole;
      kept = held_kept held held (ports_in plan old) (ports_in plan new) handled;
      same = λ j d inside key is. others key (subst (λ (n : ℕ). IsOff held n) (sym is) (later_off held (numbers_of plan.ports) (number_of port ∷ map number_of later) rising whole j d inside));
      control = control;
      outputs = outputs;
      elsewhere = record {
        ports = λ key away. others key (off_held held (numbers_of plan.ports) (number_of port ∷ map number_of later) key.number whole away);
        control = λ none. control;
        outputs = λ other apart. ap (λ (o : List ℕ → Place K). o other) outputs;
      };
      errors = told;
    }

-- where all ports of a plan are kept

ports_kept : {S K C : Type 0} (plan : Plan) (held : List (PortEnds S K C)) (old new : ℕ → Place (Ends S K C)) → ports_held held ≡ ports_of plan.ports → Handled held held old new → All (λ n. IsSome (new n).stands) (numbers_of plan.ports)
ports_kept plan held old new ports handled =
    subst (λ (l : List ℕ). All (λ n. IsSome (new n).stands) l) (sym (numbers_are plan.ports ∙ ap (map number_of) (sym ports))) (held_kept held held old new handled)

pub ports_off : {S K C : Type 0} (plan : Plan) (held : List (PortEnds S K C)) (old new : PortKey → Place (Ends S K C)) → ports_held held ≡ ports_of plan.ports → ((key : PortKey) → IsOff held key.number → new key ≡ old key) → (key : PortKey) → All (λ m. m ≢ key.number) (numbers_of plan.ports) → new key ≡ old key
ports_off plan held old new ports others key away =
    others key (off_held held (numbers_of plan.ports) [] key.number (numbers_are plan.ports ∙ ap (map number_of) (sym ports) ∙ sym (append-nil (map number_of (ports_held held)))) away)

-- the ports off the plan, where the opening of one of its ports failed
pub ports_off_next : {S K C : Type 0} (plan : Plan) (held : List (PortEnds S K C)) (port : Port) (old new : PortKey → Place (Ends S K C)) → IsNextBehind port (ports_held held) (ports_of plan.ports) → ((key : PortKey) → IsOff held key.number → new key ≡ old key) → (key : PortKey) → All (λ m. m ≢ key.number) (numbers_of plan.ports) → new key ≡ old key
ports_off_next plan held port old new (later, all) others key away =
    others key (off_held held (numbers_of plan.ports) (number_of port ∷ map number_of later) key.number (numbers_are plan.ports ∙ ap (map number_of) all ∙ map-append number_of (ports_held held) (port ∷ later)) away)

-- the opening of control failed, and all ports are kept
pub control_unopened : {S K C : Type 0} (plan : Plan) (Says : List ℕ → Type 0) (held : List (PortEnds S K C)) (old new : Book S K C) → IsSome plan.control → ports_held held ≡ ports_of plan.ports
    → Handled held held (ports_in plan old) (ports_in plan new) → ((key : PortKey) → IsOff held key.number → new.ports key ≡ old.ports key) → new.control ≡ old.control → new.outputs ≡ old.outputs → Says (cannot_open_line control_word) → IsControlUnopened plan Says old new
control_unopened {S} {K} {C} plan Says held old new named ports handled others control outputs told = record {
  named = named;
  kept = ports_kept plan held (ports_in plan old) (ports_in plan new) ports handled;
  control = control;
  outputs = outputs;
  elsewhere = record {
    ports = ports_off plan held old.ports new.ports ports others;
    control = λ none. control;
    outputs = λ other apart. ap (λ (o : List ℕ → Place K). o other) outputs;
  };
  errors = told;
}

-- the opening of the journal failed, and all ports and control are kept
pub journal_unopened : {S K C : Type 0} (plan : Plan) (Says : List ℕ → Type 0) (held : List (PortEnds S K C)) (control : Option (ControlEnds S K C)) (old new : Book S K C) → ports_held held ≡ ports_of plan.ports
    → Handled held held (ports_in plan old) (ports_in plan new) → ((key : PortKey) → IsOff held key.number → new.ports key ≡ old.ports key) → HandledControl plan.control control control old.control new.control → ((name : List ℕ) → new.outputs name ≡ old.outputs name) → Says (cannot_open_line journal_word) → IsJournalUnopened false plan Says old new
journal_unopened plan Says held control old new ports handled others handled_control outputs told = record {
  kept = ports_kept plan held (ports_in plan old) (ports_in plan new) ports handled;
  control = control_kept plan.control control control old.control new.control handled_control;
  outputs = outputs;
  elsewhere = record {
    ports = ports_off plan held old.ports new.ports ports others;
    control = λ none. control_off plan.control control control old.control new.control handled_control none;
    outputs = λ other apart. outputs other;
  };
  errors = told;
}
