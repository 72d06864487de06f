-- A switch that validates no sources: nothing is told, and the rules on messages decide alone.
use Rattle.std.proofs.Common.{◌≡◌, ◌⊎◌, ◌==◌, ℕ, Bool, true, false, if◌then◌else◌, Option, Some, None, Result, Ok, Err, List, [], ◌∷◌, ◌++◌, All, map, filter, refl, sym, ap, subst, ◌∙◌, inl, inr}
use Rattle.std.proofs.lemmas.List.Elements.{All-nil, All-cons, All-head, All-tail, All-append, All-filter}
use Rattle.savi_kinds.specs.declared.plan.Plan.{Plan}
use Rattle.savi_kinds.specs.declared.plan.Method.{Method}
use Rattle.savi_kinds.specs.declared.plan.Role.TheVariants.{Trusted}
use Rattle.savi_kinds.specs.declared.port.Port.{Port}
use Rattle.savi_kinds.specs.declared.verdict.Rule.{Rule}
use Rattle.savi_kinds.specs.declared.entry.Act.{Act}
use Rattle.savi_kinds.specs.declared.entry.Act.TheVariants.{Frame, Long, Tick, Command, Drain, End}
use Rattle.savi_kinds.specs.Ports.{number_of}
use Rattle.savi_kinds.specs.Vlans.{access_vlan, vlans_of}
use Rattle.frame_class.specs.declared.classes.Class.{Class}
use Rattle.eth_frame.specs.Tags.{inner}
use Rattle.frame_class.specs.ClassOf.{class_of}
use Rattle.ra_guard.specs.GuardOf.{guard_of}
use Rattle.fcfs_states.specs.declared.state.Fcfs.{Fcfs}
use Rattle.fcfs_states.specs.declared.state.Fcfs.TheVariants.{NoBind}
use Rattle.fcfs_states.specs.Aged.{aged_by, aged}
use Rattle.fcfs_states.specs.declared.times.Times.{Times}
use Rattle.fcfs_states.specs.declared.answer.Probe.{Probe}
use Rattle.mix_rules.specs.States.{has_state}
use Rattle.mix_rules.specs.declared.state.AddrState.{AddrState}
use Rattle.savi_access.specs.declared.row.Row.{Row as State}
use Rattle.savi_kinds.specs.Orders.{is_below, is_above}
use Rattle.savi_access.specs.Rows.{address_of, address_row, rows_of, state_in, with_state}
use Rattle.savi_access.specs.declared.sent.SentProbe.{SentProbe}
use Rattle.savi_access.specs.Sends.{sent_of, all_sends}
use Rattle.savi_access.specs.Bases.{AddrRules, AddrBase}
use Rattle.savi_access.specs.NamedMarks.{Named, mark_of}
use Rattle.savi_access.specs.States.{outcome_by, outcome_of}
use Rattle.savi_access.specs.Tables.{rows_with, rows_after}
use Rattle.hist_store.specs.Rows.{Row}
use Rattle.savi_access.specs.Marks.{Mark, Told, Asked, Met, told}
use Rattle.savi_access.specs.Judged.{Judged, judged_without}
use Rattle.savi_access.specs.Plans.{rules_of, role_of}
use Rattle.savi_access.proofs.Trusting.{without}
use Rattle.checkpoint.specs.Bases.{Base, access_of}
use Rattle.savi_history.specs.Moments.{moment_at}
use Rattle.savi_history.specs.Vlans.{vlan_of_frame}
use Rattle.savi_history.specs.Merges.{merge, merged}
use Rattle.fcfs_states.specs.declared.event.Ev.TheVariants.{Fix, Clear}
use Rattle.cli_lang.specs.declared.kinds.Command.{Command as Order}
use Rattle.cli_lang.specs.declared.kinds.Command.TheVariants as orders
use Rattle.cli_lang.specs.declared.kinds.CmdFault.{CmdFault}
use Rattle.cli_lang.specs.CommandOf.{command_of}
use Rattle.control_replies.specs.declared.refusal.Refusal.{Refusal}
use Rattle.savi_history.specs.ShutPorts.{is_shut}
use Rattle.savi_history.specs.Commands.{rows_told as table_after, refusal_of, fixed_in, ordered_unless}
use Rattle.savi_history.specs.Marks.{judged_after, marked, marks, IsOfOperator}
use Rattle.savi_history.specs.Judged.{judged_of}
use Rattle.savi_history.specs.Offers.{Offer, offer_of, due_in, due_by, in_answer, offers}
use Rattle.savi_history.proofs.FrameVlans.{untold_marks, untold_probe}

marks_without : (past : List Mark) (rule : Option Rule) → (judged_without past rule).marks ≡ past
marks_without past None = refl
marks_without past (Some rule) = refl

probe_without : (past : List Mark) (rule : Option Rule) → (judged_without past rule).probe ≡ None
probe_without past None = refl
probe_without past (Some rule) = refl

-- a state of which ageing sends no probe: the operator's, or none
abbrev HasNothingToSend : State → Type 0
HasNothingToSend row = row.state.fcfs ≡ NoBind

abbrev AreQuiet : List State → Type 0
AreQuiet rows = All HasNothingToSend rows

nobody_asks : (k : Times) (t : ℕ) → (aged k t NoBind).probes ≡ []
unfolding aged aged_by
nobody_asks k t = refl

no_sends : (k : Times) (t : ℕ) (rows : List State) → AreQuiet rows → all_sends k t rows ≡ []
no_sends k t [] quiet = refl
no_sends k t (row ∷ rows) quiet =
    let here : row.state.fcfs ≡ NoBind = All-head HasNothingToSend row rows quiet in
    ap (λ (fcfs : Fcfs). sent_of (address_of row) (aged k t fcfs).probes ++ all_sends k t rows) here
    ∙ ap (λ (probes : List (ℕ × Probe)). sent_of (address_of row) probes ++ all_sends k t rows) (nobody_asks k t)
    ∙ no_sends k t rows (All-tail HasNothingToSend row rows quiet)

-- the operator's event leaves such a state
quiet_event : (r : AddrRules) (named : Named) (s : AddrState) → ((named.event ≡ Clear) ⊎ ((port : Port) × (named.event ≡ Fix port))) → (outcome_of r named s).1.fcfs ≡ NoBind
quiet_event r named s is = by_method (r.method_of named.vlan named.address) is
  where
    by_method : (m : Option Method) → ((named.event ≡ Clear) ⊎ ((port : Port) × (named.event ≡ Fix port))) → (outcome_by m r.times (mark_of named) s).1.fcfs ≡ NoBind
    by_method None is = refl
    by_method (Some m) (inl clear) = rw clear refl
    by_method (Some m) (inr fix) = rw fix.1 refl

quiet_rows : (a : ℕ) (state : AddrState) (rows : List State) → state.fcfs ≡ NoBind → AreQuiet rows → AreQuiet (with_state a state rows)
quiet_rows a state rows quiet all =
    All-append HasNothingToSend (filter (is_below address_of a) rows) (rows_of a state ++ filter (is_above address_of a) rows) (All-filter (is_below address_of a) HasNothingToSend rows all)
    (All-append HasNothingToSend (rows_of a state) (filter (is_above address_of a) rows) (own (has_state state)) (All-filter (is_above address_of a) HasNothingToSend rows all))
  where
    own : (b : Bool) → AreQuiet (if b then address_row a state ∷ [] else [])
    own true = All-cons HasNothingToSend (address_row a state) [] quiet (All-nil HasNothingToSend)
    own false = All-nil HasNothingToSend

quiet_after : (r : AddrRules) (base : AddrBase) (vlan : ℕ) (marks : List Mark) → AreQuiet (base.rows vlan) → All IsOfOperator marks → AreQuiet (rows_after r base (told marks) vlan)
quiet_after r base vlan [] quiet all = quiet
quiet_after r base vlan (Told named ∷ marks) quiet all =
    let before = quiet_after r base vlan marks quiet (All-tail IsOfOperator (Told named) marks all) in
    by_vlan (named.vlan == vlan) before
  where
    by_vlan : (b : Bool) → AreQuiet (rows_after r base (told marks) vlan) → AreQuiet (if b then rows_with r named (rows_after r base (told marks) vlan) else rows_after r base (told marks) vlan)
    by_vlan true before =
        quiet_rows named.address (outcome_of r named (state_in (rows_after r base (told marks) vlan) named.address)).1 (rows_after r base (told marks) vlan)
        (quiet_event r named (state_in (rows_after r base (told marks) vlan) named.address) (All-head IsOfOperator (Told named) marks all)) before
    by_vlan false before = before
quiet_after r base vlan (Asked of request ∷ marks) quiet all = absurd (All-head IsOfOperator (Asked of request) marks all)
quiet_after r base vlan (Met of moment tid duid ∷ marks) quiet all = absurd (All-head IsOfOperator (Met of moment tid duid) marks all)

module _ (plan : Plan) (base : Base) (off : plan.savi ≡ false) where
  abbrev guard_at : Port → Class → Option Rule
  guard_at port class = guard_of (role_of plan (number_of port)) plan.drop_unknown class

  plainly : (past : List Mark) (port : Port) (t vlan : ℕ) (class : Class) → judged_after plan base false past port t (Some vlan) class ≡ judged_without past (guard_at port class)
  plainly past port t vlan class = without (rules_of plan) (access_of base) vlan port t past class off

  -- no frame tells anything, at a port that is shut or not, in a VLAN or in none
  frame_tells_nothing : (shut : Bool) (past : List Mark) (port : Port) (t : ℕ) (vlan : Option ℕ) (class : Class) → (judged_after plan base shut past port t vlan class).marks ≡ past
  frame_tells_nothing true past port t vlan class = refl
  frame_tells_nothing false past port t (Some vlan) class = ap (λ (j : Judged). j.marks) (plainly past port t vlan class) ∙ marks_without past (guard_at port class)
  frame_tells_nothing false past port t None class = untold_marks past (guard_of Trusted plan.drop_unknown class)

  frame_asks_nothing : (shut : Bool) (past : List Mark) (port : Port) (t : ℕ) (vlan : Option ℕ) (class : Class) → (judged_after plan base shut past port t vlan class).probe ≡ None
  frame_asks_nothing true past port t vlan class = refl
  frame_asks_nothing false past port t (Some vlan) class = ap (λ (j : Judged). j.probe) (plainly past port t vlan class) ∙ probe_without past (guard_at port class)
  frame_asks_nothing false past port t None class = untold_probe past (guard_of Trusted plan.drop_unknown class)

  fixed_by_operator : (t a : ℕ) (port : Port) (past : List Mark) → All IsOfOperator past → (vlan : Option ℕ) → All IsOfOperator (fixed_in plan (access_of base) t vlan a port past)
  fixed_by_operator t a port past all (Some vlan) = All-cons IsOfOperator _ past (inr (port, refl)) all
  fixed_by_operator t a port past all None = all

  ordered_by_operator : (t : ℕ) (order : Result Order CmdFault) (refusal : Option Refusal) (past : List Mark) → All IsOfOperator past → All IsOfOperator (ordered_unless plan (access_of base) t order refusal past)
  ordered_by_operator t order (Some refusal) past all = all
  ordered_by_operator t (Err fault) None past all = all
  ordered_by_operator t (Ok (orders.Static address port)) None past all = fixed_by_operator t address.0 port past all (access_vlan plan (number_of port))
  ordered_by_operator t (Ok (orders.Clear vlan address)) None past all = All-cons IsOfOperator _ past (inl refl) all
  ordered_by_operator t (Ok (orders.Shut port)) None past all = all
  ordered_by_operator t (Ok (orders.Reopen port)) None past all = all
  ordered_by_operator t (Ok orders.ShowBindings) None past all = all
  ordered_by_operator t (Ok orders.ShowPorts) None past all = all
  ordered_by_operator t (Ok orders.ShowCounters) None past all = all
  ordered_by_operator t (Ok orders.ShowStations) None past all = all
  ordered_by_operator t (Ok orders.Quit) None past all = all

  marked_by_operator : (rows : List Row) (r : Row) (act : Act) (past : List Mark) → All IsOfOperator past → All IsOfOperator (marked plan base rows r act past)
  marked_by_operator rows r (Frame port stamp at len) past all =
      subst (λ (marks : List Mark). All IsOfOperator marks) (sym (frame_tells_nothing (is_shut plan base (number_of port) rows) past port r.entry.moment (vlan_of_frame plan (number_of port) r.octets) (class_of (inner r.octets)))) all
  marked_by_operator rows r (Long port stamp len) past all = all
  marked_by_operator rows r (Tick stamp) past all = all
  marked_by_operator rows r (Command stamp at len) past all =
      ordered_by_operator r.entry.moment (command_of r.octets) (refusal_of plan (table_after plan (access_of base) past r.entry.moment) (command_of r.octets)) past all
  marked_by_operator rows r (Drain port count) past all = all
  marked_by_operator rows r (End who how) past all = all

  -- what is told is the operator's
  pub operators_marks : (past : List Row) → All IsOfOperator (marks plan base past)
  operators_marks [] = All-nil IsOfOperator
  operators_marks (r ∷ past) = marked_by_operator past r r.entry.act (marks plan base past) (operators_marks past)

  -- the guard decides
  pub judged_plainly : (past : List Row) (port : Port) (stamp : ℕ) (octets : List ℕ) (vlan : ℕ) → is_shut plan base (number_of port) past ≡ false → vlan_of_frame plan (number_of port) octets ≡ Some vlan
      → judged_of plan base past port stamp octets ≡ judged_without (marks plan base past) (guard_at port (class_of (inner octets)))
  judged_plainly past port stamp octets vlan unshut is =
      ap (λ (b : Bool). judged_after plan base b (marks plan base past) port (moment_at base past stamp) (vlan_of_frame plan (number_of port) octets) (class_of (inner octets))) unshut
      ∙ ap (λ (o : Option ℕ). judged_after plan base false (marks plan base past) port (moment_at base past stamp) o (class_of (inner octets))) is
      ∙ plainly (marks plan base past) port (moment_at base past stamp) vlan (class_of (inner octets))

  module _ (bare : (vlan : ℕ) → base.rows vlan ≡ []) where
    quiet_base : (vlan : ℕ) → AreQuiet (base.rows vlan)
    quiet_base vlan = subst AreQuiet (sym (bare vlan)) (All-nil HasNothingToSend)

    none_due_in : (past : List Row) (moment vlan : ℕ) → due_in plan base past moment vlan ≡ []
    none_due_in past moment vlan =
        let rules = (rules_of plan).addresses in
        rw (no_sends rules.times moment (rows_after rules (access_of base).addresses (told (marks plan base past)) vlan)
        (quiet_after rules (access_of base).addresses vlan (marks plan base past) (quiet_base vlan) (operators_marks past))) refl

    -- where no VLAN has any, there are none
    none_merged : (past : List Row) (moment : ℕ) (vlans : List ℕ) → merged (λ (offer : Offer). offer.due) (map (λ vlan. map (offer_of vlan) (due_in plan base past moment vlan)) vlans) ≡ []
    none_merged past moment [] = refl
    none_merged past moment (vlan ∷ vlans) =
        ap (λ (due : List SentProbe). merge (λ (offer : Offer). offer.due) (map (offer_of vlan) due) (merged (λ (offer : Offer). offer.due) (map (λ v. map (offer_of v) (due_in plan base past moment v)) vlans))) (none_due_in past moment vlan)
        ∙ none_merged past moment vlans

    none_due : (past : List Row) (moment : ℕ) → due_by plan base past moment ≡ []
    none_due past moment = none_merged past moment (vlans_of plan)

    none_answered : (vlan : Option ℕ) → in_answer vlan None ≡ []
    none_answered (Some vlan) = refl
    none_answered None = refl

    -- no entry calls for probes
    pub no_offers : (past : List Row) (act : Act) (octets : List ℕ) → offers plan base past act octets ≡ []
    unfolding offers
    no_offers past (Frame port stamp at len) octets =
        let vlan : Option ℕ = vlan_of_frame plan (number_of port) octets in
        ap (λ (due : List Offer). due ++ in_answer vlan (judged_of plan base past port stamp octets).probe) (none_due past (moment_at base past stamp))
        ∙ ap (λ (probe : Option SentProbe). in_answer vlan probe) (frame_asks_nothing (is_shut plan base (number_of port) past) (marks plan base past) port (moment_at base past stamp) vlan (class_of (inner octets)))
        ∙ none_answered vlan
    no_offers past (Long port stamp len) octets = none_due past (moment_at base past stamp)
    no_offers past (Tick stamp) octets = none_due past (moment_at base past stamp)
    no_offers past (Command stamp at len) octets = none_due past (moment_at base past stamp)
    no_offers past (Drain port count) octets = refl
    no_offers past (End who how) octets = refl
