-- What is known of a VLAN, and what becomes of its frames, as functions of what happens in it.
use Rattle.std.proofs.Common.{◌≡◌, ℕ, ◌≤◌, ◌==◌, ◌&&◌, not, Bool, true, false, if◌then◌else◌, Option, Some, None, is_some, Result, Ok, Err, List, [], ◌∷◌, ◌++◌, refl, sym, ap, subst, ◌∙◌, arith}
use Rattle.std.specs.List.{filter, list_any}
use Rattle.std.proofs.lemmas.Bool.{eqb-true, false≢true}
use Rattle.std.proofs.lemmas.List.Elements.{filter_agree}
use Rattle.savi_kinds.specs.declared.address.Addr.{Addr}
use Rattle.savi_kinds.specs.declared.plan.Plan.{Plan}
use Rattle.savi_kinds.specs.declared.plan.Role.TheVariants.{Trusted}
use Rattle.savi_kinds.specs.declared.port.Port.{Port}
use Rattle.savi_kinds.specs.declared.port.PortSet.{PortSet}
use Rattle.savi_kinds.specs.declared.verdict.Verdict.{Verdict}
use Rattle.savi_kinds.specs.declared.entry.Act.{Act}
use Rattle.savi_kinds.specs.declared.entry.Act.TheVariants as acts
use Rattle.savi_kinds.specs.Ports.{number_of}
use Rattle.savi_kinds.specs.PortSets.{is_member, set_of}
use Rattle.savi_kinds.specs.ValidPlan.{numbers_of}
use Rattle.savi_kinds.specs.Vlans.{access_vlan}
use Rattle.savi_kinds.proofs.Filters.{filter-wider}
use Rattle.eth_frame.specs.Tags.{inner}
use Rattle.frame_class.specs.declared.classes.Class.{Class}
use Rattle.frame_class.specs.ClassOf.{class_of}
use Rattle.ra_guard.specs.GuardOf.{guard_of}
use Rattle.fcfs_states.specs.declared.event.Ev.{Ev}
use Rattle.fcfs_states.specs.declared.event.Ev.TheVariants.{Fix, Clear}
use Rattle.mix_rules.specs.declared.state.AddrState.{AddrState}
use Rattle.mix_rules.specs.States.{has_state}
use Rattle.mix_rules.specs.Ageing.{aged_state}
use Rattle.cli_lang.specs.declared.kinds.Command.{Command}
use Rattle.cli_lang.specs.declared.kinds.Command.TheVariants as orders
use Rattle.cli_lang.specs.declared.kinds.CmdFault.{CmdFault}
use Rattle.cli_lang.specs.CommandOf.{command_of}
use Rattle.control_replies.specs.declared.refusal.Refusal.{Refusal}
use Rattle.control_replies.specs.declared.refusal.Refusal.TheVariants as refusals
use Rattle.bridge_fdb.specs.declared.station.Station.{Station}
use Rattle.bridge_fdb.specs.Stations.{live_at}
use Rattle.hist_store.specs.Rows.{Row}
use Rattle.savi_access.specs.declared.row.Row.{Row as AddressRow}
use Rattle.savi_access.specs.Rows.{state_in}
use Rattle.savi_access.specs.Marks.{Mark, Told, named_for, event_told}
use Rattle.savi_access.specs.VlanMarks.{is_of, in_vlan, IsSameIn}
use Rattle.savi_access.specs.Judged.{Judged}
use Rattle.savi_access.specs.Plans.{rules_of, has_port, method_in}
use Rattle.savi_access.proofs.OwnVlan.{other_in, rows_same, open_same, state_same, event_same, same_judged}
use Rattle.savi_access.proofs.OtherVlans.{leaves_judged}
use Rattle.checkpoint.specs.Bases.{Base, access_of}
use Rattle.checkpoint.specs.BaseLines.{has_vlan}
use Rattle.savi_history.specs.Vlans.{is_vlan, vlan_of_frame}
use Rattle.savi_history.specs.Moments.{last_moment, moment_at}
use Rattle.savi_history.specs.ShutPorts.{is_heard_at, shut_by, shut_after, is_shut}
use Rattle.savi_history.specs.Commands.{rows_told, may_hold, static_refusal_in, static_refusal, clear_refusal, port_refusal, fixed_in, ordered_unless, commanded}
use Rattle.savi_history.specs.Marks.{judged_after, marked, marks}
use Rattle.savi_history.specs.Judged.{verdict_of}
use Rattle.savi_history.specs.Summary.{is_pass}
use Rattle.savi_history.specs.Stations.{ethernet_of, taught, stations, port_among}
use Rattle.savi_history.specs.Outs.{outs_by, without_shut, outs}
use Rattle.savi_history.specs.Events.{Event, Frame, Long, Tick, Drain, End, row_of, outs_of}
use Rattle.savi_history.specs.Events as events
use Rattle.savi_history.specs.Legal.{IsLegal}
use Rattle.savi_history.specs.Happenings.{Happening, Receives, Fixes, Clears, Shuts, Opens, when, happens_by, happens, happenings, answers_in, IsSameInVlan}
use Rattle.savi_history.proofs.FrameVlans.{untold_marks}
use Rattle.savi_history.proofs.Commanding.{some_port}
use Rattle.savi_history.proofs.Directing.{and-false}
use Rattle.savi_history.proofs.Ticking.{live_left}

and-true : (b : Bool) → (b && true) ≡ b
and-true true = refl
and-true false = refl

module _ (vlan : ℕ) (plan : Plan) (base : Base) where
  -- shut ports

  abbrev shut_behind : ℕ → Happening → Bool → Bool
  shut_behind number (Shuts port) before = if is_heard_at plan port number then true else before
  shut_behind number (Opens port) before = if is_heard_at plan port number then false else before
  shut_behind number (Receives moment port octets) before = before
  shut_behind number (Fixes moment address port) before = before
  shut_behind number (Clears moment address) before = before

  -- whether the port of this number is shut after these happenings
  abbrev shut_after_all : ℕ → List Happening → Bool
  shut_after_all number [] = list_any (λ n. n == number) base.shut
  shut_after_all number (happening ∷ before) = shut_behind number happening (shut_after_all number before)

  when_shut : (number : ℕ) (b : Bool) (happening : Happening) (before : List Happening) → ((was : Bool) → shut_behind number happening was ≡ was) → shut_after_all number before ≡ shut_after_all number (when b happening ++ before)
  when_shut number true happening before leaves = sym (leaves (shut_after_all number before))
  when_shut number false happening before leaves = refl

  order_shut : (number moment : ℕ) (order : Result Command CmdFault) (before : List Happening) → shut_by plan number order (shut_after_all number before) ≡ shut_after_all number (happens_by vlan plan moment order ++ before)
  order_shut number moment (Ok (orders.Static address port)) before = when_shut number (is_vlan vlan (access_vlan plan (number_of port))) (Fixes moment address port) before (λ was. refl)
  order_shut number moment (Ok (orders.Clear of address)) before = when_shut number (of == vlan) (Clears moment address) before (λ was. refl)
  order_shut number moment (Ok (orders.Shut port)) before = refl
  order_shut number moment (Ok (orders.Reopen port)) before = refl
  order_shut number moment (Ok orders.ShowBindings) before = refl
  order_shut number moment (Ok orders.ShowPorts) before = refl
  order_shut number moment (Ok orders.ShowCounters) before = refl
  order_shut number moment (Ok orders.ShowStations) before = refl
  order_shut number moment (Ok orders.Quit) before = refl
  order_shut number moment (Err fault) before = refl

  act_shut : (number : ℕ) (r : Row) (act : Act) (before : List Happening) → shut_after plan number r.octets act (shut_after_all number before) ≡ shut_after_all number (happens vlan plan r act ++ before)
  act_shut number r (acts.Frame port stamp at len) before =
      when_shut number (is_vlan vlan (vlan_of_frame plan (number_of port) r.octets)) (Receives r.entry.moment port r.octets) before (λ was. refl)
  act_shut number r (acts.Command stamp at len) before = order_shut number r.entry.moment (command_of r.octets) before
  act_shut number r (acts.Long port stamp len) before = refl
  act_shut number r (acts.Tick stamp) before = refl
  act_shut number r (acts.Drain port count) before = refl
  act_shut number r (acts.End who how) before = refl

  shut_is : (number : ℕ) (past : List Row) → is_shut plan base number past ≡ shut_after_all number (happenings vlan plan past)
  shut_is number [] = refl
  shut_is number (r ∷ past) =
      ap (λ (was : Bool). shut_after plan number r.octets r.entry.act was) (shut_is number past) ∙ act_shut number r r.entry.act (happenings vlan plan past)

  -- marks of the VLAN

  -- what a frame of the VLAN comes to after these happenings and marks
  abbrev came_to : List Happening → List Mark → ℕ → Port → List ℕ → Judged
  came_to before told moment port octets = judged_after plan base (shut_after_all (number_of port) before) told port moment (Some vlan) (class_of (inner octets))

  abbrev marks_behind : List Happening → Happening → List Mark → List Mark
  marks_behind before (Receives moment port octets) told = in_vlan vlan (came_to before told moment port octets).marks
  marks_behind before (Fixes moment address port) told = in_vlan vlan (commanded plan (access_of base) moment (Ok (orders.Static address port)) told)
  marks_behind before (Clears moment address) told = in_vlan vlan (commanded plan (access_of base) moment (Ok (orders.Clear vlan address)) told)
  marks_behind before (Shuts port) told = told
  marks_behind before (Opens port) told = told

  abbrev marks_after_all : List Happening → List Mark
  marks_after_all [] = []
  marks_after_all (happening ∷ before) = marks_behind before happening (marks_after_all before)

  -- marks of the VLAN are all of the VLAN
  twice : (told other : List Mark) → in_vlan vlan told ≡ other → in_vlan vlan told ≡ in_vlan vlan other
  twice told other is = sym (filter-wider (is_of vlan) (is_of vlan) (λ mark own. own) told) ∙ ap (λ (l : List Mark). in_vlan vlan l) is

  judged_same : (shut : Bool) (told other : List Mark) (port : Port) (moment : ℕ) (class : Class) → in_vlan vlan told ≡ in_vlan vlan other
      → IsSameIn vlan (judged_after plan base shut told port moment (Some vlan) class) (judged_after plan base shut other port moment (Some vlan) class)
  judged_same true told other port moment class same = record { verdict = refl; probe = refl; marks = same }
  judged_same false told other port moment class same = same_judged (rules_of plan) (access_of base) vlan port moment told other class same

  came_is : (shut : Bool) (told : List Mark) (before : List Happening) (port : Port) (moment : ℕ) (octets : List ℕ) → in_vlan vlan told ≡ marks_after_all before → shut ≡ shut_after_all (number_of port) before
      → IsSameIn vlan (judged_after plan base shut told port moment (Some vlan) (class_of (inner octets))) (came_to before (marks_after_all before) moment port octets)
  came_is shut told before port moment octets are is =
      subst (λ (b : Bool). IsSameIn vlan (judged_after plan base shut told port moment (Some vlan) (class_of (inner octets))) (judged_after plan base b (marks_after_all before) port moment (Some vlan) (class_of (inner octets)))) is
      (judged_same shut told (marks_after_all before) port moment (class_of (inner octets)) (twice told (marks_after_all before) are))

  -- a frame that isn't of the VLAN tells nothing there
  frame_elsewhere : (shut : Bool) (told : List Mark) (port : Port) (moment : ℕ) (class : Class) (own : Option ℕ) → is_vlan vlan own ≡ false → in_vlan vlan (judged_after plan base shut told port moment own class).marks ≡ in_vlan vlan told
  frame_elsewhere true told port moment class own apart = refl
  frame_elsewhere false told port moment class None apart = ap (λ (l : List Mark). in_vlan vlan l) (untold_marks told (guard_of Trusted plan.drop_unknown class))
  frame_elsewhere false told port moment class (Some v) apart = leaves_judged (rules_of plan) (access_of base) v vlan apart port moment told class

  own_is : (own : Option ℕ) → is_vlan vlan own ≡ true → own ≡ Some vlan
  own_is (Some v) is = ap (λ (n : ℕ). Some n) (eqb-true v vlan is)
  own_is None is = absurd (false≢true is)

  frame_marks : (shut : Bool) (told : List Mark) (port : Port) (moment : ℕ) (octets : List ℕ) (before : List Happening) (own : Option ℕ) (b : Bool) → is_vlan vlan own ≡ b → in_vlan vlan told ≡ marks_after_all before → shut ≡ shut_after_all (number_of port) before
      → in_vlan vlan (judged_after plan base shut told port moment own (class_of (inner octets))).marks ≡ marks_after_all (when b (Receives moment port octets) ++ before)
  frame_marks shut told port moment octets before own true here are is =
      ap (λ (o : Option ℕ). in_vlan vlan (judged_after plan base shut told port moment o (class_of (inner octets))).marks) (own_is own here) ∙ (came_is shut told before port moment octets are is).marks
  frame_marks shut told port moment octets before own false elsewhere are is = frame_elsewhere shut told port moment (class_of (inner octets)) own elsewhere ∙ are

  -- why an address isn't fixed to a port of the VLAN, or isn't cleared there, by the addresses of the VLAN

  abbrev static_by : ℕ → Port → List AddressRow → Option Refusal
  static_by a port rows =
      if not (is_some (method_in plan vlan a)) then Some refusals.OffLink
      else if not (may_hold plan rows port a) then Some refusals.PortFull
      else None

  abbrev unless_known : Port → Option Refusal → Option Refusal
  unless_known port rest = if not (has_port plan (number_of port)) then Some refusals.NoSuchPort else rest

  static_is : (rows : ℕ → List AddressRow) (a : ℕ) (port : Port) → access_vlan plan (number_of port) ≡ Some vlan → static_refusal plan rows a port ≡ unless_known port (static_by a port (rows vlan))
  static_is rows a port own = ap (λ (o : Option ℕ). unless_known port (static_refusal_in plan rows a port o)) own

  abbrev clear_by : ℕ → List AddressRow → Option Refusal
  clear_by a rows =
      if not (has_vlan plan vlan) then Some refusals.BadAddress
      else if has_state (state_in rows a) then None
      else Some refusals.NoBinding

  module _ (moment : ℕ) (told other : List Mark) (same : in_vlan vlan told ≡ in_vlan vlan other) where
    rows_are : rows_told plan (access_of base) told moment vlan ≡ rows_told plan (access_of base) other moment vlan
    rows_are = rows_same (rules_of plan) (access_of base) vlan some_port moment told other same

    event_are : (a : ℕ) (event : Ev) → in_vlan vlan (event_told (rules_of plan) (access_of base) vlan moment told a event) ≡ in_vlan vlan (event_told (rules_of plan) (access_of base) vlan moment other a event)
    event_are a event = event_same (rules_of plan) (access_of base) vlan some_port moment told other a event same

    fixed_same : (address : Addr) (port : Port) → access_vlan plan (number_of port) ≡ Some vlan → (refusal : Option Refusal)
        → in_vlan vlan (ordered_unless plan (access_of base) moment (Ok (orders.Static address port)) refusal told) ≡ in_vlan vlan (ordered_unless plan (access_of base) moment (Ok (orders.Static address port)) refusal other)
    fixed_same address port own (Some refusal) = same
    fixed_same address port own None =
        ap (λ (o : Option ℕ). in_vlan vlan (fixed_in plan (access_of base) moment o address.0 port told)) own
        ∙ event_are address.0 (Fix port)
        ∙ sym (ap (λ (o : Option ℕ). in_vlan vlan (fixed_in plan (access_of base) moment o address.0 port other)) own)

    static_same : (address : Addr) (port : Port) → access_vlan plan (number_of port) ≡ Some vlan
        → in_vlan vlan (commanded plan (access_of base) moment (Ok (orders.Static address port)) told) ≡ in_vlan vlan (commanded plan (access_of base) moment (Ok (orders.Static address port)) other)
    static_same address port own =
        let refusal : static_refusal plan (rows_told plan (access_of base) told moment) address.0 port ≡ static_refusal plan (rows_told plan (access_of base) other moment) address.0 port =
        static_is (rows_told plan (access_of base) told moment) address.0 port own
        ∙ ap (λ (rows : List AddressRow). unless_known port (static_by address.0 port rows)) rows_are
        ∙ sym (static_is (rows_told plan (access_of base) other moment) address.0 port own) in
        ap (λ (o : Option Refusal). in_vlan vlan (ordered_unless plan (access_of base) moment (Ok (orders.Static address port)) o told)) refusal
        ∙ fixed_same address port own (static_refusal plan (rows_told plan (access_of base) other moment) address.0 port)

    cleared_same : (address : Addr) (refusal : Option Refusal)
        → in_vlan vlan (ordered_unless plan (access_of base) moment (Ok (orders.Clear vlan address)) refusal told) ≡ in_vlan vlan (ordered_unless plan (access_of base) moment (Ok (orders.Clear vlan address)) refusal other)
    cleared_same address (Some refusal) = same
    cleared_same address None = event_are address.0 Clear

    clear_same : (address : Addr)
        → in_vlan vlan (commanded plan (access_of base) moment (Ok (orders.Clear vlan address)) told) ≡ in_vlan vlan (commanded plan (access_of base) moment (Ok (orders.Clear vlan address)) other)
    clear_same address =
        ap (λ (rows : List AddressRow). in_vlan vlan (ordered_unless plan (access_of base) moment (Ok (orders.Clear vlan address)) (clear_by address.0 rows) told)) rows_are
        ∙ cleared_same address (clear_refusal plan (rows_told plan (access_of base) other moment) vlan address.0)

  -- a command in another VLAN tells nothing in this one

  static_elsewhere : (moment : ℕ) (address : Addr) (port : Port) (told : List Mark) (own : Option ℕ) → access_vlan plan (number_of port) ≡ own → is_vlan vlan own ≡ false → (refusal : Option Refusal)
      → in_vlan vlan (ordered_unless plan (access_of base) moment (Ok (orders.Static address port)) refusal told) ≡ in_vlan vlan told
  static_elsewhere moment address port told own is apart (Some refusal) = refl
  static_elsewhere moment address port told None is apart None = ap (λ (o : Option ℕ). in_vlan vlan (fixed_in plan (access_of base) moment o address.0 port told)) is
  static_elsewhere moment address port told (Some v) is apart None =
      ap (λ (o : Option ℕ). in_vlan vlan (fixed_in plan (access_of base) moment o address.0 port told)) is
      ∙ other_in vlan (Told (named_for (rules_of plan) (access_of base) v moment told address.0 (Fix port))) told apart

  clear_elsewhere : (moment of : ℕ) (address : Addr) (told : List Mark) → (of == vlan) ≡ false → (refusal : Option Refusal)
      → in_vlan vlan (ordered_unless plan (access_of base) moment (Ok (orders.Clear of address)) refusal told) ≡ in_vlan vlan told
  clear_elsewhere moment of address told apart (Some refusal) = refl
  clear_elsewhere moment of address told apart None = other_in vlan (Told (named_for (rules_of plan) (access_of base) of moment told address.0 Clear)) told apart

  static_marks : (moment : ℕ) (address : Addr) (port : Port) (told : List Mark) (before : List Happening) (b : Bool) → is_vlan vlan (access_vlan plan (number_of port)) ≡ b → in_vlan vlan told ≡ marks_after_all before
      → in_vlan vlan (commanded plan (access_of base) moment (Ok (orders.Static address port)) told) ≡ marks_after_all (when b (Fixes moment address port) ++ before)
  static_marks moment address port told before true here are =
      static_same moment told (marks_after_all before) (twice told (marks_after_all before) are) address port (own_is (access_vlan plan (number_of port)) here)
  static_marks moment address port told before false elsewhere are =
      static_elsewhere moment address port told (access_vlan plan (number_of port)) refl elsewhere (static_refusal plan (rows_told plan (access_of base) told moment) address.0 port) ∙ are

  clear_marks : (moment of : ℕ) (address : Addr) (told : List Mark) (before : List Happening) (b : Bool) → (of == vlan) ≡ b → in_vlan vlan told ≡ marks_after_all before
      → in_vlan vlan (commanded plan (access_of base) moment (Ok (orders.Clear of address)) told) ≡ marks_after_all (when b (Clears moment address) ++ before)
  clear_marks moment of address told before true here are =
      subst (λ (v : ℕ). in_vlan vlan (commanded plan (access_of base) moment (Ok (orders.Clear v address)) told) ≡ marks_after_all (Clears moment address ∷ before)) (sym (eqb-true of vlan here))
      (clear_same moment told (marks_after_all before) (twice told (marks_after_all before) are) address)
  clear_marks moment of address told before false elsewhere are =
      clear_elsewhere moment of address told elsewhere (clear_refusal plan (rows_told plan (access_of base) told moment) of address.0) ∙ are

  shut_tells_nothing : (moment : ℕ) (port : Port) (told : List Mark) (refusal : Option Refusal) → ordered_unless plan (access_of base) moment (Ok (orders.Shut port)) refusal told ≡ told
  shut_tells_nothing moment port told (Some refusal) = refl
  shut_tells_nothing moment port told None = refl

  open_tells_nothing : (moment : ℕ) (port : Port) (told : List Mark) (refusal : Option Refusal) → ordered_unless plan (access_of base) moment (Ok (orders.Reopen port)) refusal told ≡ told
  open_tells_nothing moment port told (Some refusal) = refl
  open_tells_nothing moment port told None = refl

  order_marks : (moment : ℕ) (order : Result Command CmdFault) (told : List Mark) (before : List Happening) → in_vlan vlan told ≡ marks_after_all before
      → in_vlan vlan (commanded plan (access_of base) moment order told) ≡ marks_after_all (happens_by vlan plan moment order ++ before)
  order_marks moment (Ok (orders.Static address port)) told before are = static_marks moment address port told before (is_vlan vlan (access_vlan plan (number_of port))) refl are
  order_marks moment (Ok (orders.Clear of address)) told before are = clear_marks moment of address told before (of == vlan) refl are
  order_marks moment (Ok (orders.Shut port)) told before are = ap (λ (l : List Mark). in_vlan vlan l) (shut_tells_nothing moment port told (port_refusal plan port)) ∙ are
  order_marks moment (Ok (orders.Reopen port)) told before are = ap (λ (l : List Mark). in_vlan vlan l) (open_tells_nothing moment port told (port_refusal plan port)) ∙ are
  order_marks moment (Ok orders.ShowBindings) told before are = are
  order_marks moment (Ok orders.ShowPorts) told before are = are
  order_marks moment (Ok orders.ShowCounters) told before are = are
  order_marks moment (Ok orders.ShowStations) told before are = are
  order_marks moment (Ok orders.Quit) told before are = are
  order_marks moment (Err fault) told before are = are

  act_marks : (past : List Row) (r : Row) (act : Act) (told : List Mark) → in_vlan vlan told ≡ marks_after_all (happenings vlan plan past) → in_vlan vlan (marked plan base past r act told) ≡ marks_after_all (happens vlan plan r act ++ happenings vlan plan past)
  act_marks past r (acts.Frame port stamp at len) told are =
      frame_marks (is_shut plan base (number_of port) past) told port r.entry.moment r.octets (happenings vlan plan past) (vlan_of_frame plan (number_of port) r.octets) (is_vlan vlan (vlan_of_frame plan (number_of port) r.octets)) refl are (shut_is (number_of port) past)
  act_marks past r (acts.Command stamp at len) told are = order_marks r.entry.moment (command_of r.octets) told (happenings vlan plan past) are
  act_marks past r (acts.Long port stamp len) told are = are
  act_marks past r (acts.Tick stamp) told are = are
  act_marks past r (acts.Drain port count) told are = are
  act_marks past r (acts.End who how) told are = are

  marks_are : (past : List Row) → in_vlan vlan (marks plan base past) ≡ marks_after_all (happenings vlan plan past)
  marks_are [] = refl
  marks_are (r ∷ past) = act_marks past r r.entry.act (marks plan base past) (marks_are past)

  -- the verdict on a frame of the VLAN
  abbrev verdict_behind : List Happening → ℕ → Port → List ℕ → Verdict
  verdict_behind before moment port octets = (came_to before (marks_after_all before) moment port octets).verdict

  verdict_is : (past : List Row) (port : Port) (stamp : ℕ) (octets : List ℕ) → is_vlan vlan (vlan_of_frame plan (number_of port) octets) ≡ true
      → verdict_of plan base past port stamp octets ≡ verdict_behind (happenings vlan plan past) (moment_at base past stamp) port octets
  verdict_is past port stamp octets here =
      ap (λ (o : Option ℕ). (judged_after plan base (is_shut plan base (number_of port) past) (marks plan base past) port (moment_at base past stamp) o (class_of (inner octets))).verdict) (own_is (vlan_of_frame plan (number_of port) octets) here)
      ∙ (came_is (is_shut plan base (number_of port) past) (marks plan base past) (happenings vlan plan past) port (moment_at base past stamp) octets (marks_are past) (shut_is (number_of port) past)).verdict

  -- stations of the VLAN

  -- those that a frame that passes or doesn't leaves, of those that are live at its moment
  abbrev taught_by : Bool → Port → ℕ → List ℕ → List Station → List Station
  taught_by passes port moment octets live = if passes then taught port moment (ethernet_of (inner octets)) live else live

  abbrev stations_behind : List Happening → Happening → List Station → List Station
  stations_behind before (Receives moment port octets) known = taught_by (is_pass (Some (verdict_behind before moment port octets))) port moment octets (live_at moment known)
  stations_behind before (Fixes moment address port) known = known
  stations_behind before (Clears moment address) known = known
  stations_behind before (Shuts port) known = known
  stations_behind before (Opens port) known = known

  abbrev stations_after_all : List Happening → List Station
  stations_after_all [] = base.stations vlan
  stations_after_all (happening ∷ before) = stations_behind before happening (stations_after_all before)

  when_stations : (b : Bool) (happening : Happening) (before : List Happening) → ((known : List Station) → stations_behind before happening known ≡ known) → stations_after_all (when b happening ++ before) ≡ stations_after_all before
  when_stations true happening before leaves = leaves (stations_after_all before)
  when_stations false happening before leaves = refl

  order_stations : (moment : ℕ) (order : Result Command CmdFault) (before : List Happening) → stations_after_all (happens_by vlan plan moment order ++ before) ≡ stations_after_all before
  order_stations moment (Ok (orders.Static address port)) before = when_stations (is_vlan vlan (access_vlan plan (number_of port))) (Fixes moment address port) before (λ known. refl)
  order_stations moment (Ok (orders.Clear of address)) before = when_stations (of == vlan) (Clears moment address) before (λ known. refl)
  order_stations moment (Ok (orders.Shut port)) before = refl
  order_stations moment (Ok (orders.Reopen port)) before = refl
  order_stations moment (Ok orders.ShowBindings) before = refl
  order_stations moment (Ok orders.ShowPorts) before = refl
  order_stations moment (Ok orders.ShowCounters) before = refl
  order_stations moment (Ok orders.ShowStations) before = refl
  order_stations moment (Ok orders.Quit) before = refl
  order_stations moment (Err fault) before = refl

  -- from its last moment on the stations of a history are those that the happenings leave
  abbrev Known : List Row → Type 0
  Known past = (t : ℕ) → last_moment base past ≤ t → live_at t (stations vlan plan base past) ≡ live_at t (stations_after_all (happenings vlan plan past))

  frame_stations : (past : List Row) (port : Port) (stamp : ℕ) (octets : List ℕ) → Known past → (t : ℕ) → moment_at base past stamp ≤ t → (b : Bool) → is_vlan vlan (vlan_of_frame plan (number_of port) octets) ≡ b
      → live_at t (taught_by (is_pass (Some (verdict_of plan base past port stamp octets)) && b) port (moment_at base past stamp) octets (live_at (moment_at base past stamp) (stations vlan plan base past)))
      ≡ live_at t (stations_after_all (when b (Receives (moment_at base past stamp) port octets) ++ happenings vlan plan past))
  frame_stations past port stamp octets known t later true here =
      let moment : ℕ = moment_at base past stamp in
      let before : List Happening = happenings vlan plan past in
      ap (λ (v : Verdict). live_at t (taught_by (is_pass (Some v) && true) port moment octets (live_at moment (stations vlan plan base past)))) (verdict_is past port stamp octets here)
      ∙ ap (λ (live : List Station). live_at t (taught_by (is_pass (Some (verdict_behind before moment port octets)) && true) port moment octets live)) (known (moment_at base past stamp) (omega arith))
      ∙ ap (λ (p : Bool). live_at t (taught_by p port moment octets (live_at moment (stations_after_all before)))) (and-true (is_pass (Some (verdict_behind before moment port octets))))
  frame_stations past port stamp octets known t later false elsewhere =
      let moment : ℕ = moment_at base past stamp in
      ap (λ (p : Bool). live_at t (taught_by p port moment octets (live_at moment (stations vlan plan base past)))) (and-false (is_pass (Some (verdict_of plan base past port stamp octets))))
      ∙ live_left (moment_at base past stamp) t (stations vlan plan base past) later
      ∙ known t (omega (arith, later))

  event_stations : (past : List Row) (event : Event) → Known past → Known (row_of plan base past event ∷ past)
  event_stations past (Frame port stamp octets) known t later = frame_stations past port stamp octets known t later (is_vlan vlan (vlan_of_frame plan (number_of port) octets)) refl
  event_stations past (Long port stamp len) known t later = live_left (moment_at base past stamp) t (stations vlan plan base past) later ∙ known t (omega (arith, later))
  event_stations past (events.Command stamp line) known t later =
      live_left (moment_at base past stamp) t (stations vlan plan base past) later
      ∙ known t (omega (arith, later))
      ∙ ap (λ (all : List Station). live_at t all) (sym (order_stations (moment_at base past stamp) (command_of line) (happenings vlan plan past)))
  event_stations past (Tick stamp) known t later = live_left (moment_at base past stamp) t (stations vlan plan base past) later ∙ known t (omega (arith, later))
  event_stations past (Drain port count) known t later = live_left (last_moment base past) t (stations vlan plan base past) later ∙ known t later
  event_stations past (End who how) known t later = live_left (last_moment base past) t (stations vlan plan base past) later ∙ known t later

  stations_are : (past : List Row) → IsLegal plan base past → Known past
  stations_are [] legal = λ t later. refl
  stations_are (r ∷ past) legal = subst (λ (x : Row). Known (x ∷ past)) (sym legal.0.2) (event_stations past legal.0.0 (stations_are past legal.1))

  -- what becomes of the frames of the VLAN

  abbrev outs_behind : List Happening → ℕ → Port → List ℕ → PortSet
  outs_behind before moment port octets =
      set_of (filter (λ q. is_member (outs_by vlan plan (number_of port) (port_among (live_at moment (stations_after_all before)) (ethernet_of (inner octets))) (verdict_behind before moment port octets)) q && not (shut_after_all q before)) (numbers_of plan.ports))

  abbrev Answers : Type 0
  Answers = List (Option Verdict × PortSet)

  abbrev with_answer : Verdict → PortSet → Answers → Answers
  with_answer verdict out rest = (Some verdict, out) ∷ rest

  abbrev answers_behind : List Happening → Happening → Answers → Answers
  answers_behind before (Receives moment port octets) rest = with_answer (verdict_behind before moment port octets) (outs_behind before moment port octets) rest
  answers_behind before (Fixes moment address port) rest = rest
  answers_behind before (Clears moment address) rest = rest
  answers_behind before (Shuts port) rest = rest
  answers_behind before (Opens port) rest = rest

  abbrev answers_after_all : List Happening → Answers
  answers_after_all [] = []
  answers_after_all (happening ∷ before) = answers_behind before happening (answers_after_all before)

  outs_are : (past : List Row) (port : Port) (stamp : ℕ) (octets : List ℕ) → Known past → is_vlan vlan (vlan_of_frame plan (number_of port) octets) ≡ true
      → outs_of plan base past port stamp octets ≡ outs_behind (happenings vlan plan past) (moment_at base past stamp) port octets
  outs_are past port stamp octets known here =
      let moment : ℕ = moment_at base past stamp in
      let before : List Happening = happenings vlan plan past in
      let verdict : Verdict = verdict_behind (happenings vlan plan past) (moment_at base past stamp) port octets in
      let set : PortSet = outs_by vlan plan (number_of port) (port_among (live_at (moment_at base past stamp) (stations_after_all (happenings vlan plan past))) (ethernet_of (inner octets))) (verdict_behind (happenings vlan plan past) (moment_at base past stamp) port octets) in
      ap (λ (v : Verdict). outs (vlan_of_frame plan (number_of port) octets) plan base past (number_of port) moment octets v) (verdict_is past port stamp octets here)
      ∙ ap (λ (o : Option ℕ). outs o plan base past (number_of port) moment octets verdict) (own_is (vlan_of_frame plan (number_of port) octets) here)
      ∙ ap (λ (live : List Station). without_shut plan base past (outs_by vlan plan (number_of port) (port_among live (ethernet_of (inner octets))) verdict)) (known (moment_at base past stamp) (omega arith))
      ∙ ap set_of
      (filter_agree (λ q. is_member set q && not (is_shut plan base q past)) (λ q. is_member set q && not (shut_after_all q before))
      (λ q. ap (λ (b : Bool). is_member set q && not b) (shut_is q past)) (numbers_of plan.ports))

  -- the answer to a frame that is of the VLAN or isn't
  abbrev answered_by : Bool → Verdict → PortSet → Answers
  answered_by own verdict out = if own then (Some verdict, out) ∷ [] else []

  frame_answers : (past : List Row) (port : Port) (stamp : ℕ) (octets : List ℕ) → Known past → answers_in vlan plan past ≡ answers_after_all (happenings vlan plan past) → (b : Bool) → is_vlan vlan (vlan_of_frame plan (number_of port) octets) ≡ b
      → answered_by b (verdict_of plan base past port stamp octets) (outs_of plan base past port stamp octets) ++ answers_in vlan plan past
      ≡ answers_after_all (when b (Receives (moment_at base past stamp) port octets) ++ happenings vlan plan past)
  frame_answers past port stamp octets known are true here =
      let verdict : Verdict = verdict_behind (happenings vlan plan past) (moment_at base past stamp) port octets in
      ap (λ (v : Verdict). with_answer v (outs_of plan base past port stamp octets) (answers_in vlan plan past)) (verdict_is past port stamp octets here)
      ∙ ap (λ (out : PortSet). with_answer verdict out (answers_in vlan plan past)) (outs_are past port stamp octets known here)
      ∙ ap (λ (rest : Answers). with_answer verdict (outs_behind (happenings vlan plan past) (moment_at base past stamp) port octets) rest) are
  frame_answers past port stamp octets known are false elsewhere = are

  when_answers : (b : Bool) (happening : Happening) (before : List Happening) → ((rest : Answers) → answers_behind before happening rest ≡ rest) → answers_after_all (when b happening ++ before) ≡ answers_after_all before
  when_answers true happening before leaves = leaves (answers_after_all before)
  when_answers false happening before leaves = refl

  order_answers : (moment : ℕ) (order : Result Command CmdFault) (before : List Happening) → answers_after_all (happens_by vlan plan moment order ++ before) ≡ answers_after_all before
  order_answers moment (Ok (orders.Static address port)) before = when_answers (is_vlan vlan (access_vlan plan (number_of port))) (Fixes moment address port) before (λ rest. refl)
  order_answers moment (Ok (orders.Clear of address)) before = when_answers (of == vlan) (Clears moment address) before (λ rest. refl)
  order_answers moment (Ok (orders.Shut port)) before = refl
  order_answers moment (Ok (orders.Reopen port)) before = refl
  order_answers moment (Ok orders.ShowBindings) before = refl
  order_answers moment (Ok orders.ShowPorts) before = refl
  order_answers moment (Ok orders.ShowCounters) before = refl
  order_answers moment (Ok orders.ShowStations) before = refl
  order_answers moment (Ok orders.Quit) before = refl
  order_answers moment (Err fault) before = refl

  event_answers : (past : List Row) (event : Event) → Known past → answers_in vlan plan past ≡ answers_after_all (happenings vlan plan past)
      → answers_in vlan plan (row_of plan base past event ∷ past) ≡ answers_after_all (happenings vlan plan (row_of plan base past event ∷ past))
  event_answers past (Frame port stamp octets) known are = frame_answers past port stamp octets known are (is_vlan vlan (vlan_of_frame plan (number_of port) octets)) refl
  event_answers past (events.Command stamp line) known are = are ∙ sym (order_answers (moment_at base past stamp) (command_of line) (happenings vlan plan past))
  event_answers past (Long port stamp len) known are = are
  event_answers past (Tick stamp) known are = are
  event_answers past (Drain port count) known are = are
  event_answers past (End who how) known are = are

  answers_are : (past : List Row) → IsLegal plan base past → answers_in vlan plan past ≡ answers_after_all (happenings vlan plan past)
  answers_are [] legal = refl
  answers_are (r ∷ past) legal =
      subst (λ (x : Row). answers_in vlan plan (x ∷ past) ≡ answers_after_all (happenings vlan plan (x ∷ past))) (sym legal.0.2)
      (event_answers past legal.0.0 (stations_are past legal.1) (answers_are past legal.1))

  -- two histories in which the same happens come to the same
  pub same_in_vlan : (past other : List Row) → IsLegal plan base past → IsLegal plan base other → happenings vlan plan past ≡ happenings vlan plan other → IsSameInVlan vlan plan base past other
  same_in_vlan past other legal other_legal same =
      let told_same : in_vlan vlan (marks plan base past) ≡ in_vlan vlan (marks plan base other) =
      marks_are past ∙ ap (λ (all : List Happening). marks_after_all all) same ∙ sym (marks_are other) in
      record {
        states = λ t a later other_later. ap (λ (s : AddrState). (aged_state (rules_of plan).addresses.times t s).state) (state_same (rules_of plan) (access_of base) vlan some_port t (marks plan base past) (marks plan base other) a told_same);
        requests = λ t later other_later. open_same (rules_of plan) (access_of base) vlan some_port t (marks plan base past) (marks plan base other) told_same;
        stations = λ t later other_later.
            stations_are past legal t later
            ∙ ap (λ (all : List Happening). live_at t (stations_after_all all)) same
            ∙ sym (stations_are other other_legal t other_later);
        answers = answers_are past legal ∙ ap (λ (all : List Happening). answers_after_all all) same ∙ sym (answers_are other other_legal);
      }
