use Rattle.std.proofs.Common.{ℕ, ◌≡◌, ◌^◌, min, max, List, length, reverse, refl, sym, subst, ap, ◌∙◌, arith}
use Rattle.std.proofs.lemmas.List.{with_items_is}
use Rattle.savi_kinds.specs.declared.plan.Plan.{Plan}
use Rattle.savi_kinds.specs.Vlans.{vlans_of}
use Rattle.savi_kinds.specs.declared.port.PortSet.{PortSet}
use Rattle.savi_kinds.specs.declared.entry.Entry.{Entry}
use Rattle.savi_kinds.specs.declared.entry.Act.{Act}
use Rattle.cli_lang.specs.CommandOf.{command_of}
use Rattle.savi_access.specs.Plans.{rules_of}
use Rattle.hist_store.specs.Rows.{held}
use Rattle.checkpoint.specs.Columns.{kept_base as base_kept}
use Rattle.checkpoint.specs.Bases.{access_of}
use Rattle.savi_history.specs.Moments.{moment_at}
use Rattle.savi_history.specs.Marks.{marks}
use Rattle.savi_history.specs.Events as events
use Rattle.savi_history.specs.Legal.{MayCome}
use Rattle.std.proofs.Math.Path.{fun_ext}
use Rattle.egress_ring.specs.declared.item.Item.{Item as Queued}
use Rattle.savi_history.specs.ShutPorts.{shut_by}
use Rattle.savi_history.specs.Commands.{rows_told, refusal_of, commanded}
use Rattle.savi_core.specs.Rings.{Rings, shut_in}
use Rattle.savi_core.specs.Lanes.{Lane}
use Rattle.savi_core.specs.Waits.{Show}
use Rattle.savi_core.proofs.Lanes.{probed_lane}
use Rattle.savi_core.specs.Machines.{Machine, base_of}
use Rattle.savi_core.specs.Judges.{Ages}
use Rattle.savi_core.specs.VlanSets.{AllRepresent, AreAgedTo, stations_of_sets, vlans_of_sets}
use Rattle.savi_core.specs.Obeys.{Obeys}
use Rattle.savi_core.specs.Steps.{entry_of}
use Rattle.savi_core.proofs.FrameEntries.{command_entry_is}
use Rattle.savi_core.proofs.Telling.{command_offers}
use Rattle.savi_core.proofs.Together.{all_command, all_ready, lent_too, of_plan}
use Rattle.savi_core.proofs.AgedAndJudged.{early_now, aged_here, shows_aged, counts_aged}
use Rattle.savi_core.proofs.Remembering.{room_for, held-reverse}
use Rattle.savi_core.proofs.Stepping.{row, may_command, remembers_command, stepped_view}
use Rattle.savi_core.proofs.Shutting.{shut_aged}
use Rattle.savi_core.proofs.Refusing.{is_refusal}
use Rattle.savi_core.proofs.Tallying.{counted_too}
use Rattle.savi_core.proofs.Over.{ends_still}
use Rattle.savi_core.proofs.machine.Core.command.Goals.{After-append}
use Rattle.savi_core.proofs.machine.Core.command.Goals as goal

moment_is : (c : After-append) → c.moment_at-moment.result ≡ moment_at (base_kept c.self.inside.checkpoint) (reverse c.self.inside.hist.rows) c.args.stamp
moment_is c = c.moment_at-moment.ensures ∙ ap (λ n. max n (min c.args.stamp (2 ^ 62))) c.self.invariant.0.last

pub age-requires-clause-moment : goal.age-requires-clause-moment
age-requires-clause-moment c = early_now c.self.invariant.0 c.args.stamp c.moment_at-moment.result (c.moment_at-moment.ensures ∙ ap (λ n. max n (min c.args.stamp (2 ^ 62))) c.self.invariant.0.last)

pub age-requires-clause-ready : goal.age-requires-clause-ready
age-requires-clause-ready c = subst (λ (p : Plan). AreAgedTo (rules_of p) c.self.inside.moment c.as_mut_slice-sets.result.now) (sym c.plan.ensures.plan) (all_ready c.self.inside.ports (base_kept c.self.inside.checkpoint) (reverse c.self.inside.hist.rows) c.self.inside.moment c.as_mut_slice-sets.result.now (lent_too c.as_mut_slice-sets.ensures.value c.self.invariant.4))

pub obey-self-inside-requires-clause-moment : goal.obey-self-inside-requires-clause-moment
obey-self-inside-requires-clause-moment c = early_now c.self.invariant.0 c.args.stamp c.moment_at-moment.result (c.moment_at-moment.ensures ∙ ap (λ n. max n (min c.args.stamp (2 ^ 62))) c.self.invariant.0.last)

pub obey-self-inside-requires-clause-vlans : goal.obey-self-inside-requires-clause-vlans
obey-self-inside-requires-clause-vlans c = of_plan c.self.invariant.0 c.as_mut_slice-sets.result.now (lent_too c.as_mut_slice-sets.ensures.value c.self.invariant.4) c.age.new.sets c.age.ensures.rest

pub obey-self-inside-requires-clause-ready : goal.obey-self-inside-requires-clause-ready
obey-self-inside-requires-clause-ready c = subst (λ (p : Plan). AreAgedTo (rules_of p) c.moment_at-moment.result c.age.new.sets) c.plan.ensures.plan c.age.ensures.ready

-- the sets are those of the plan's VLANs, and of each the same stations are known
in_plan : (c : After-append) → vlans_of_sets c.age.new.sets ≡ vlans_of c.self.inside.ports
in_plan c = of_plan c.self.invariant.0 c.as_mut_slice-sets.result.now (lent_too c.as_mut_slice-sets.ensures.value c.self.invariant.4) c.age.new.sets c.age.ensures.rest

stations_still : (c : After-append) → stations_of_sets c.obey-self-inside.new.sets ≡ stations_of_sets c.as_mut_slice-sets.result.now
stations_still c = c.obey-self-inside.ensures.stations ∙ c.age.ensures.rest

ages : (c : After-append) → Ages (rules_of c.self.inside.ports) c.self.inside.moment c.moment_at-moment.result c.age.new.sets c.self.inside.queues c.age.new.queues (access_of (base_kept c.self.inside.checkpoint)) (marks c.self.inside.ports (base_kept c.self.inside.checkpoint) (reverse c.self.inside.hist.rows))
ages c =
    let inside = c.self.inside in
    aged_here c.self.invariant.0 c.as_mut_slice-sets.result.now (lent_too c.as_mut_slice-sets.ensures.value c.self.invariant.4) c.plan.result.now c.plan.ensures.plan c.moment_at-moment.result (omega (arith, c.moment_at-moment.ensures)) c.age.new.sets inside.queues c.age.new.queues c.age.ensures.aged

abbrev inner : (c : After-append) → Machine
inner c = record { plan = c.self.inside.ports; checkpoint = c.self.inside.checkpoint; past = reverse c.self.inside.hist.rows }

abbrev line_act : (c : After-append) → Act
line_act c = events.command_act (reverse c.self.inside.hist.rows) c.args.stamp c.args.line.now

abbrev stored : (c : After-append) → Entry
stored c = record c.plain_entry.result { probes = c.queued.result; lost = c.lost.result }

at_is : (c : After-append) → c.held.result ≡ held (reverse c.self.inside.hist.rows)
at_is c = c.held.ensures ∙ sym (held-reverse c.self.inside.hist.rows)

-- the entry is that of the row, by what the core keeps
inner_is : (c : After-append) → stored c ≡ entry_of (inner c) (events.Command c.args.stamp c.args.line.now)
inner_is c =
    let inside = c.self.inside in
    let counts = counts_aged c.self.invariant.0 c.as_mut_slice-sets.result.now (lent_too c.as_mut_slice-sets.ensures.value c.self.invariant.4) c.age.new.sets (in_plan c) inside.queues c.age.new.queues refl refl c.moment_at-moment.result c.args.stamp (moment_is c) (ages c) (line_act c) c.args.line.now (command_offers c.self.inside.ports (base_kept c.self.inside.checkpoint) (reverse c.self.inside.hist.rows) c.args.stamp (held (reverse c.self.inside.hist.rows)) (length c.args.line.now) c.args.line.now) in
    ap (λ (e : Entry). record e { probes = c.queued.result; lost = c.lost.result }) c.plain_entry.ensures
    ∙ command_entry_is (inner c) c.args.stamp c.args.line.now c.pass_of-by.result c.moment_at-moment.result c.held.result c.queued.result c.lost.result
    c.pass_of-by.ensures (moment_is c) (at_is c) (c.queued.ensures ∙ counts.0) (c.lost.ensures ∙ counts.1)

stored_is : (c : After-append) → stored c ≡ entry_of c.args.self.now (events.Command c.args.stamp c.args.line.now)
stored_is c = inner_is c ∙ ap (λ (m : Machine). entry_of m (events.Command c.args.stamp c.args.line.now)) c.self.view_is

may : (c : After-append) → MayCome c.self.inside.ports (base_kept c.self.inside.checkpoint) (reverse c.self.inside.hist.rows) (events.Command c.args.stamp c.args.line.now)
may c =
    let event = events.Command c.args.stamp c.args.line.now in
    subst (λ (m : Machine). MayCome m.plan (base_of m) m.past event) (sym c.self.view_is) (may_command c.args.self.now c.args.stamp c.args.line.now c.requires (sym c.has_room.ensures ∙ c.if-not-has_room.false) c.ranges.stamp.fits)

-- what becomes of the line
obeyed : (c : After-append) → Obeys c.self.inside.ports c.moment_at-moment.result (command_of c.args.line.now) c.obey-self-inside.new.sets c.age.new.queues c.obey-self-inside.new.queues c.obey-self-inside.result (access_of (base_kept c.self.inside.checkpoint)) (marks c.self.inside.ports (base_kept c.self.inside.checkpoint) (reverse c.self.inside.hist.rows))
obeyed c = c.obey-self-inside.ensures.obeyed (access_of (base_kept c.self.inside.checkpoint)) (marks c.self.inside.ports (base_kept c.self.inside.checkpoint) (reverse c.self.inside.hist.rows)) (ages c).states

states : (c : After-append) → AllRepresent (rules_of c.self.inside.ports) (access_of (base_kept c.self.inside.checkpoint)) (commanded c.self.inside.ports (access_of (base_kept c.self.inside.checkpoint)) (moment_at (base_kept c.self.inside.checkpoint) (reverse c.self.inside.hist.rows) c.args.stamp) (command_of c.args.line.now) (marks c.self.inside.ports (base_kept c.self.inside.checkpoint) (reverse c.self.inside.hist.rows))) (moment_at (base_kept c.self.inside.checkpoint) (reverse c.self.inside.hist.rows) c.args.stamp) c.obey-self-inside.new.sets
states c =
    subst (λ (t : ℕ). AllRepresent (rules_of c.self.inside.ports) (access_of (base_kept c.self.inside.checkpoint)) (commanded c.self.inside.ports (access_of (base_kept c.self.inside.checkpoint)) t (command_of c.args.line.now) (marks c.self.inside.ports (base_kept c.self.inside.checkpoint) (reverse c.self.inside.hist.rows))) t c.obey-self-inside.new.sets) (moment_is c) (obeyed c).states

ready : (c : After-append) → AreAgedTo (rules_of c.self.inside.ports) (moment_at (base_kept c.self.inside.checkpoint) (reverse c.self.inside.hist.rows) c.args.stamp) c.obey-self-inside.new.sets
ready c = subst (λ (t : ℕ). AreAgedTo (rules_of c.self.inside.ports) t c.obey-self-inside.new.sets) (moment_is c) c.obey-self-inside.ensures.ready

refusal_is : (c : After-append) → c.obey-self-inside.result ≡ refusal_of c.self.inside.ports (rows_told c.self.inside.ports (access_of (base_kept c.self.inside.checkpoint)) (marks c.self.inside.ports (base_kept c.self.inside.checkpoint) (reverse c.self.inside.hist.rows)) (moment_at (base_kept c.self.inside.checkpoint) (reverse c.self.inside.hist.rows) c.args.stamp)) (command_of c.args.line.now)
refusal_is c =
    (obeyed c).refusal
    ∙ ap (λ (t : ℕ). refusal_of c.self.inside.ports (rows_told c.self.inside.ports (access_of (base_kept c.self.inside.checkpoint)) (marks c.self.inside.ports (base_kept c.self.inside.checkpoint) (reverse c.self.inside.hist.rows)) t) (command_of c.args.line.now)) (moment_is c)

still_shut : (c : After-append) → c.age.new.queues.shut ≡ c.self.inside.queues.shut
still_shut c = shut_aged _ _ _ _ c.self.inside.queues c.age.new.queues _ _ (ages c)

shut_is : (c : After-append) → shut_in c.obey-self-inside.new.queues.shut ≡ (λ number. shut_by c.self.inside.ports number (command_of c.args.line.now) (shut_in c.self.inside.queues.shut number))
shut_is c = (obeyed c).shut ∙ fun_ext (λ number. ap (λ (set : PortSet). shut_by c.self.inside.ports number (command_of c.args.line.now) (shut_in set number)) (still_shut c))

pub append-requires-clause-bytes : goal.append-requires-clause-bytes
append-requires-clause-bytes c =
    let event = events.Command c.args.stamp c.args.line.now in
    let may_come = subst (λ (m : Machine). MayCome m.plan (base_of m) m.past event) (sym c.self.view_is) (may_command c.args.self.now c.args.stamp c.args.line.now c.requires (sym c.has_room.ensures ∙ c.if-not-has_room.false) c.ranges.stamp.fits) in
    omega (arith, (room_for c.self.invariant.0 may_come.0.room).1, may_come.1, c.self.invariant.2)

pub invariant_of-self : goal.invariant_of-self
invariant_of-self c =
    let inside = c.self.inside in
    let line = c.args.line.now in
    let shows = shows_aged c.self.invariant.0 c.as_mut_slice-sets.result.now (lent_too c.as_mut_slice-sets.ensures.value c.self.invariant.4) c.age.new.sets (in_plan c) inside.queues c.age.new.queues refl refl c.moment_at-moment.result c.args.stamp (moment_is c) (ages c) (line_act c) line (command_offers c.self.inside.ports (base_kept c.self.inside.checkpoint) (reverse c.self.inside.hist.rows) c.args.stamp (held (reverse c.self.inside.hist.rows)) (length c.args.line.now) c.args.line.now) in
    let shows_then : Show c.self.inside.ports c.self.inside.hist.rows c.obey-self-inside.new.queues.lanes (probed_lane c.self.inside.ports (base_kept c.self.inside.checkpoint) (reverse c.self.inside.hist.rows) (line_act c) c.args.line.now) =
    subst (λ (lanes : List (Lane Queued)). Show c.self.inside.ports c.self.inside.hist.rows lanes (probed_lane c.self.inside.ports (base_kept c.self.inside.checkpoint) (reverse c.self.inside.hist.rows) (line_act c) c.args.line.now)) (sym (ap (λ (r : Rings). r.lanes) (obeyed c).rest)) shows in
    rw c.append.ensures (
      remembers_command c.self.invariant.0 c.args.stamp line (stored c) c.obey-self-inside.new.queues.shut c.obey-self-inside.new.queues.lanes (may c) (inner_is c) (shut_is c) shows_then,
      c.self.invariant.1,
      c.self.invariant.2,
      c.self.invariant.3,
      lent_too (with_items_is inside.sets c.obey-self-inside.new.sets (omega arith)) (all_command c.self.invariant.0 c.as_mut_slice-sets.result.now (lent_too c.as_mut_slice-sets.ensures.value c.self.invariant.4) c.obey-self-inside.new.sets (stations_still c) c.args.stamp (ready c) line (stored c) (inner_is c) (states c)),
      is_refusal c.self.invariant.0 c.args.stamp line (stored c) c.obey-self-inside.result (inner_is c) (refusal_is c),
      counted_too c.self.invariant.0 inside.tally c.add.new.self (stored c) line c.self.invariant.6 c.add.ensures,
      ends_still c.self.invariant.0 inside.ends c.self.invariant.7 (events.Command c.args.stamp line) (stored c) line (inner_is c) tt,
      c.self.invariant.8,
      c.self.invariant.9,
    )

pub returns : goal.returns
returns c =
    let inside = c.self.inside in (
      sym c.has_room.ensures ∙ c.if-not-has_room.false,
      tt,
      rw c.append.ensures (stepped_view inside.ports c.self.inside.checkpoint inside.hist.rows (stored c) c.args.line.now (events.Command c.args.stamp c.args.line.now) c.args.self.now c.self.view_is (ap (λ (x : Entry). row x c.args.line.now) (inner_is c))),
      stored_is c,
    )
