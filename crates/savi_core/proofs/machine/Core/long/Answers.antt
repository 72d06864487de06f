use Rattle.std.proofs.Common.{ℕ, Bool, ◌≡◌, ◌^◌, min, max, [], reverse, Some, refl, sym, subst, ap, ◌∙◌, arith}
use Rattle.std.proofs.lemmas.List.{with_items_is}
use Rattle.savi_kinds.specs.declared.plan.Plan.{Plan}
use Rattle.savi_kinds.specs.Vlans.{vlans_of}
use Rattle.savi_kinds.specs.declared.entry.Entry.{Entry}
use Rattle.savi_kinds.specs.declared.entry.Act.TheVariants as acts
use Rattle.savi_kinds.specs.declared.port.PortSet.{PortSet}
use Rattle.savi_kinds.specs.Ports.{number_of}
use Rattle.savi_access.specs.Plans.{rules_of}
use Rattle.checkpoint.specs.Columns.{kept_base as base_kept}
use Rattle.checkpoint.specs.Bases.{access_of}
use Rattle.savi_history.specs.Moments.{moment_at}
use Rattle.savi_history.specs.Marks.{marks}
use Rattle.savi_history.specs.Events as events
use Rattle.savi_history.specs.Legal.{MayCome}
use Rattle.savi_history.specs.Judged.{long_by, judged_long}
use Rattle.savi_core.specs.Rings.{shut_in}
use Rattle.savi_core.proofs.Shutting.{shut_aged, shut_as}
use Rattle.savi_core.proofs.Refusing.{no_refusal}
use Rattle.savi_core.proofs.Tallying.{counted_too}
use Rattle.savi_core.proofs.Over.{ends_still}
use Rattle.savi_core.specs.Machines.{Machine, base_of}
use Rattle.savi_core.specs.Judges.{Ages}
use Rattle.savi_core.specs.VlanSets.{AreAgedTo, vlans_of_sets}
use Rattle.savi_core.specs.Steps.{entry_of}
use Rattle.savi_core.proofs.FrameEntries.{long_entry_is}
use Rattle.savi_core.proofs.Together.{all_long, all_ready, lent_too, of_plan}
use Rattle.savi_core.proofs.Telling.{long_offers}
use Rattle.savi_core.proofs.AgedAndJudged.{early_now, aged_here, states_aged, shows_aged, counts_aged}
use Rattle.savi_core.proofs.Stepping.{row, may_long, remembers_long, stepped_view}
use Rattle.savi_core.proofs.machine.Core.long.Goals as goal

moment_is : (c : goal.After-append) → c.moment_at-moment.result ≡ moment_at (base_kept c.self.inside.checkpoint) (reverse c.self.inside.hist.rows) c.args.stamp
moment_is c = c.moment_at-moment.ensures ∙ ap (λ n. max n (min c.args.stamp (2 ^ 62))) c.self.invariant.0.last

pub age-requires-clause-moment : goal.age-requires-clause-moment
age-requires-clause-moment c = early_now c.self.invariant.0 c.args.stamp c.moment_at-moment.result (c.moment_at-moment.ensures ∙ ap (λ n. max n (min c.args.stamp (2 ^ 62))) c.self.invariant.0.last)

pub age-requires-clause-ready : goal.age-requires-clause-ready
age-requires-clause-ready c = subst (λ (p : Plan). AreAgedTo (rules_of p) c.self.inside.moment c.as_mut_slice-sets.result.now) (sym c.plan.ensures.plan) (all_ready c.self.inside.ports (base_kept c.self.inside.checkpoint) (reverse c.self.inside.hist.rows) c.self.inside.moment c.as_mut_slice-sets.result.now (lent_too c.as_mut_slice-sets.ensures.value c.self.invariant.4))

-- they are those of the plan's VLANs
in_plan : (c : goal.After-append) → vlans_of_sets c.age.new.sets ≡ vlans_of c.self.inside.ports
in_plan c = of_plan c.self.invariant.0 c.as_mut_slice-sets.result.now (lent_too c.as_mut_slice-sets.ensures.value c.self.invariant.4) c.age.new.sets c.age.ensures.rest

ages : (c : goal.After-append) → Ages (rules_of c.self.inside.ports) c.self.inside.moment c.moment_at-moment.result c.age.new.sets c.self.inside.queues c.age.new.queues (access_of (base_kept c.self.inside.checkpoint)) (marks c.self.inside.ports (base_kept c.self.inside.checkpoint) (reverse c.self.inside.hist.rows))
ages c =
    let inside = c.self.inside in
    aged_here c.self.invariant.0 c.as_mut_slice-sets.result.now (lent_too c.as_mut_slice-sets.ensures.value c.self.invariant.4) c.plan.result.now c.plan.ensures.plan c.moment_at-moment.result (omega (arith, c.moment_at-moment.ensures)) c.age.new.sets inside.queues c.age.new.queues c.age.ensures.aged

ready : (c : goal.After-append) → AreAgedTo (rules_of c.self.inside.ports) (moment_at (base_kept c.self.inside.checkpoint) (reverse c.self.inside.hist.rows) c.args.stamp) c.age.new.sets
ready c =
    subst (λ (t : ℕ). AreAgedTo (rules_of c.self.inside.ports) t c.age.new.sets) (moment_is c)
    (subst (λ (p : Plan). AreAgedTo (rules_of p) c.moment_at-moment.result c.age.new.sets) c.plan.ensures.plan c.age.ensures.ready)

abbrev inner : (c : goal.After-append) → Machine
inner c = record { plan = c.self.inside.ports; checkpoint = c.self.inside.checkpoint; past = reverse c.self.inside.hist.rows }

abbrev stored : (c : goal.After-append) → Entry
stored c = record c.plain_entry.result { verdict = Some c.judge_long.result; probes = c.queued.result; lost = c.lost.result }

-- the ports that are shut stay so
still_shut : (c : goal.After-append) → c.age.new.queues.shut ≡ c.self.inside.queues.shut
still_shut c = shut_aged _ _ _ _ c.self.inside.queues c.age.new.queues _ _ (ages c)

verdict_is : (c : goal.After-append) → c.judge_long.result ≡ judged_long c.self.inside.ports (base_kept c.self.inside.checkpoint) (reverse c.self.inside.hist.rows) c.args.port
verdict_is c =
    c.judge_long.ensures
    ∙ ap (λ (set : PortSet). long_by (shut_in set (number_of c.args.port))) (still_shut c)
    ∙ ap (λ (shut : ℕ → Bool). long_by (shut (number_of c.args.port))) c.self.invariant.0.shut_ports

-- the entry is that of the row, by what the core keeps
inner_is : (c : goal.After-append) → stored c ≡ entry_of (inner c) (events.Long c.args.port c.args.stamp c.args.len)
inner_is c =
    let inside = c.self.inside in
    let counts = counts_aged c.self.invariant.0 c.as_mut_slice-sets.result.now (lent_too c.as_mut_slice-sets.ensures.value c.self.invariant.4) c.age.new.sets (in_plan c) inside.queues c.age.new.queues refl refl c.moment_at-moment.result c.args.stamp (moment_is c) (ages c) (acts.Long c.args.port c.args.stamp c.args.len) [] (long_offers inside.ports (base_kept c.self.inside.checkpoint) (reverse inside.hist.rows) c.args.port c.args.stamp c.args.len []) in
    ap (λ (e : Entry). record e { verdict = Some c.judge_long.result; probes = c.queued.result; lost = c.lost.result }) c.plain_entry.ensures
    ∙ long_entry_is (inner c) c.args.port c.args.stamp c.args.len c.pass_of-by.result c.moment_at-moment.result c.judge_long.result c.queued.result c.lost.result
    c.pass_of-by.ensures (moment_is c) (verdict_is c) (c.queued.ensures ∙ counts.0) (c.lost.ensures ∙ counts.1)

stored_is : (c : goal.After-append) → stored c ≡ entry_of c.args.self.now (events.Long c.args.port c.args.stamp c.args.len)
stored_is c = inner_is c ∙ ap (λ (m : Machine). entry_of m (events.Long c.args.port c.args.stamp c.args.len)) c.self.view_is

pub invariant_of-self : goal.invariant_of-self
invariant_of-self c =
    let inside = c.self.inside in
    let event = events.Long c.args.port c.args.stamp c.args.len in
    let may = subst (λ (m : Machine). MayCome m.plan (base_of m) m.past event) (sym c.self.view_is) (may_long c.args.self.now c.args.port c.args.stamp c.args.len c.requires (sym c.has_room.ensures ∙ c.if-not-has_room.false) c.ranges.stamp.fits c.ranges.len.fits) in
    let shows = shows_aged c.self.invariant.0 c.as_mut_slice-sets.result.now (lent_too c.as_mut_slice-sets.ensures.value c.self.invariant.4) c.age.new.sets (in_plan c) inside.queues c.age.new.queues refl refl c.moment_at-moment.result c.args.stamp (moment_is c) (ages c) (acts.Long c.args.port c.args.stamp c.args.len) [] (long_offers inside.ports (base_kept c.self.inside.checkpoint) (reverse inside.hist.rows) c.args.port c.args.stamp c.args.len []) in
    let states = states_aged c.self.invariant.0 c.as_mut_slice-sets.result.now (lent_too c.as_mut_slice-sets.ensures.value c.self.invariant.4) c.age.new.sets (in_plan c) inside.queues c.age.new.queues refl refl c.moment_at-moment.result c.args.stamp (moment_is c) (ages c) in
    rw c.append.ensures (
      shut_as (sym (still_shut c)) (remembers_long c.self.invariant.0 c.args.port c.args.stamp c.args.len (stored c) c.age.new.queues.lanes may (inner_is c) shows),
      c.self.invariant.1,
      c.self.invariant.2,
      c.self.invariant.3,
      lent_too (with_items_is inside.sets c.age.new.sets (omega arith)) (all_long c.self.invariant.0 c.as_mut_slice-sets.result.now (lent_too c.as_mut_slice-sets.ensures.value c.self.invariant.4) c.age.new.sets c.age.ensures.rest c.args.stamp (ready c) c.args.port c.args.len (stored c) (inner_is c) states),
      no_refusal c.self.invariant.0 event (stored c) [] inside.refused (inner_is c) tt,
      counted_too c.self.invariant.0 inside.tally c.add.new.self (stored c) [] c.self.invariant.6 c.add.ensures,
      ends_still c.self.invariant.0 inside.ends c.self.invariant.7 event (stored c) [] (inner_is c) tt,
      c.self.invariant.8,
      c.self.invariant.9,
    )

pub returns : goal.returns
returns c =
    let inside = c.self.inside in (
      sym c.has_room.ensures ∙ c.if-not-has_room.false,
      tt,
      rw c.append.ensures (stepped_view inside.ports c.self.inside.checkpoint inside.hist.rows (stored c) [] (events.Long c.args.port c.args.stamp c.args.len) c.args.self.now c.self.view_is (ap (λ (x : Entry). row x []) (inner_is c))),
      stored_is c,
    )
