use Rattle.std.proofs.Common.{ℕ, ◌≡◌, ◌≤◌, ◌^◌, min, max, false, List, [], reverse, refl, sym, subst, ap, ◌∙◌, arith}
use Rattle.std.proofs.lemmas.List.{with_items_is}
use Rattle.savi_kinds.specs.declared.plan.Plan.{Plan}
use Rattle.savi_kinds.specs.Vlans.{vlans_of}
use Rattle.savi_kinds.specs.declared.entry.Entry.{Entry}
use Rattle.savi_kinds.specs.declared.entry.Act.TheVariants as acts
use Rattle.savi_access.specs.Plans.{rules_of}
use Rattle.checkpoint.specs.Columns.{kept_base as base_kept}
use Rattle.checkpoint.specs.Bases.{access_of}
use Rattle.savi_history.specs.Moments.{last_moment, moment_at}
use Rattle.savi_history.specs.Marks.{marks}
use Rattle.savi_history.specs.Offers.{due_by}
use Rattle.savi_history.specs.Ticks.{HasChangedBy}
use Rattle.savi_history.specs.Events as events
use Rattle.savi_history.specs.Legal.{MayCome}
use Rattle.savi_core.proofs.Shutting.{shut_aged, shut_as}
use Rattle.savi_core.proofs.Refusing.{no_refusal}
use Rattle.savi_core.proofs.Tallying.{counted_too}
use Rattle.savi_core.proofs.Over.{ends_still}
use Rattle.savi_core.specs.Machines.{Machine, base_of}
use Rattle.savi_core.specs.Judges.{Ages}
use Rattle.savi_core.specs.declared.vlan_set.VlanSet.{VlanSet}
use Rattle.savi_core.specs.VlanSets.{AreAgedTo, vlans_of_sets}
use Rattle.savi_core.specs.Tells.{TellOfAll}
use Rattle.savi_core.specs.Steps.{IsDue, IsIdle, entry_of}
use Rattle.savi_core.proofs.FrameEntries.{tick_entry_is}
use Rattle.savi_core.proofs.Together.{all_ready, all_tick, lent_too, of_plan}
use Rattle.savi_core.proofs.Telling.{tick_offers}
use Rattle.savi_core.proofs.AgedAndJudged.{early_now, aged_here, states_aged, shows_aged, counts_aged}
use Rattle.savi_core.proofs.Ticking.{none_due, none_sent, some_due}
use Rattle.savi_core.proofs.Stepping.{row, may_tick, remembers_tick, stepped_view}
use Rattle.savi_core.proofs.machine.Core.tick.Goals as goal

-- nothing is due

pub returns-then-not-is_due : goal.returns-then-not-is_due
returns-then-not-is_due c =
    let inside = c.self.inside in
    let rows = inside.hist.rows in
    let stamp = c.args.stamp in
    let moment_is : c.moment_at-moment.result ≡ moment_at (base_kept c.self.inside.checkpoint) (reverse rows) stamp = c.moment_at-moment.ensures ∙ ap (λ n. max n (min c.args.stamp (2 ^ 62))) c.self.invariant.0.last in
    let later : last_moment (base_kept c.self.inside.checkpoint) (reverse rows) ≤ c.moment_at-moment.result = omega (arith, moment_is) in
    let not_due : c.is_due.result ≡ false = c.if-not-is_due.true in
    let idle : (¬ HasChangedBy inside.ports (base_kept c.self.inside.checkpoint) (reverse rows) c.moment_at-moment.result) × (due_by inside.ports (base_kept c.self.inside.checkpoint) (reverse rows) c.moment_at-moment.result ≡ []) = (
      none_due c.self.invariant.0 c.as_mut_slice-sets.result.now (lent_too c.as_mut_slice-sets.ensures.value c.self.invariant.4) c.moment_at-moment.result later (c.is_due.ensures.quiet not_due),
      none_sent c.self.invariant.0 c.as_mut_slice-sets.result.now (lent_too c.as_mut_slice-sets.ensures.value c.self.invariant.4) c.moment_at-moment.result later (c.is_due.ensures.quiet not_due),
    ) in
    let idle_then = subst (λ (t : ℕ). (¬ HasChangedBy inside.ports (base_kept c.self.inside.checkpoint) (reverse rows) t) × (due_by inside.ports (base_kept c.self.inside.checkpoint) (reverse rows) t ≡ [])) moment_is idle in (
      sym c.has_room.ensures ∙ c.if-not-has_room.false,
      subst (λ (m : Machine). IsIdle m (events.Tick stamp)) c.self.view_is idle_then,
      c.self.view_is,
    )

pub invariant_of-self : goal.invariant_of-self
invariant_of-self c =
    let same : c.is_due.new.sets ≡ c.self.inside.sets.items = c.is_due.ensures.same ∙ c.as_mut_slice-sets.ensures.value in (
      c.self.invariant.0,
      c.self.invariant.1,
      c.self.invariant.2,
      c.self.invariant.3,
      lent_too (with_items_is c.self.inside.sets c.is_due.new.sets (omega arith) ∙ same) c.self.invariant.4,
      c.self.invariant.5,
      c.self.invariant.6,
      c.self.invariant.7,
      c.self.invariant.8,
      c.self.invariant.9,
    )

-- something is

moment_is : (c : goal.After-append) → c.moment_at-moment.result ≡ moment_at (base_kept c.self.inside.checkpoint) (reverse c.self.inside.hist.rows) c.args.stamp
moment_is c = c.moment_at-moment.ensures ∙ ap (λ n. max n (min c.args.stamp (2 ^ 62))) c.self.invariant.0.last

pub age-requires-clause-moment : goal.age-requires-clause-moment
age-requires-clause-moment c = early_now c.self.invariant.0 c.args.stamp c.moment_at-moment.result (c.moment_at-moment.ensures ∙ ap (λ n. max n (min c.args.stamp (2 ^ 62))) c.self.invariant.0.last)

pub age-requires-clause-ready : goal.age-requires-clause-ready
age-requires-clause-ready c =
    subst (λ (l : List VlanSet). AreAgedTo (rules_of c.plan.result.now) c.self.inside.moment l) (sym c.is_due.ensures.same)
    (subst (λ (p : Plan). AreAgedTo (rules_of p) c.self.inside.moment c.as_mut_slice-sets.result.now) (sym c.plan.ensures.plan) (all_ready c.self.inside.ports (base_kept c.self.inside.checkpoint) (reverse c.self.inside.hist.rows) c.self.inside.moment c.as_mut_slice-sets.result.now (lent_too c.as_mut_slice-sets.ensures.value c.self.invariant.4)))

changed : (c : goal.After-append) → HasChangedBy c.self.inside.ports (base_kept c.self.inside.checkpoint) (reverse c.self.inside.hist.rows) (moment_at (base_kept c.self.inside.checkpoint) (reverse c.self.inside.hist.rows) c.args.stamp)
changed c =
    let inside = c.self.inside in
    let later : last_moment (base_kept c.self.inside.checkpoint) (reverse inside.hist.rows) ≤ c.moment_at-moment.result = omega (arith, moment_is c) in
    subst (λ (t : ℕ). HasChangedBy inside.ports (base_kept c.self.inside.checkpoint) (reverse inside.hist.rows) t) (moment_is c)
    (some_due c.self.invariant.0 c.as_mut_slice-sets.result.now (lent_too c.as_mut_slice-sets.ensures.value c.self.invariant.4) c.moment_at-moment.result later (c.is_due.ensures.changes c.if-not-is_due.false).0 (c.is_due.ensures.changes c.if-not-is_due.false).1)

-- the sets as they are after they were asked
told_still : (c : goal.After-append) → TellOfAll c.self.inside.ports (base_kept c.self.inside.checkpoint) (reverse c.self.inside.hist.rows) c.self.inside.moment c.is_due.new.sets
told_still c = subst (λ (l : List VlanSet). TellOfAll c.self.inside.ports (base_kept c.self.inside.checkpoint) (reverse c.self.inside.hist.rows) c.self.inside.moment l) (sym c.is_due.ensures.same) (lent_too c.as_mut_slice-sets.ensures.value c.self.invariant.4)

-- they are those of the plan's VLANs
in_plan : (c : goal.After-append) → vlans_of_sets c.age.new.sets ≡ vlans_of c.self.inside.ports
in_plan c = of_plan c.self.invariant.0 c.is_due.new.sets (told_still c) c.age.new.sets c.age.ensures.rest

ages : (c : goal.After-append) → Ages (rules_of c.self.inside.ports) c.self.inside.moment c.moment_at-moment.result c.age.new.sets c.self.inside.queues c.age.new.queues (access_of (base_kept c.self.inside.checkpoint)) (marks c.self.inside.ports (base_kept c.self.inside.checkpoint) (reverse c.self.inside.hist.rows))
ages c =
    let inside = c.self.inside in
    aged_here c.self.invariant.0 c.is_due.new.sets (told_still c) c.plan.result.now c.plan.ensures.plan c.moment_at-moment.result (omega (arith, c.moment_at-moment.ensures)) c.age.new.sets inside.queues c.age.new.queues c.age.ensures.aged

ready : (c : goal.After-append) → AreAgedTo (rules_of c.self.inside.ports) (moment_at (base_kept c.self.inside.checkpoint) (reverse c.self.inside.hist.rows) c.args.stamp) c.age.new.sets
ready c =
    subst (λ (t : ℕ). AreAgedTo (rules_of c.self.inside.ports) t c.age.new.sets) (moment_is c)
    (subst (λ (p : Plan). AreAgedTo (rules_of p) c.moment_at-moment.result c.age.new.sets) c.plan.ensures.plan c.age.ensures.ready)

abbrev inner : (c : goal.After-append) → Machine
inner c = record { plan = c.self.inside.ports; checkpoint = c.self.inside.checkpoint; past = reverse c.self.inside.hist.rows }

abbrev stored : (c : goal.After-append) → Entry
stored c = record c.plain_entry.result { probes = c.queued.result; lost = c.lost.result }

-- the ports that are shut stay so
still_shut : (c : goal.After-append) → c.age.new.queues.shut ≡ c.self.inside.queues.shut
still_shut c = shut_aged _ _ _ _ c.self.inside.queues c.age.new.queues _ _ (ages c)

-- the entry is that of the row, by what the core keeps
inner_is : (c : goal.After-append) → stored c ≡ entry_of (inner c) (events.Tick c.args.stamp)
inner_is c =
    let inside = c.self.inside in
    let counts = counts_aged c.self.invariant.0 c.is_due.new.sets (told_still c) c.age.new.sets (in_plan c) inside.queues c.age.new.queues refl refl c.moment_at-moment.result c.args.stamp (moment_is c) (ages c) (acts.Tick c.args.stamp) [] (tick_offers inside.ports (base_kept c.self.inside.checkpoint) (reverse inside.hist.rows) c.args.stamp []) in
    ap (λ (e : Entry). record e { probes = c.queued.result; lost = c.lost.result }) c.plain_entry.ensures
    ∙ tick_entry_is (inner c) c.args.stamp c.pass_of-by.result c.moment_at-moment.result c.queued.result c.lost.result
    c.pass_of-by.ensures (moment_is c) (c.queued.ensures ∙ counts.0) (c.lost.ensures ∙ counts.1)

stored_is : (c : goal.After-append) → stored c ≡ entry_of c.args.self.now (events.Tick c.args.stamp)
stored_is c = inner_is c ∙ ap (λ (m : Machine). entry_of m (events.Tick c.args.stamp)) c.self.view_is

due : (c : goal.After-append) → IsDue c.args.self.now (events.Tick c.args.stamp)
due c = subst (λ (m : Machine). IsDue m (events.Tick c.args.stamp)) c.self.view_is (changed c)

pub invariant_of-self-2 : goal.invariant_of-self-2
invariant_of-self-2 c =
    let inside = c.self.inside in
    let event = events.Tick c.args.stamp in
    let may = subst (λ (m : Machine). MayCome m.plan (base_of m) m.past event) (sym c.self.view_is) (may_tick c.args.self.now c.args.stamp c.requires (sym c.has_room.ensures ∙ c.if-not-has_room.false) c.ranges.stamp.fits (due c)) in
    let shows = shows_aged c.self.invariant.0 c.is_due.new.sets (told_still c) c.age.new.sets (in_plan c) inside.queues c.age.new.queues refl refl c.moment_at-moment.result c.args.stamp (moment_is c) (ages c) (acts.Tick c.args.stamp) [] (tick_offers inside.ports (base_kept c.self.inside.checkpoint) (reverse inside.hist.rows) c.args.stamp []) in
    let states = states_aged c.self.invariant.0 c.is_due.new.sets (told_still c) c.age.new.sets (in_plan c) inside.queues c.age.new.queues refl refl c.moment_at-moment.result c.args.stamp (moment_is c) (ages c) in
    rw c.append.ensures (
      shut_as (sym (still_shut c)) (remembers_tick c.self.invariant.0 c.args.stamp (stored c) c.age.new.queues.lanes may (inner_is c) shows),
      c.self.invariant.1,
      c.self.invariant.2,
      c.self.invariant.3,
      lent_too (with_items_is inside.sets c.age.new.sets (omega arith)) (all_tick c.self.invariant.0 c.is_due.new.sets (told_still c) c.age.new.sets c.age.ensures.rest c.args.stamp (ready c) (stored c) (inner_is c) states),
      no_refusal c.self.invariant.0 event (stored c) [] inside.refused (inner_is c) tt,
      counted_too c.self.invariant.0 inside.tally c.add.new.self (stored c) [] c.self.invariant.6 c.add.ensures,
      ends_still c.self.invariant.0 inside.ends c.self.invariant.7 event (stored c) [] (inner_is c) tt,
      c.self.invariant.8,
      c.self.invariant.9,
    )

pub returns : goal.returns
returns c =
    let inside = c.self.inside in (
      sym c.has_room.ensures ∙ c.if-not-has_room.false,
      due c,
      rw c.append.ensures (stepped_view inside.ports c.self.inside.checkpoint inside.hist.rows (stored c) [] (events.Tick c.args.stamp) c.args.self.now c.self.view_is (ap (λ (x : Entry). row x []) (inner_is c))),
      stored_is c,
    )
