use Rattle.std.proofs.Common.{ℕ, ◌≡◌, ◌≤◌, ◌^◌, min, max, map, length, reverse, true, refl, sym, subst, ap, ◌∙◌, arith, All, Option, ◌<◌}
use Rattle.std.proofs.lemmas.List.{with_items_is}
use Rattle.savi_kinds.specs.declared.port.Port.{Port}
use Rattle.eth_frame.specs.declared.vlan_tag.Tag.{Tag}
use Rattle.savi_kinds.specs.Ports.{number_of}
use Rattle.savi_kinds.specs.Vlans.{vlan_among, vlans_of}
use Rattle.savi_kinds.specs.declared.entry.Entry.{Entry}
use Rattle.savi_kinds.specs.declared.entry.Act.{Act}
use Rattle.savi_kinds.specs.declared.entry.Act.TheVariants as acts
use Rattle.egress_ring.specs.declared.item.Item.TheVariants as queued
use Rattle.hist_store.specs.Rows.{held, KeepsOctets}
use Rattle.savi_access.specs.Plans.{rules_of}
use Rattle.checkpoint.specs.Columns.{kept_base as base_kept}
use Rattle.checkpoint.specs.Bases.{access_of}
use Rattle.savi_history.specs.Vlans.{vlan_at_port, vlan_of_frame}
use Rattle.savi_history.specs.Moments.{moment_at}
use Rattle.savi_history.specs.Marks.{marks}
use Rattle.savi_history.specs.Outs.{outs}
use Rattle.savi_history.specs.Queues.{probes, lost}
use Rattle.savi_history.specs.Events as events
use Rattle.savi_history.specs.Legal.{MayCome}
use Rattle.savi_core.specs.Knows.{Knows}
use Rattle.savi_core.specs.Origins.{known_at, outs_from, teaches_at}
use Rattle.savi_core.specs.VlanSets.{AreAgedTo, fdb_at, vlan_of_place, vlans_of_sets}
use Rattle.savi_core.specs.Machines.{Machine, base_of}
use Rattle.savi_core.specs.Steps.{entry_of}
use Rattle.savi_core.specs.Lanes.{with_frame}
use Rattle.savi_core.specs.Waits.{Show}
use Rattle.savi_core.proofs.Lanes.{probed_lane}
use Rattle.frame_class.specs.Classes.{eth_of}
use Rattle.bridge_fdb.specs.Stations.{live_at}
use Rattle.savi_kinds.specs.PortSets.{is_member}
use Rattle.savi_history.specs.ShutPorts.{is_shut}
use Rattle.savi_core.specs.Rings.{Rings, shut_in}
use Rattle.savi_core.proofs.Shutting.{shut_judged, shut_as}
use Rattle.savi_core.proofs.Refusing.{no_refusal}
use Rattle.savi_core.proofs.Tallying.{counted_too}
use Rattle.savi_core.proofs.Over.{ends_still}
use Rattle.savi_core.specs.Judges.{Judges}
use Rattle.savi_core.proofs.Showing.{lane_numbers, cuts_are}
use Rattle.savi_core.proofs.Remembering.{room_for, held-reverse}
use Rattle.savi_core.proofs.FrameEntries.{made, frame_entry_is}
use Rattle.savi_core.proofs.Knowing.{same_known, taught_if, within_sets}
use Rattle.savi_core.proofs.Going.{AreOpen, goes, whole}
use Rattle.savi_core.proofs.Together.{all_frame, all_ready, lent_too, of_plan}
use Rattle.savi_core.proofs.AgedAndJudged.{early_now, judged_here, verdict_now, states_after, shows_framed, counts_framed}
use Rattle.savi_core.proofs.Stepping.{row, may_frame, remembers_frame, stepped_view}
use Rattle.savi_core.proofs.machine.Core.enter_frame.Goals as goal

moment_is : (c : goal.After-append) → c.moment_at-moment.result ≡ moment_at (base_kept c.self.inside.checkpoint) (reverse c.self.inside.hist.rows) c.args.stamp
moment_is c = c.moment_at-moment.ensures ∙ ap (λ n. max n (min c.args.stamp (2 ^ 62))) c.self.invariant.0.last

-- the VLAN of the frame
vlan_is : (c : goal.After-append) → vlan_of_place c.self.inside.ports c.origin_of-origin.result.set ≡ vlan_of_frame c.self.inside.ports (number_of c.args.port) c.args.octets.now
vlan_is c =
    c.origin_of-origin.ensures.vlan ∙ ap (λ (t : Tag). vlan_at_port (vlan_among c.self.inside.ports.ports (number_of c.args.port)) t) c.requires.seen.tag

pub judge-verdict-requires-clause-vlans : goal.judge-verdict-requires-clause-vlans
judge-verdict-requires-clause-vlans c = (lent_too c.as_mut_slice-sets.ensures.value c.self.invariant.4).vlans

pub judge-verdict-requires-clause-moment : goal.judge-verdict-requires-clause-moment
judge-verdict-requires-clause-moment c = early_now c.self.invariant.0 c.args.stamp c.moment_at-moment.result (c.moment_at-moment.ensures ∙ ap (λ n. max n (min c.args.stamp (2 ^ 62))) c.self.invariant.0.last)

pub judge-verdict-requires-clause-ready : goal.judge-verdict-requires-clause-ready
judge-verdict-requires-clause-ready c = all_ready c.self.inside.ports (base_kept c.self.inside.checkpoint) (reverse c.self.inside.hist.rows) c.self.inside.moment c.as_mut_slice-sets.result.now (lent_too c.as_mut_slice-sets.ensures.value c.self.invariant.4)

-- what the judgement leaves
judges : (c : goal.After-append) → Judges (rules_of c.self.inside.ports) c.self.inside.moment c.moment_at-moment.result (shut_in c.self.inside.queues.shut (number_of c.args.port)) c.args.port (vlan_of_place c.self.inside.ports c.origin_of-origin.result.set) c.args.seen.now.class c.judge-verdict.new.sets c.self.inside.queues c.judge-verdict.new.queues c.judge-verdict.result (access_of (base_kept c.self.inside.checkpoint)) (marks c.self.inside.ports (base_kept c.self.inside.checkpoint) (reverse c.self.inside.hist.rows))
judges c =
    let inside = c.self.inside in
    let origin = c.origin_of-origin.result in
    let vlan = vlan_of_place inside.ports origin.set in
    subst (λ (p : Port). Judges (rules_of inside.ports) inside.moment c.moment_at-moment.result (shut_in inside.queues.shut (number_of p)) p vlan c.args.seen.now.class c.judge-verdict.new.sets inside.queues c.judge-verdict.new.queues c.judge-verdict.result (access_of (base_kept inside.checkpoint)) (marks inside.ports (base_kept inside.checkpoint) (reverse inside.hist.rows))) c.origin_of-origin.ensures.port
    (judged_here c.self.invariant.0 c.as_mut_slice-sets.result.now (lent_too c.as_mut_slice-sets.ensures.value c.self.invariant.4) inside.ports refl c.moment_at-moment.result (omega (arith, c.moment_at-moment.ensures)) (shut_in inside.queues.shut (number_of origin.port)) origin.port vlan c.args.seen.now.class c.judge-verdict.new.sets inside.queues c.judge-verdict.new.queues c.judge-verdict.result c.judge-verdict.ensures.judged)

ready : (c : goal.After-append) → AreAgedTo (rules_of c.self.inside.ports) (moment_at (base_kept c.self.inside.checkpoint) (reverse c.self.inside.hist.rows) c.args.stamp) c.judge-verdict.new.sets
ready c = subst (λ (t : ℕ). AreAgedTo (rules_of c.self.inside.ports) t c.judge-verdict.new.sets) (moment_is c) c.judge-verdict.ensures.ready

-- the sets are those of the plan's VLANs, and of each the same stations are known
in_plan : (c : goal.After-append) → vlans_of_sets c.judge-verdict.new.sets ≡ vlans_of c.self.inside.ports
in_plan c = of_plan c.self.invariant.0 c.as_mut_slice-sets.result.now (lent_too c.as_mut_slice-sets.ensures.value c.self.invariant.4) c.judge-verdict.new.sets c.judge-verdict.ensures.rest

known_still : (c : goal.After-append) → All (Knows c.self.inside.ports (base_kept c.self.inside.checkpoint) (reverse c.self.inside.hist.rows) c.self.inside.moment) c.judge-verdict.new.sets
known_still c = same_known c.self.inside.ports (base_kept c.self.inside.checkpoint) (reverse c.self.inside.hist.rows) c.self.inside.moment c.as_mut_slice-sets.result.now c.judge-verdict.new.sets c.judge-verdict.ensures.rest (lent_too c.as_mut_slice-sets.ensures.value c.self.invariant.4).know

pub outs-outs-requires-clause-vlans : goal.outs-outs-requires-clause-vlans
outs-outs-requires-clause-vlans c = of_plan c.self.invariant.0 c.as_mut_slice-sets.result.now (lent_too c.as_mut_slice-sets.ensures.value c.self.invariant.4) c.judge-verdict.new.sets c.judge-verdict.ensures.rest

-- the lanes before the frame is offered
before : (c : goal.After-append) → Show c.self.inside.ports c.self.inside.hist.rows c.judge-verdict.new.queues.lanes (probed_lane c.self.inside.ports (base_kept c.self.inside.checkpoint) (reverse c.self.inside.hist.rows) (events.frame_act (reverse c.self.inside.hist.rows) c.args.port c.args.stamp c.args.octets.now) c.args.octets.now)
before c =
    let inside = c.self.inside in
    shows_framed c.self.invariant.0 c.as_mut_slice-sets.result.now (lent_too c.as_mut_slice-sets.ensures.value c.self.invariant.4) c.judge-verdict.new.sets (in_plan c) inside.queues c.judge-verdict.new.queues refl refl c.moment_at-moment.result c.args.stamp (moment_is c) c.args.port c.args.octets.now (vlan_of_place inside.ports c.origin_of-origin.result.set) (vlan_is c) c.args.seen.now.class c.requires.seen.class c.judge-verdict.result (judges c)

counts : (c : goal.After-append) → (c.judge-verdict.new.queues.queued ≡ probes c.self.inside.ports (base_kept c.self.inside.checkpoint) (reverse c.self.inside.hist.rows) (events.frame_act (reverse c.self.inside.hist.rows) c.args.port c.args.stamp c.args.octets.now) c.args.octets.now)
    × (c.judge-verdict.new.queues.lost ≡ lost c.self.inside.ports (base_kept c.self.inside.checkpoint) (reverse c.self.inside.hist.rows) (events.frame_act (reverse c.self.inside.hist.rows) c.args.port c.args.stamp c.args.octets.now) c.args.octets.now)
counts c =
    let inside = c.self.inside in
    counts_framed c.self.invariant.0 c.as_mut_slice-sets.result.now (lent_too c.as_mut_slice-sets.ensures.value c.self.invariant.4) c.judge-verdict.new.sets (in_plan c) inside.queues c.judge-verdict.new.queues refl refl c.moment_at-moment.result c.args.stamp (moment_is c) c.args.port c.args.octets.now (vlan_of_place inside.ports c.origin_of-origin.result.set) (vlan_is c) c.args.seen.now.class c.requires.seen.class c.judge-verdict.result (judges c)

may : (c : goal.After-append) → MayCome c.self.inside.ports (base_kept c.self.inside.checkpoint) (reverse c.self.inside.hist.rows) (events.Frame c.args.port c.args.stamp c.args.octets.now)
may c =
    let event = events.Frame c.args.port c.args.stamp c.args.octets.now in
    subst (λ (m : Machine). MayCome m.plan (base_of m) m.past event) (sym c.self.view_is) (may_frame c.args.self.now c.args.port c.args.stamp c.args.octets.now c.requires.may c.requires.room c.ranges.stamp.fits)

-- the ports that are shut stay so
still_shut : (c : goal.After-append) → c.judge-verdict.new.queues.shut ≡ c.self.inside.queues.shut
still_shut c = shut_judged _ _ _ _ _ _ _ _ c.self.inside.queues c.judge-verdict.new.queues _ _ _ (judges c)

shut_now : (c : goal.After-append) → shut_in c.judge-verdict.new.queues.shut ≡ (λ number. is_shut c.self.inside.ports (base_kept c.self.inside.checkpoint) number (reverse c.self.inside.hist.rows))
shut_now c = ap shut_in (still_shut c) ∙ c.self.invariant.0.shut_ports

-- the ports to which the frame goes
open_now : (c : goal.After-append) → AreOpen (outs_from c.self.inside.ports (vlan_of_place c.self.inside.ports c.origin_of-origin.result.set) (number_of c.args.port) (known_at c.judge-verdict.new.sets c.origin_of-origin.result.set c.moment_at-moment.result (eth_of c.args.seen.now.class)) c.judge-verdict.result) (shut_in c.judge-verdict.new.queues.shut) c.outs-outs.result
open_now c =
    subst (λ (p : Port). AreOpen (outs_from c.self.inside.ports (vlan_of_place c.self.inside.ports c.origin_of-origin.result.set) (number_of p) (known_at c.judge-verdict.new.sets c.origin_of-origin.result.set c.moment_at-moment.result (eth_of c.args.seen.now.class)) c.judge-verdict.result) (shut_in c.judge-verdict.new.queues.shut) c.outs-outs.result)
    c.origin_of-origin.ensures.port c.outs-outs.ensures.outs

whole_frame : (c : goal.After-append) → (n : ℕ) → is_member c.outs-outs.result n ≡ true → 14 ≤ length c.args.octets.now
whole_frame c =
    let inside = c.self.inside in
    let set = c.origin_of-origin.result.set in
    whole (rules_of inside.ports) (access_of (base_kept inside.checkpoint)) (shut_in inside.queues.shut (number_of c.args.port)) (marks inside.ports (base_kept inside.checkpoint) (reverse inside.hist.rows)) c.args.port c.moment_at-moment.result (vlan_of_place inside.ports set) c.args.seen.now.class c.args.octets.now c.judge-verdict.result c.requires.seen.class (judges c).verdict_is
    inside.ports (number_of c.args.port) (known_at c.judge-verdict.new.sets set c.moment_at-moment.result (eth_of c.args.seen.now.class)) (shut_in c.judge-verdict.new.queues.shut) c.outs-outs.result (open_now c)

-- the entry is that of the frame's row, by what the core keeps
abbrev inner : (c : goal.After-append) → Machine
inner c = record { plan = c.self.inside.ports; checkpoint = c.self.inside.checkpoint; past = reverse c.self.inside.hist.rows }

abbrev made_now : (c : goal.After-append) → Entry
made_now c = made c.pass_of-by.result c.moment_at-moment.result c.frame_act-act.result c.judge-verdict.result c.outs-outs.result c.offer_frame-cuts.result c.queued.result c.lost.result

act_is : (c : goal.After-append) → c.frame_act-act.result ≡ events.frame_act (reverse c.self.inside.hist.rows) c.args.port c.args.stamp c.args.octets.now
act_is c = c.frame_act-act.ensures ∙ sym (ap (λ (m : Machine). events.frame_act m.past c.args.port c.args.stamp c.args.octets.now) c.self.view_is)

inner_is : (c : goal.After-append) → made_now c ≡ entry_of (inner c) (events.Frame c.args.port c.args.stamp c.args.octets.now)
inner_is c =
    let inside = c.self.inside in
    let past = reverse inside.hist.rows in
    let port = c.args.port in
    let stamp = c.args.stamp in
    let octets = c.args.octets.now in
    let act = events.frame_act past port stamp octets in
    let verdict = c.judge-verdict.result in
    let later : inside.moment ≤ c.moment_at-moment.result = omega (arith, c.moment_at-moment.ensures) in
    let set = c.origin_of-origin.result.set in
    frame_entry_is (inner c) port stamp octets c.pass_of-by.result c.moment_at-moment.result c.frame_act-act.result verdict c.outs-outs.result c.offer_frame-cuts.result c.queued.result c.lost.result
    c.pass_of-by.ensures
    (moment_is c)
    (act_is c)
    (verdict_now c.self.invariant.0 c.as_mut_slice-sets.result.now (lent_too c.as_mut_slice-sets.ensures.value c.self.invariant.4) c.judge-verdict.new.sets (in_plan c) inside.queues c.judge-verdict.new.queues refl refl c.moment_at-moment.result stamp (moment_is c) port octets (vlan_of_place inside.ports set) (vlan_is c) c.args.seen.now.class c.requires.seen.class verdict (judges c))
    (goes c.self.invariant.0 c.judge-verdict.new.sets (known_still c) (in_plan c) set c.origin_of-origin.ensures.origin.within (number_of port) c.moment_at-moment.result later c.args.seen.now.class octets c.requires.seen.class verdict c.outs-outs.result (shut_in c.judge-verdict.new.queues.shut) (shut_now c) c.outs-outs.ensures.known (open_now c)
    ∙ ap (λ (own : Option ℕ). outs own inside.ports (base_kept inside.checkpoint) past (number_of port) c.moment_at-moment.result octets verdict) (vlan_is c)
    ∙ ap (λ t. outs (vlan_of_frame inside.ports (number_of port) octets) inside.ports (base_kept inside.checkpoint) past (number_of port) t octets verdict) (moment_is c))
    (c.offer_frame-cuts.ensures.cuts ∙ cuts_are inside.ports (base_kept c.self.inside.checkpoint) past inside.hist.rows act octets c.outs-outs.result c.judge-verdict.new.queues.lanes (before c))
    (c.queued.ensures ∙ ap (λ (r : Rings). r.queued) c.offer_frame-cuts.ensures.lanes ∙ (counts c).0)
    (c.lost.ensures ∙ ap (λ (r : Rings). r.lost) c.offer_frame-cuts.ensures.lanes ∙ (counts c).1)

entry_is : (c : goal.After-append) → made_now c ≡ entry_of c.args.self.now (events.Frame c.args.port c.args.stamp c.args.octets.now)
entry_is c = inner_is c ∙ ap (λ (m : Machine). entry_of m (events.Frame c.args.port c.args.stamp c.args.octets.now)) c.self.view_is

pub offer_frame-cuts-requires-clause-lanes : goal.offer_frame-cuts-requires-clause-lanes
offer_frame-cuts-requires-clause-lanes c =
    let inside = c.self.inside in
    let set = c.origin_of-origin.result.set in
    let vlan = vlan_of_place inside.ports set in
    let vlan_here : vlan_of_place inside.ports c.origin_of-origin.result.set ≡ vlan_of_frame inside.ports (number_of c.args.port) c.args.octets.now =
    c.origin_of-origin.ensures.vlan ∙ ap (λ (t : Tag). vlan_at_port (vlan_among inside.ports.ports (number_of c.args.port)) t) c.requires.seen.tag in
    let moment_here : c.moment_at-moment.result ≡ moment_at (base_kept c.self.inside.checkpoint) (reverse inside.hist.rows) c.args.stamp = c.moment_at-moment.ensures ∙ ap (λ n. max n (min c.args.stamp (2 ^ 62))) c.self.invariant.0.last in
    let sets = c.judge-verdict.new.sets in
    let judged = judged_here c.self.invariant.0 c.as_mut_slice-sets.result.now (lent_too c.as_mut_slice-sets.ensures.value c.self.invariant.4) inside.ports refl c.moment_at-moment.result (omega (arith, c.moment_at-moment.ensures)) (shut_in inside.queues.shut (number_of c.origin_of-origin.result.port)) c.origin_of-origin.result.port vlan c.args.seen.now.class sets inside.queues c.judge-verdict.new.queues c.judge-verdict.result c.judge-verdict.ensures.judged in
    let judged_there = subst (λ (p : Port). Judges (rules_of inside.ports) inside.moment c.moment_at-moment.result (shut_in inside.queues.shut (number_of p)) p vlan c.args.seen.now.class sets inside.queues c.judge-verdict.new.queues c.judge-verdict.result (access_of (base_kept inside.checkpoint)) (marks inside.ports (base_kept inside.checkpoint) (reverse inside.hist.rows))) c.origin_of-origin.ensures.port judged in
    let shows = shows_framed c.self.invariant.0 c.as_mut_slice-sets.result.now (lent_too c.as_mut_slice-sets.ensures.value c.self.invariant.4) sets (of_plan c.self.invariant.0 c.as_mut_slice-sets.result.now (lent_too c.as_mut_slice-sets.ensures.value c.self.invariant.4) sets c.judge-verdict.ensures.rest) inside.queues c.judge-verdict.new.queues refl refl c.moment_at-moment.result c.args.stamp moment_here c.args.port c.args.octets.now vlan vlan_here c.args.seen.now.class c.requires.seen.class c.judge-verdict.result judged_there in
    lane_numbers shows (λ q. refl)

pub teach-requires-clause-moment : goal.teach-requires-clause-moment
teach-requires-clause-moment c = early_now c.self.invariant.0 c.args.stamp c.moment_at-moment.result (c.moment_at-moment.ensures ∙ ap (λ n. max n (min c.args.stamp (2 ^ 62))) c.self.invariant.0.last)

pub teach-requires-clause-within : goal.teach-requires-clause-within
teach-requires-clause-within c =
    let sets = c.judge-verdict.new.sets in
    within_sets c.self.inside.ports sets (of_plan c.self.invariant.0 c.as_mut_slice-sets.result.now (lent_too c.as_mut_slice-sets.ensures.value c.self.invariant.4) sets c.judge-verdict.ensures.rest) c.origin_of-origin.result.set c.origin_of-origin.ensures.origin.within

pub append-requires-clause-bytes : goal.append-requires-clause-bytes
append-requires-clause-bytes c =
    let event = events.Frame c.args.port c.args.stamp c.args.octets.now in
    let may_come = subst (λ (m : Machine). MayCome m.plan (base_of m) m.past event) (sym c.self.view_is) (may_frame c.args.self.now c.args.port c.args.stamp c.args.octets.now c.requires.may c.requires.room c.ranges.stamp.fits) in
    omega (arith, (room_for c.self.invariant.0 may_come.0.room).1, may_come.1, c.self.invariant.2)

pub append-requires-clause-placed : goal.append-requires-clause-placed
append-requires-clause-placed c =
    let placed : c.frame_act-act.result ≡ acts.Frame c.args.port c.args.stamp (held c.self.inside.hist.rows) (length c.args.octets.now) =
    c.frame_act-act.ensures ∙ sym (ap (λ (m : Machine). events.frame_act m.past c.args.port c.args.stamp c.args.octets.now) c.self.view_is)
    ∙ ap (λ (n : ℕ). acts.Frame c.args.port c.args.stamp n (length c.args.octets.now)) (held-reverse c.self.inside.hist.rows) in
    subst (λ (act : Act). KeepsOctets act (held c.self.inside.hist.rows) c.args.octets.now) (sym placed) (refl, refl)

pub invariant_of-self : goal.invariant_of-self
invariant_of-self c =
    let inside = c.self.inside in
    let port = c.args.port in
    let stamp = c.args.stamp in
    let octets = c.args.octets.now in
    let e = made_now c in
    let lanes_are = ap (λ (r : Rings). r.lanes) c.offer_frame-cuts.ensures.lanes ∙ ap (λ n. map (with_frame (queued.Frame n) c.outs-outs.result) c.judge-verdict.new.queues.lanes) c.len.ensures.len in
    let set = c.origin_of-origin.result.set in
    let states = states_after c.self.invariant.0 c.as_mut_slice-sets.result.now (lent_too c.as_mut_slice-sets.ensures.value c.self.invariant.4) c.judge-verdict.new.sets (in_plan c) inside.queues c.judge-verdict.new.queues refl refl c.moment_at-moment.result stamp (moment_is c) port octets (vlan_of_place inside.ports set) (vlan_is c) c.args.seen.now.class c.requires.seen.class c.judge-verdict.result (judges c) in
    let taught = subst (λ (p : Port). (place : ℕ) → place < length c.judge-verdict.new.sets → live_at c.moment_at-moment.result (fdb_at c.teach.new.sets place) ≡ taught_if (teaches_at set c.judge-verdict.result place) p c.moment_at-moment.result (eth_of c.args.seen.now.class) (live_at c.moment_at-moment.result (fdb_at c.judge-verdict.new.sets place))) c.origin_of-origin.ensures.port c.teach.ensures.taught in
    rw c.append.ensures (
      shut_as (sym (ap (λ (r : Rings). r.shut) c.offer_frame-cuts.ensures.lanes ∙ still_shut c)) (remembers_frame c.self.invariant.0 port stamp octets e c.judge-verdict.new.queues.lanes c.offer_frame-cuts.new.self.lanes (may c) (inner_is c) (before c) (whole_frame c) lanes_are),
      c.self.invariant.1,
      c.self.invariant.2,
      c.self.invariant.3,
      lent_too (with_items_is inside.sets c.teach.new.sets (omega arith)) (all_frame c.self.invariant.0 c.as_mut_slice-sets.result.now (lent_too c.as_mut_slice-sets.ensures.value c.self.invariant.4) c.judge-verdict.new.sets c.judge-verdict.ensures.rest stamp (ready c) port octets c.args.seen.now.class c.judge-verdict.result set e c.teach.new.sets c.requires.seen.class
          c.origin_of-origin.ensures.origin.within (vlan_is c) (inner_is c) refl states c.teach.ensures.access taught),
      no_refusal c.self.invariant.0 (events.Frame port stamp octets) e octets inside.refused (inner_is c) tt,
      counted_too c.self.invariant.0 inside.tally c.add.new.self e octets c.self.invariant.6 c.add.ensures,
      ends_still c.self.invariant.0 inside.ends c.self.invariant.7 (events.Frame port stamp octets) e octets (inner_is c) tt,
      c.self.invariant.8,
      c.self.invariant.9,
    )

pub returns-clause-entered : goal.returns-clause-entered
returns-clause-entered c =
    let inside = c.self.inside in
    let octets = c.args.octets.now in
    rw c.append.ensures (stepped_view inside.ports c.self.inside.checkpoint inside.hist.rows (made_now c) octets (events.Frame c.args.port c.args.stamp octets) c.args.self.now c.self.view_is (ap (λ (x : Entry). row x octets) (inner_is c)))

pub returns-clause-entry : goal.returns-clause-entry
returns-clause-entry c = entry_is c
