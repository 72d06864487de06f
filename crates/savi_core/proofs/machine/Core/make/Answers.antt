use Rattle.std.proofs.Common.{◌≡◌, ◌+◌, ◌*◌, ℕ, [], sym, refl, ap, subst, ◌∙◌, map, length, arith}
use Rattle.savi_kinds.specs.declared.plan.Plan.{Plan}
use Rattle.savi_kinds.specs.Vlans.{vlans_of}
use Rattle.bridge_fdb.specs.Stations.{live_at}
use Rattle.checkpoint.specs.Bases.{Base, empty}
use Rattle.checkpoint.specs.Columns.{Columns, nothing_before, kept_base as base_kept}
use Rattle.savi_history.specs.Shown.{counts_of}
use Rattle.savi_core.specs.Ends.{AreEnds, none_over}
use Rattle.savi_core.specs.Lanes.{empty_lane}
use Rattle.savi_core.specs.Machines.{station_room}
use Rattle.savi_core.specs.Rings.{Rings}
use Rattle.savi_core.specs.Tells.{TellOfAll}
use Rattle.savi_core.proofs.Leaving.{start_is}
use Rattle.savi_core.proofs.Over.{ends_start}
use Rattle.savi_core.proofs.Remembering.{remembers_start}
use Rattle.savi_core.proofs.Shutting.{shut_as}
use Rattle.savi_core.proofs.Turned.{over_base}
use Rattle.savi_core.proofs.machine.Core.make.Goals as goal

pub invariant_of-result : goal.invariant_of-result
invariant_of-result c =
    let plan : Plan = c.args.plan in
    let rooms : 256 * (16 * c.vlan_count.result) ≡ station_room plan = ap (λ (n : ℕ). 256 * (16 * n)) (c.vlan_count.ensures.count ∙ ap (λ (p : Plan). length (vlans_of p)) c.make-ports.ensures) in
    let checkpoint : c.in_ok-checkpoint.checkpoint ≡ nothing_before (16 * plan.per_port) (station_room plan) = c.in_ok-checkpoint.ensures ∙ ap (nothing_before (16 * plan.per_port)) rooms in
    let start : empty ≡ base_kept c.in_ok-checkpoint.checkpoint = sym (ap base_kept checkpoint ∙ start_is (16 * plan.per_port) (station_room plan)) in
    let sets = c.in_ok-sets.sets.items in
    let told : TellOfAll plan empty [] 0 sets = subst (λ (p : Plan). TellOfAll p empty [] 0 sets) c.make-ports.ensures (record {
      vlans = c.in_ok-sets.ensures.vlans;
      tell = λ n d inside. record { states = c.in_ok-sets.ensures.start n d inside; ready = c.in_ok-sets.ensures.ready 0 n d inside };
      know = λ n d inside. ap (live_at 0) (c.in_ok-sets.ensures.unknown n d inside);
    }) in
    let inputs : ℕ = length c.as_slice-2.result.now + 1 in
    rw (c.in_ok-hist.ensures, c.make-ports.ensures, c.make-4.ensures, c.make-5.ensures) (
      over_base start
          (shut_as (sym (ap (λ (r : Rings). r.shut) c.in_ok-queues.ensures))
          (remembers_start plan c.in_ok-queues.queues.lanes c.requires (ap (λ (r : Rings). r.lanes) c.in_ok-queues.ensures ∙ ap (map (empty_lane plan.depth)) c.as_slice.ensures))),
      refl,
      refl,
      omega (arith, ap length c.as_slice-2.ensures),
      subst (λ (base : Base). TellOfAll plan base [] 0 sets) start told,
      tt,
      c.none.ensures ∙ ap (λ (base : Base). counts_of base []) start,
      subst (λ (base : Base). AreEnds plan base [] (none_over inputs)) start (ends_start plan inputs (omega (arith, ap length c.as_slice-2.ensures))),
      ap (λ (k : Columns). k.row_room) checkpoint,
      ap (λ (k : Columns). k.station_room) checkpoint,
    )
