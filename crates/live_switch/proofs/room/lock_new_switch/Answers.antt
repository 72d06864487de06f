use Rattle.std.proofs.Common.{◌≡◌, ◌*◌, length, ap, subst, sym, ◌∙◌, arith}
use Rattle.savi_kinds.specs.declared.plan.Plan.{Plan}
use Rattle.savi_kinds.specs.ValidPlan.{IsValidPlan}
use Rattle.hist_store.specs.JournalTexts.{address_text, journal_header_text}
use Rattle.savi_history.specs.Passes.{pass_count}
use Rattle.savi_core.specs.Machines.{Machine, base_of, started, station_room}
use Rattle.savi_core.proofs.Leaving.{start_is}
use Rattle.table_lock.specs.Passes.{lock_first, lock_seats}
use Rattle.core_keep.specs.declared.keep.KeptCore.{KeptCore}
use Rattle.journal_write.proofs.Giving.{header_alone}
use Rattle.live_switch.specs.Dealt.{AreFor}
use Rattle.live_switch.specs.Open.{AreOpen}
use Rattle.live_switch.proofs.Locking.{base_at, going_at, passes_at, plan_at}
use Rattle.live_switch.proofs.room.lock_new_switch.Goals as goal

pub put_header-requires : goal.put_header-requires
put_header-requires c = subst IsValidPlan (sym (c.plan.ensures ∙ ap (λ (m : Machine). m.plan) (c.deref-2.ensures ∙ c.in_ok-kept.ensures))) c.requires

pub returns-in-Ok : goal.returns-in-Ok
returns-in-Ok c =
    let plan : Plan = c.args.plan in
    let kept = c.in_ok-kept.kept in
    let lock = c.in-Ok.lock in
    let passes = c.in-Ok.passes.items in
    let going = c.open_passes-going.result.items in
    let new : kept.core.value ≡ started plan = c.in_ok-kept.ensures in
    let first : (lock_first lock).core.value ≡ kept.core.value = ap (λ (k : KeptCore). k.core.value) c.in-Ok.ensures.lock.1 in
    let «open» : AreOpen kept.core.value.plan (base_of kept.core.value) kept.core.value.past going =
    subst (λ (m : Machine). AreOpen m.plan (base_of m) m.past going) c.deref.ensures c.open_passes-going.ensures.«open» in
    let seats : lock_seats lock ≡ pass_count kept.core.value.plan = omega (arith, c.in-Ok.ensures.lock.0, «open».size) in
    record {
      plan_is = plan_at lock kept.core.value first ∙ ap (λ (m : Machine). m.plan) new;
      base = base_at lock kept.core.value first ∙ ap base_of new ∙ start_is (16 * plan.per_port) (station_room plan);
      seats = seats ∙ ap (λ (m : Machine). pass_count m.plan) new;
      passes = subst (λ (m : Machine). AreFor lock (length m.plan.ports) passes) new (passes_at lock kept.core.value first seats passes c.in-Ok.ensures.passes.0 c.in-Ok.ensures.passes.1);
      going = going_at lock kept.core.value first going (ap (λ (m : Machine). m.past) new) «open»;
      header = c.put_header.ensures ∙ ap (λ (p : Plan). journal_header_text address_text p) (c.plan.ensures ∙ ap (λ (m : Machine). m.plan) (c.deref-2.ensures ∙ new)) ∙ header_alone plan;
    }
