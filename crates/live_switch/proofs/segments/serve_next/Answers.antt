use Rattle.std.proofs.Common.{◌≡◌, Bool, true, List, ap, sym, subst, refl, ◌∙◌, arith}
use Rattle.savi_kinds.specs.declared.plan.Plan.{Plan}
use Rattle.savi_kinds.specs.ValidPlan.{IsValidPlan}
use Rattle.checkpoint.specs.Bases.{Base}
use Rattle.savi_history.specs.Endings.{has_pause}
use Rattle.savi_history.specs.Legal.{IsFinished}
use Rattle.savi_history.specs.Passes.{pass_count}
use Rattle.savi_segments.specs.Checkpoints.{after}
use Rattle.savi_core.specs.Machines.{Machine, base_of}
use Rattle.table_lock.specs.Passes.{lock_first, lock_seats}
use Rattle.core_keep.specs.Pasts.{coded}
use Rattle.core_keep.specs.declared.keep.KeptCore.{KeptCore}
use Rattle.live_switch.specs.Open.{AreOpen, AreOpenIn}
use Rattle.live_switch.specs.Segments.{HasServedSegment}
use Rattle.live_switch.specs.Works.{IsServiceOf}
use Rattle.live_switch.proofs.Locking.{base_at, going_at, plan_at, ready_at, seats_at, whole_at}
use Rattle.live_switch.proofs.segments.serve_next.Goals as goal

pub turn-requires-clause-finished : goal.turn-requires-clause-finished
turn-requires-clause-finished g c =
    subst (λ (m : Machine). IsFinished m.plan (base_of m) m.past) (sym c.deref_mut.ensures.value) c.requires.finished

pub turn-requires-clause-paused : goal.turn-requires-clause-paused
turn-requires-clause-paused g c =
    subst (λ (m : Machine). has_pause m.past ≡ true) (sym c.deref_mut.ensures.value) c.requires.paused

pub make-requires-clause-number : goal.make-requires-clause-number
make-requires-clause-number g c =
    let core : Machine = c.turn.new.self in
    let going = c.open_passes-going.result.items in
    let «open» : AreOpen core.plan (base_of core) core.past going = subst (λ (m : Machine). AreOpen m.plan (base_of m) m.past going) c.deref.ensures c.open_passes-going.ensures.«open» in
    let valid : IsValidPlan core.plan = subst (λ (m : Machine). IsValidPlan m.plan) c.deref.ensures c.open_passes-going.ensures.valid in
    let ports = valid.port_count in
    (omega (arith, «open».size), omega (arith, «open».size, ports))

pub make-requires-clause-empty : goal.make-requires-clause-empty
make-requires-clause-empty g c =
    ap coded c.turn.ensures.past

pub serve_locked-requires-clause-seats : goal.serve_locked-requires-clause-seats
serve_locked-requires-clause-seats g c κs inside =
    let core : Machine = c.turn.new.self in
    let going = c.open_passes-going.result.items in
    let «open» : AreOpen core.plan (base_of core) core.past going = subst (λ (m : Machine). AreOpen m.plan (base_of m) m.past going) c.deref.ensures c.open_passes-going.ensures.«open» in
    let lock = c.in-Ok.lock in
    let first : (lock_first lock).core.value ≡ core = ap (λ (k : KeptCore). k.core.value) c.in-Ok.ensures.lock.1 in
    let seats : lock_seats lock ≡ pass_count core.plan = omega (arith, c.in-Ok.ensures.lock.0, «open».size) in
    seats_at lock core first seats

pub serve_locked-requires-clause-open : goal.serve_locked-requires-clause-open
serve_locked-requires-clause-open g c κs inside =
    let core : Machine = c.turn.new.self in
    let going = c.open_passes-going.result.items in
    let «open» : AreOpen core.plan (base_of core) core.past going = subst (λ (m : Machine). AreOpen m.plan (base_of m) m.past going) c.deref.ensures c.open_passes-going.ensures.«open» in
    let lock = c.in-Ok.lock in
    let first : (lock_first lock).core.value ≡ core = ap (λ (k : KeptCore). k.core.value) c.in-Ok.ensures.lock.1 in
    subst (λ (l : List Bool). AreOpenIn lock l) (sym c.as_slice.ensures.value) (going_at lock core first going c.turn.ensures.past «open»)

pub serve_locked-requires-clause-ready : goal.serve_locked-requires-clause-ready
serve_locked-requires-clause-ready g c κs inside =
    let last : Machine = c.args.kept.core.value in
    let core : Machine = c.turn.new.self in
    let found : c.deref_mut.result.now ≡ last = c.deref_mut.ensures.value in
    let plan : core.plan ≡ last.plan = c.turn.ensures.plan ∙ ap (λ (m : Machine). m.plan) found in
    let serves : IsServiceOf core.plan c.args.service = subst (λ (p : Plan). IsServiceOf p c.args.service) (sym plan) c.requires.service in
    let going = c.open_passes-going.result.items in
    let «open» : AreOpen core.plan (base_of core) core.past going = subst (λ (m : Machine). AreOpen m.plan (base_of m) m.past going) c.deref.ensures c.open_passes-going.ensures.«open» in
    let valid : IsValidPlan core.plan = subst (λ (m : Machine). IsValidPlan m.plan) c.deref.ensures c.open_passes-going.ensures.valid in
    let lock = c.in-Ok.lock in
    let first : (lock_first lock).core.value ≡ core = ap (λ (k : KeptCore). k.core.value) c.in-Ok.ensures.lock.1 in
    let seats : lock_seats lock ≡ pass_count core.plan = omega (arith, c.in-Ok.ensures.lock.0, «open».size) in
    ready_at lock core first seats c.args.service (record { service = c.args.service; passes = c.in-Ok.passes }) refl valid serves c.in-Ok.ensures.passes.0 c.in-Ok.ensures.passes.1

pub serve_locked-requires-clause-whole : goal.serve_locked-requires-clause-whole
serve_locked-requires-clause-whole g c κs inside =
    let last : Machine = c.args.kept.core.value in
    let core : Machine = c.turn.new.self in
    let found : c.deref_mut.result.now ≡ last = c.deref_mut.ensures.value in
    let plan : core.plan ≡ last.plan = c.turn.ensures.plan ∙ ap (λ (m : Machine). m.plan) found in
    let serves : IsServiceOf core.plan c.args.service = subst (λ (p : Plan). IsServiceOf p c.args.service) (sym plan) c.requires.service in
    let going = c.open_passes-going.result.items in
    let «open» : AreOpen core.plan (base_of core) core.past going = subst (λ (m : Machine). AreOpen m.plan (base_of m) m.past going) c.deref.ensures c.open_passes-going.ensures.«open» in
    let lock = c.in-Ok.lock in
    let first : (lock_first lock).core.value ≡ core = ap (λ (k : KeptCore). k.core.value) c.in-Ok.ensures.lock.1 in
    let seats : lock_seats lock ≡ pass_count core.plan = omega (arith, c.in-Ok.ensures.lock.0, «open».size) in
    whole_at lock core first seats c.args.service serves

pub returns-in-Ok : goal.returns-in-Ok
returns-in-Ok g c =
    let last : Machine = c.args.kept.core.value in
    let core : Machine = c.turn.new.self in
    let found : c.deref_mut.result.now ≡ last = c.deref_mut.ensures.value in
    let plan : core.plan ≡ last.plan = c.turn.ensures.plan ∙ ap (λ (m : Machine). m.plan) found in
    let base : base_of core ≡ after last.plan (base_of last) last.past = c.turn.ensures.base ∙ ap (λ (m : Machine). after m.plan (base_of m) m.past) found in
    let lock = c.in-Ok.lock in
    let first : (lock_first lock).core.value ≡ core = ap (λ (k : KeptCore). k.core.value) c.in-Ok.ensures.lock.1 in
    subst (λ (t : Plan × Base). HasServedSegment g.K.Sink.written g.K.Sink.faults g.C.Clock.readings t.0 t.1 c.args.service c.serve_locked.result.0 c.serve_locked.result.1)
    (λ i. ((plan_at lock core first ∙ plan) i, (base_at lock core first ∙ base) i)) c.serve_locked.ensures

pub serve_in_rounds-requires-clause-serves : goal.serve_in_rounds-requires-clause-serves
serve_in_rounds-requires-clause-serves g c κs inside =
    let last : Machine = c.args.kept.core.value in
    let core : Machine = c.turn.new.self in
    let found : c.deref_mut.result.now ≡ last = c.deref_mut.ensures.value in
    let plan : core.plan ≡ last.plan = c.turn.ensures.plan ∙ ap (λ (m : Machine). m.plan) found in
    let serves : IsServiceOf core.plan c.args.service = subst (λ (p : Plan). IsServiceOf p c.args.service) (sym plan) c.requires.service in
    let back : c.in-Err.back.v.core.value ≡ core = ap (λ (k : KeptCore). k.core.value) c.in-Err.ensures.err in
    subst (λ (m : Machine). IsServiceOf m.plan c.args.service) (sym back) serves

pub serve_in_rounds-requires-clause-valid : goal.serve_in_rounds-requires-clause-valid
serve_in_rounds-requires-clause-valid g c κs inside =
    let core : Machine = c.turn.new.self in
    let valid : IsValidPlan core.plan = subst (λ (m : Machine). IsValidPlan m.plan) c.deref.ensures c.open_passes-going.ensures.valid in
    let back : c.in-Err.back.v.core.value ≡ core = ap (λ (k : KeptCore). k.core.value) c.in-Err.ensures.err in
    subst (λ (m : Machine). IsValidPlan m.plan) (sym back) valid

pub serve_in_rounds-requires-clause-empty : goal.serve_in_rounds-requires-clause-empty
serve_in_rounds-requires-clause-empty g c κs inside =
    let core : Machine = c.turn.new.self in
    let back : c.in-Err.back.v.core.value ≡ core = ap (λ (k : KeptCore). k.core.value) c.in-Err.ensures.err in
    ap (λ (m : Machine). m.past) back ∙ c.turn.ensures.past

pub returns-in-Err : goal.returns-in-Err
returns-in-Err g c =
    let last : Machine = c.args.kept.core.value in
    let core : Machine = c.turn.new.self in
    let found : c.deref_mut.result.now ≡ last = c.deref_mut.ensures.value in
    let plan : core.plan ≡ last.plan = c.turn.ensures.plan ∙ ap (λ (m : Machine). m.plan) found in
    let base : base_of core ≡ after last.plan (base_of last) last.past = c.turn.ensures.base ∙ ap (λ (m : Machine). after m.plan (base_of m) m.past) found in
    let back : c.in-Err.back.v.core.value ≡ core = ap (λ (k : KeptCore). k.core.value) c.in-Err.ensures.err in
    subst (λ (t : Plan × Base). HasServedSegment g.K.Sink.written g.K.Sink.faults g.C.Clock.readings t.0 t.1 c.args.service c.serve_in_rounds.result.0 c.serve_in_rounds.result.1)
    (λ i. ((ap (λ (m : Machine). m.plan) back ∙ plan) i, (ap (λ (m : Machine). base_of m) back ∙ base) i)) c.serve_in_rounds.ensures
