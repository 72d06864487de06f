use Rattle.std.proofs.Common.{◌≡◌, not, cond, false, ◌∷◌, None, refl, sym, ◌∙◌, ap, subst, arith}
use Rattle.std.proofs.lemmas.Bool.{eq-eqb}
use Rattle.savi_kinds.specs.Ports.{number_of}
use Rattle.v4_snoop.specs.Leased.{is_live_lease, is_lease_of, leases_but}
use Rattle.v4_snoop.specs.KeptLeases.{IsSlotOfPort, HoldsLive, lease_in, has_lease}
use Rattle.v4_snoop.proofs.Slots.{none_has, ended_once_left}
use Rattle.v4_snoop.proofs.Holding.{HoldsLive-left, HoldsLive-emptied, HoldsLive-filled}
use Rattle.v4_snoop.proofs.leases.Leases.bind.Goals as goal

pub empty-requires-clause-within : goal.empty-requires-clause-within
empty-requires-clause-within c = omega (arith, c.in-Some.ensures.slot.place.past, c.requires.most, c.args.lease.port.high)

pub fill-requires-clause-empty : goal.fill-requires-clause-empty
fill-requires-clause-empty c = c.empty.ensures.slots c.in-Some.slot ∙ ap (λ b. cond b None (lease_in c.forget.new.self.slots.items c.in-Some.slot)) (eq-eqb c.in-Some.slot c.in-Some.slot refl)

pub fill-requires-clause-own : goal.fill-requires-clause-own
fill-requires-clause-own c = subst (λ n. IsSlotOfPort n (number_of c.args.lease.port) c.in-Some.slot) (sym (c.empty.ensures.per_port ∙ c.forget.ensures.per_port)) c.in-Some.ensures.slot.place

pub fill-requires-clause-absent : goal.fill-requires-clause-absent
fill-requires-clause-absent c = none_has c.args.lease.key c.in-Some.slot c.args.self.now.slots.items c.forget.new.self.slots.items c.empty.new.self.slots.items c.forget.ensures.slots c.empty.ensures.slots

pub returns-in-Some-clause-per_port : goal.returns-in-Some-clause-per_port
returns-in-Some-clause-per_port c = c.fill.ensures.per_port ∙ c.empty.ensures.per_port ∙ c.forget.ensures.per_port

pub returns-in-Some-clause-room : goal.returns-in-Some-clause-room
returns-in-Some-clause-room c = λ leases holds. c.in-Some.ensures.room leases holds

pub returns-in-None-clause-room : goal.returns-in-None-clause-room
returns-in-None-clause-room c = λ leases holds. c.in-None.ensures.room leases holds

pub returns-in-Some-clause-bound : goal.returns-in-Some-clause-bound
returns-in-Some-clause-bound c = λ _ leases holds.
    let left : HoldsLive c.args.t (leases_but (is_lease_of c.args.lease.key) leases) c.forget.new.self.slots.items =
    HoldsLive-left (λ lease. not (is_lease_of c.args.lease.key lease)) holds (c.forget.ensures.kept.size ∙ sym c.requires.size) c.forget.ensures.slots in
    let ended : has_lease (is_live_lease c.args.t) (lease_in c.forget.new.self.slots.items c.in-Some.slot) ≡ false =
    ap (has_lease (is_live_lease c.args.t)) (c.forget.ensures.slots c.in-Some.slot) ∙ ended_once_left c.in-Some.ensures.slot in
    let emptied : HoldsLive c.args.t (leases_but (is_lease_of c.args.lease.key) leases) c.empty.new.self.slots.items =
    HoldsLive-emptied c.in-Some.slot left (c.empty.ensures.kept.size ∙ sym c.forget.ensures.kept.size) ended c.empty.ensures.slots in
    let empty : lease_in c.empty.new.self.slots.items c.in-Some.slot ≡ None = c.empty.ensures.slots c.in-Some.slot ∙ ap (λ b. cond b None (lease_in c.forget.new.self.slots.items c.in-Some.slot)) (eq-eqb c.in-Some.slot c.in-Some.slot refl) in
    subst (HoldsLive c.args.t (c.args.lease ∷ leases_but (is_lease_of c.args.lease.key) leases)) (sym c.fill.ensures.slots)
    (HoldsLive-filled c.in-Some.slot c.args.lease emptied (omega (arith, c.in-Some.ensures.slot.place.past, c.requires.most, c.args.lease.port.high, c.empty.ensures.kept.size)) empty)
