-- Which leases are live, and whether a port has room for one more, by slots.
use Rattle.std.proofs.Common.{◌≡◌, ℕ, ◌+◌, ◌-◌, ◌*◌, ◌≤◌, ◌<◌, ◌==◌, ◌&&◌, ◌||◌, is_some, nat_lt, Bool, true, false, cond, List, subst, length, get_or, take, drop, count_by, Option, Some, None, refl, sym, ◌∙◌, ap, arith, inl, inr, length-drop}
use Rattle.std.specs.List.{list_any}
use Rattle.std.specs.Option.{MatchOption}
use Rattle.std.proofs.lemmas.Bool.{cases_Bool, and_parts, eqb-true, eq-eqb, lt-ltb, le-ltb}
use Rattle.std.proofs.lemmas.List.{get_or-take, get_or-drop, length-take-le}
use Rattle.savi_kinds.specs.Ports.{number_of}
use Rattle.v4_snoop.specs.declared.lease.Lease.{Lease}
use Rattle.v4_snoop.specs.declared.leases.Leases.{Leases}
use Rattle.v4_snoop.specs.Leased.{is_live_lease, is_lease_of, is_lease_at, is_live_at, live_leases, has_lease_room}
use Rattle.v4_snoop.specs.KeptLeases.{KeepsLeases, HoldsLive, IsSlotOfPort, HasNoneOf, HasOneOf, IsIdleSlot, IsFreeFor, AreAllLive, lease_in, has_lease}
use Rattle.v4_snoop.proofs.Counting.{any_counted, count_nowhere, count_single, count_short, count_whole, count_part}
use Rattle.v4_snoop.proofs.Slots.{slot_inside}

lt_once : (b : Bool) → nat_lt 0 (cond b 1 0) ≡ b
lt_once true = refl
lt_once false = refl

-- whether a lease of a key is live that passes a test: the one that has a slot says it
pub live_one : {t key slot : ℕ} {leases : List Lease} {slots : List (Option Lease)} {lease : Lease} → HasOneOf key slots slot lease → HoldsLive t leases slots → (test : Lease → Bool) → ((other : Lease) → test other ≡ true → other.key ≡ key) → list_any (λ other. is_live_lease t other && test other) leases ≡ (is_live_lease t lease && test lease)
live_one {t} {key} {slot} {leases} {slots} {lease} one holds test of =
    any_counted passes leases
    ∙ ap (λ n. nat_lt 0 n) (sym (holds.counted test) ∙ count_single (has_lease passes) slots slot None (slot_inside slots slot lease one.there) (λ k within is. only k (lease_in slots k) refl is))
    ∙ lt_once (has_lease passes (get_or slots slot None))
    ∙ ap (has_lease passes) one.there
  where
    passes : Lease → Bool
    passes other = is_live_lease t other && test other

    only : (k : ℕ) (o : Option Lease) → lease_in slots k ≡ o → has_lease passes o ≡ true → k ≡ slot
    only k None there is = cc
    only k (Some found) there is = one.only k found there (of found (and_parts (is_live_lease t found) (test found) is).1)

-- and none where no slot has it
pub live_none : {t key : ℕ} {leases : List Lease} {slots : List (Option Lease)} → HasNoneOf key slots → HoldsLive t leases slots → (test : Lease → Bool) → ((other : Lease) → test other ≡ true → other.key ≡ key) → list_any (λ other. is_live_lease t other && test other) leases ≡ false
live_none {t} {key} {leases} {slots} none holds test of =
    any_counted passes leases
    ∙ ap (λ n. nat_lt 0 n) (sym (holds.counted test) ∙ count_nowhere (has_lease passes) slots None (λ k within. fails k (lease_in slots k) refl))
  where
    passes : Lease → Bool
    passes other = is_live_lease t other && test other

    fails : (k : ℕ) (o : Option Lease) → lease_in slots k ≡ o → has_lease passes o ≡ false
    fails k None there = refl
    fails k (Some found) there =
        elim (cases_Bool (passes found)) [
          | inl is ↦ absurd (none k found there (of found (and_parts (is_live_lease t found) (test found) is).1))
          | inr isnt ↦ isnt
        ]

-- The tests of an address at a port, and of a client there, pass leases of its key alone.

pub at_of : (key port : ℕ) (other : Lease) → (is_lease_of key other && is_lease_at port other) ≡ true → other.key ≡ key
at_of key port other is = eqb-true other.key key (and_parts (is_lease_of key other) (is_lease_at port other) is).0

pub for_of : (key port mac : ℕ) (other : Lease) → ((is_lease_of key other && is_lease_at port other) && (other.mac == mac)) ≡ true → other.key ≡ key
for_of key port mac other is = at_of key port other (and_parts (is_lease_of key other && is_lease_at port other) (other.mac == mac) is).0

-- a lease of a port stands in a slot of it
elsewhere : {kept : Leases} → KeepsLeases kept → (t port k : ℕ) (o : Option Lease) → lease_in kept.slots.items k ≡ o → (IsSlotOfPort kept.per_port port k → ⊥) → has_lease (λ lease. is_live_lease t lease && is_lease_at port lease) o ≡ false
elsewhere keeps t port k None there outside = refl
elsewhere {kept} keeps t port k (Some lease) there outside =
    elim (cases_Bool (is_live_lease t lease && is_lease_at port lease)) [
      | inl is ↦
          let same : number_of lease.port ≡ port = eqb-true (number_of lease.port) port (and_parts (is_live_lease t lease) (is_lease_at port lease) is).1 in
          let own : IsSlotOfPort kept.per_port (number_of lease.port) k = keeps.own k lease there in
          absurd (outside (record { first = omega (arith, own.first, same); past = omega (arith, own.past, same) }))
      | inr isnt ↦ isnt
    ]

-- how many leases are live at a port, by its slots
by_slots : {kept : Leases} → KeepsLeases kept → (t port : ℕ) (leases : List Lease) → HoldsLive t leases kept.slots.items → live_leases t port leases ≡ count_by (has_lease (λ lease. is_live_lease t lease && is_lease_at port lease)) (take kept.per_port (drop (64 * (port - 1)) kept.slots.items))
by_slots {kept} keeps t port leases holds =
    sym (holds.counted (is_lease_at port))
    ∙ count_part (has_lease (λ lease. is_live_lease t lease && is_lease_at port lease)) kept.slots.items (64 * (port - 1)) kept.per_port None
    (λ k before within. elsewhere keeps t port k (lease_in kept.slots.items k) refl (λ own. omega (arith, own.first, before)))
    (λ k past within. elsewhere keeps t port k (lease_in kept.slots.items k) refl (λ own. omega (arith, own.past, past)))

slots_len : {kept : Leases} → KeepsLeases kept → (port : ℕ) → 1 ≤ port → port ≤ 16 → length (take kept.per_port (drop (64 * (port - 1)) kept.slots.items)) ≡ kept.per_port
slots_len {kept} keeps port low high =
    length-take-le kept.per_port (drop (64 * (port - 1)) kept.slots.items) (omega (arith, length-drop (64 * (port - 1)) kept.slots.items, keeps.size, keeps.most, low, high))

slot_among : (slots : List (Option Lease)) (from n i : ℕ) → i < n → get_or (take n (drop from slots)) i None ≡ lease_in slots (from + i)
slot_among slots from n i within = get_or-take n (drop from slots) i None within ∙ get_or-drop from slots i None

-- a slot of a port that has no lease of it which is live leaves room
pub room_left_at : {kept : Leases} → KeepsLeases kept → (t port slot : ℕ) (leases : List Lease) → 1 ≤ port → port ≤ 16 → HoldsLive t leases kept.slots.items → IsSlotOfPort kept.per_port port slot → has_lease (λ lease. is_live_lease t lease && is_lease_at port lease) (lease_in kept.slots.items slot) ≡ false → nat_lt (live_leases t port leases) kept.per_port ≡ true
room_left_at {kept} keeps t port slot leases low high holds own ended =
    let from : ℕ = 64 * (port - 1) in
    let place : 64 * (port - 1) + (slot - 64 * (port - 1)) ≡ slot = omega (arith, own.first) in
    let inside : slot - 64 * (port - 1) < kept.per_port = omega (arith, own.first, own.past) in
    let live : Option Lease → Bool = has_lease (λ lease. is_live_lease t lease && is_lease_at port lease) in
    let idle : live (get_or (take kept.per_port (drop (64 * (port - 1)) kept.slots.items)) (slot - 64 * (port - 1)) None) ≡ false =
    ap live (slot_among kept.slots.items (64 * (port - 1)) kept.per_port (slot - 64 * (port - 1)) inside ∙ ap (λ k. lease_in kept.slots.items k) place) ∙ ended in
    let short : count_by live (take kept.per_port (drop (64 * (port - 1)) kept.slots.items)) + 1 ≤ length (take kept.per_port (drop (64 * (port - 1)) kept.slots.items)) =
    count_short live (take kept.per_port (drop (64 * (port - 1)) kept.slots.items)) (slot - 64 * (port - 1)) None (omega (arith, inside, slots_len keeps port low high)) idle in
    lt-ltb (live_leases t port leases) kept.per_port (omega (arith, short, slots_len keeps port low high, by_slots keeps t port leases holds))

-- a live lease in a slot of a port is the port's
own_live : {kept : Leases} → KeepsLeases kept → (t port slot : ℕ) → 1 ≤ port → IsSlotOfPort kept.per_port port slot → (o : Option Lease) → lease_in kept.slots.items slot ≡ o → has_lease (is_live_lease t) o ≡ true → has_lease (λ lease. is_live_lease t lease && is_lease_at port lease) o ≡ true
own_live keeps t port slot low own None there live = live
own_live {kept} keeps t port slot low own (Some lease) there live =
    let its : IsSlotOfPort kept.per_port (number_of lease.port) slot = keeps.own slot lease there in
    let same : number_of lease.port ≡ port = omega (arith, own.first, own.past, its.first, its.past, keeps.most, low, lease.port.low) in
    rw (live, eq-eqb (number_of lease.port) port same) refl

-- a live lease in each of them leaves none
pub no_room_at : {kept : Leases} → KeepsLeases kept → (t port : ℕ) (leases : List Lease) → 1 ≤ port → port ≤ 16 → HoldsLive t leases kept.slots.items → ((slot : ℕ) → IsSlotOfPort kept.per_port port slot → has_lease (is_live_lease t) (lease_in kept.slots.items slot) ≡ true) → nat_lt (live_leases t port leases) kept.per_port ≡ false
no_room_at {kept} keeps t port leases low high holds all =
    let live : Option Lease → Bool = has_lease (λ lease. is_live_lease t lease && is_lease_at port lease) in
    let whole : count_by live (take kept.per_port (drop (64 * (port - 1)) kept.slots.items)) ≡ length (take kept.per_port (drop (64 * (port - 1)) kept.slots.items)) =
    count_whole live (take kept.per_port (drop (64 * (port - 1)) kept.slots.items)) None (λ k within.
    let inside : k < kept.per_port = omega (arith, within, slots_len keeps port low high) in
    let own : IsSlotOfPort kept.per_port port (64 * (port - 1) + k) = record { first = omega arith; past = omega (arith, inside) } in
    ap live (slot_among kept.slots.items (64 * (port - 1)) kept.per_port k inside) ∙ own_live keeps t port (64 * (port - 1) + k) low own (lease_in kept.slots.items (64 * (port - 1) + k)) refl (all (64 * (port - 1) + k) own)) in
    le-ltb (live_leases t port leases) kept.per_port (omega (arith, whole, slots_len keeps port low high, by_slots keeps t port leases holds))

idle_fails : {t most port slot : ℕ} {slots : List (Option Lease)} → IsIdleSlot slots most port t slot → has_lease (λ lease. is_live_lease t lease && is_lease_at port lease) (lease_in slots slot) ≡ false
idle_fails {t} {most} {port} {slot} {slots} idle = go (lease_in slots slot) refl
  where
    go : (o : Option Lease) → lease_in slots slot ≡ o → has_lease (λ lease. is_live_lease t lease && is_lease_at port lease) o ≡ false
    go None is = refl
    go (Some x) is = ap (λ b. b && is_lease_at port x) (idle.ended x is)

-- whether a port has room for an address that isn't live there
pub room_of_free : {kept : Leases} → KeepsLeases kept → (t key port : ℕ) (leases : List Lease) → 1 ≤ port → port ≤ 16 → HoldsLive t leases kept.slots.items → is_live_at t key port leases ≡ false → (free : Option ℕ) → MatchOption free (AreAllLive kept.slots.items kept.per_port port t) (IsIdleSlot kept.slots.items kept.per_port port t) → is_some free ≡ has_lease_room kept.per_port t key port leases
room_of_free {kept} keeps t key port leases low high holds dead (Some slot) idle =
    sym (ap (λ b. b || is_live_at t key port leases) (room_left_at keeps t port slot leases low high holds idle.place (idle_fails idle)))
room_of_free {kept} keeps t key port leases low high holds dead None all =
    sym (ap (λ b. b || is_live_at t key port leases) (no_room_at keeps t port leases low high holds all) ∙ dead)

pub free_of_idle : (slots : List (Option Lease)) (key most port t : ℕ) (free : Option ℕ) → MatchOption free (AreAllLive slots most port t) (IsIdleSlot slots most port t) → MatchOption free (Unit {0}) (IsFreeFor key slots most port t)
free_of_idle slots key most port t None all = tt
free_of_idle slots key most port t (Some slot) idle = record { place = idle.place; ended = λ lease is differs. idle.ended lease is }

-- the slot of an address at its port
pub own_free : {kept : Leases} → KeepsLeases kept → (t key port slot : ℕ) (lease : Lease) → HasOneOf key kept.slots.items slot lease → is_lease_at port lease ≡ true → IsFreeFor key kept.slots.items kept.per_port port t slot
own_free {kept} keeps t key port slot lease one at =
    let own : IsSlotOfPort kept.per_port (number_of lease.port) slot = keeps.own slot lease one.there in
    record {
      place = subst (λ n. IsSlotOfPort kept.per_port n slot) (eqb-true (number_of lease.port) port at) own;
      ended = λ x is differs.
          let both : Some lease ≡ Some x = sym one.there ∙ is in
          let same : lease ≡ x = cc in
          absurd (differs (sym (ap (λ (l : Lease). l.key) same) ∙ one.of));
    }

pub own_room : {kept : Leases} → KeepsLeases kept → (t key port slot : ℕ) (lease : Lease) (leases : List Lease) → 1 ≤ port → port ≤ 16 → HasOneOf key kept.slots.items slot lease → is_lease_at port lease ≡ true → HoldsLive t leases kept.slots.items → true ≡ has_lease_room kept.per_port t key port leases
own_room {kept} keeps t key port slot lease leases low high one at holds =
    let place : IsSlotOfPort kept.per_port port slot = (own_free keeps t key port slot lease one at).place in
    let of : is_lease_of key lease ≡ true = eq-eqb lease.key key one.of in
    let said : is_live_at t key port leases ≡ (is_live_lease t lease && (is_lease_of key lease && is_lease_at port lease)) = live_one one holds (λ other. is_lease_of key other && is_lease_at port other) (at_of key port) in
    elim (cases_Bool (is_live_lease t lease)) [
      | inl live ↦
          let is : is_live_at t key port leases ≡ true = said ∙ rw (live, of, at) refl in
          sym (ap (λ b. nat_lt (live_leases t port leases) kept.per_port || b) is ∙ or_true (nat_lt (live_leases t port leases) kept.per_port))
      | inr ended ↦
          let fails : has_lease (λ other. is_live_lease t other && is_lease_at port other) (lease_in kept.slots.items slot) ≡ false =
          ap (has_lease (λ other. is_live_lease t other && is_lease_at port other)) one.there ∙ ap (λ b. b && is_lease_at port lease) ended in
          sym (ap (λ b. b || is_live_at t key port leases) (room_left_at keeps t port slot leases low high holds place fails))
    ]
  where
    or_true : (b : Bool) → (b || true) ≡ true
    or_true true = refl
    or_true false = refl

-- the address isn't live at a port where it stands at another one, or nowhere
pub dead_elsewhere : {t slot : ℕ} {leases : List Lease} {slots : List (Option Lease)} {lease : Lease} (key port : ℕ) → HasOneOf key slots slot lease → is_lease_at port lease ≡ false → HoldsLive t leases slots → is_live_at t key port leases ≡ false
dead_elsewhere {t} {slot} {leases} {slots} {lease} key port one other holds =
    live_one one holds (λ x. is_lease_of key x && is_lease_at port x) (at_of key port) ∙ go (is_live_lease t lease) (is_lease_of key lease) (is_lease_at port lease) other
  where
    go : (a b c : Bool) → c ≡ false → (a && (b && c)) ≡ false
    go true true c fails = fails
    go true false c fails = refl
    go false b c fails = refl

pub dead_nowhere : {t : ℕ} {leases : List Lease} {slots : List (Option Lease)} (key port : ℕ) → HasNoneOf key slots → HoldsLive t leases slots → is_live_at t key port leases ≡ false
dead_nowhere key port none holds = live_none none holds (λ x. is_lease_of key x && is_lease_at port x) (at_of key port)
