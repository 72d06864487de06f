-- A port holds addresses of its own VLAN alone.
use Rattle.std.proofs.Common.{◌≡◌, ◌≢◌, ℕ, ◌+◌, ◌*◌, ◌<◌, ◌==◌, ◌||◌, nat_lt, ◌⊎◌, Bool, true, false, cond, Option, Some, None, List, [], ◌∷◌, count_by, refl, sym, ◌∙◌, ap, subst, inl, inr, arith, rules}
use Rattle.std.specs.List.{AllByRecursion, sum_by}
use Rattle.std.proofs.lemmas.Bool.{cases_Bool, cases_eq, and_parts, or_cases, eqb-true, eq-eqb, ne_eqb, false≢true, false_from_ne_true}
use Rattle.std.proofs.lemmas.List.Sums.{sum_by-cons}
use Rattle.savi_kinds.specs.declared.port.Port.{Port}
use Rattle.savi_kinds.specs.declared.plan.Method.{Method}
use Rattle.savi_kinds.specs.Ports.{number_of}
use Rattle.fcfs_states.specs.declared.event.Ev.{Ev}
use Rattle.fcfs_states.specs.declared.event.Ev.TheVariants.{Sent, Dad, Na, TpDad, TpNa, Lease, Release, Fix, Clear}
use Rattle.fcfs_states.specs.declared.state.Fcfs.{Fcfs}
use Rattle.fcfs_states.specs.declared.state.Fcfs.TheVariants.{NoBind, Tentative, Valid, TestLt, TestVp}
use Rattle.fcfs_states.specs.declared.times.Times.{Times}
use Rattle.fcfs_states.specs.Premises.{AreTimes}
use Rattle.fcfs_states.specs.FirstCome.{TimedEvent}
use Rattle.dhcp_states.specs.declared.bound.Bound.{Bound}
use Rattle.mix_rules.specs.declared.state.AddrState.{AddrState}
use Rattle.mix_rules.specs.States.{nobody, IsHeldAt, is_held_at, is_fixed_to, is_bound_to, is_held_in}
use Rattle.mix_rules.specs.Holders.{MakesHolder}
use Rattle.mix_rules.specs.Ageing.{aged_state}
use Rattle.mix_rules.specs.FirstCome.{outcome}
use Rattle.mix_rules.proofs.HolderLemmas.{next-held, aged-held}
use Rattle.savi_access.specs.declared.row.Row.{Row}
use Rattle.savi_kinds.specs.Orders.{IsRising}
use Rattle.savi_kinds.proofs.Orders.{rising-head, rising-tail}
use Rattle.savi_access.specs.Rows.{address_of, state_in, count_at}
use Rattle.savi_access.proofs.Held.{held_once}
use Rattle.savi_access.proofs.Parts.{other_address, none_there}
use Rattle.savi_access.specs.Rooms.{port_of, may_hold_more_at}
use Rattle.savi_access.specs.Bases.{AddrRules, AddrBase, AreTables}
use Rattle.savi_access.specs.NamedMarks.{Named, mark_of, names}
use Rattle.savi_access.specs.States.{outcome_by, state_of, state_at}
use Rattle.savi_access.specs.Tables.{rows_at, held_in, held_at}
use Rattle.savi_access.specs.Limits.{IsOfVlan, AreAtOwnPorts, MayFollow, IsPast}
use Rattle.savi_access.proofs.Rows.{head_state}
use Rattle.savi_access.proofs.MarksOn.{state_of-own, state_of-other}
use Rattle.savi_access.proofs.TablesOf.{table_at, states_at}
use Rattle.savi_access.proofs.Holding.{held-told, told-held, count-first}

-- a number at which an address is held is a port's
abbrev IsNumber : ℕ → Type 0
IsNumber n = (port : Port) × (number_of port ≡ n)

fixed-port : (n : ℕ) (fixed : Option Port) → is_fixed_to n fixed ≡ true → IsNumber n
fixed-port n None is = absurd (false≢true is)
fixed-port n (Some p) is = (p, eqb-true (number_of p) n is)

bound-port : (n : ℕ) (dhcp : Option Bound) → is_bound_to n dhcp ≡ true → IsNumber n
bound-port n None is = absurd (false≢true is)
bound-port n (Some bound) is = (bound.p, eqb-true (number_of bound.p) n is)

fcfs-port : (n : ℕ) (fcfs : Fcfs) → is_held_in n fcfs ≡ true → IsNumber n
fcfs-port n NoBind is = absurd (false≢true is)
fcfs-port n (Tentative p since two) is = (p, eqb-true (number_of p) n is)
fcfs-port n (Valid p until) is = (p, eqb-true (number_of p) n is)
fcfs-port n (TestLt p since two) is = (p, eqb-true (number_of p) n is)
fcfs-port n (TestVp p q since two) is =
    elim (or_cases (number_of p == n) (number_of q == n) is) [
      | inl holder ↦ (p, eqb-true (number_of p) n holder)
      | inr rival ↦ (q, eqb-true (number_of q) n rival)
    ]

holder-port : (n : ℕ) (s : AddrState) → is_held_at n s ≡ true → IsNumber n
holder-port n s is =
    elim (or_cases (is_fixed_to n s.fixed || is_bound_to n s.dhcp) (is_held_in n s.fcfs) is) [
      | inr fcfs ↦ fcfs-port n s.fcfs fcfs
      | inl owned ↦
          elim (or_cases (is_fixed_to n s.fixed) (is_bound_to n s.dhcp) owned) [
            | inl fixed ↦ fixed-port n s.fixed fixed
            | inr bound ↦ bound-port n s.dhcp bound
          ]
    ]

-- what makes a port hold an address is an event of its own, which is of its VLAN
event-own : (r : AddrRules) (vlan : ℕ) (port : Port) (room : Bool) (event : Ev) → IsOfVlan r vlan (port_of event) → MakesHolder port room event → r.vlan_of (number_of port) ≡ Some vlan
event-own r vlan port room (Sent p) own (same, some) = subst (λ n. r.vlan_of n ≡ Some vlan) same own
event-own r vlan port room (Dad p) own (same, some) = subst (λ n. r.vlan_of n ≡ Some vlan) same own
event-own r vlan port room (Na p) own makes = absurd makes
event-own r vlan port room TpDad own makes = absurd makes
event-own r vlan port room TpNa own makes = absurd makes
event-own r vlan port room (Lease p valid) own (same, some) = subst (λ n. r.vlan_of n ≡ Some vlan) same own
event-own r vlan port room (Release p) own makes = absurd makes
event-own r vlan port room (Fix p) own makes = subst (λ n. r.vlan_of n ≡ Some vlan) makes own
event-own r vlan port room Clear own makes = absurd makes

-- who holds an address after a mark held it before, or holds it by the mark
mark-held : (k : Times) (times : AreTimes k) (m : Method) (mark : TimedEvent) (s : AddrState) (port : Port) → IsHeldAt (outcome m k mark s).1 port → IsHeldAt s port ⊎ MakesHolder port mark.room mark.event
mark-held k times m mark s port held =
    let old : AddrState = (aged_state k mark.moment s).state in
    elim (cases_Bool (is_held_at (number_of port) old)) [
      | inl was ↦ inl (aged-held k mark.moment s port times (held-told old port was))
      | inr free ↦ inr (next-held m k mark.moment mark.room old mark.event port (λ was. false≢true (sym free ∙ told-held old port was)) held)
    ]

-- what holds of each state and where there is none holds of each row
all-rows : (P : AddrState → Type 0) (rows : List Row) → IsRising address_of rows → P nobody → ((a : ℕ) → P (state_in rows a)) → AllByRecursion (λ row. P row.state) rows
all-rows P [] rising none each = tt
all-rows P (row ∷ rows) rising none each = (subst P (head_state row rows) (each (address_of row)), all-rows P rows (rising-tail address_of row rows rising) none later)
  where
    later : (a : ℕ) → P (state_in rows a)
    later a =
        elim (cases_eq (address_of row) a) [
          | inl here ↦
              let higher : AllByRecursion (λ later. a < address_of later) rows = subst (λ n. AllByRecursion (λ later. n < address_of later) rows) here (rising-head address_of row rows rising) in
              subst P (sym (none_there a rows higher)) none
          | inr apart ↦
              let whole : state_in (row ∷ rows) a ≡ state_in rows a = rw (other_address (address_of row) a apart) refl in
              subst P whole (each a)
        ]

-- a port that holds no address of a table has the count 0
count-none : (n : ℕ) (rows : List Row) → AllByRecursion (λ row. is_held_at n row.state ≡ false) rows → count_at n rows ≡ 0
count-none n [] free = refl
count-none n (row ∷ rows) free =
    let once : held_once n row.state ≡ 0 = rw free.0 refl in
    omega (arith, count-first n row rows, once, count-none n rows free.1)

-- a number counts where it is this one
abbrev once : ℕ → ℕ → ℕ
once own n = cond (n == own) 1 0

once-more : (m counts more : ℕ) → more ≡ 1 + counts → more * m ≡ m + counts * m
once-more m counts more is = rw is (grind arith)

-- a sum in which one term alone isn't 0
pub sum-own : (f : ℕ → ℕ) (own : ℕ) → ((n : ℕ) → n ≢ own → f n ≡ 0) → (ns : List ℕ) → sum_by f ns ≡ count_by (λ n. n == own) ns * f own
sum-own f own others [] = omega arith
sum-own f own others (n ∷ ns) =
    let first : sum_by f (n ∷ ns) ≡ f n + sum_by f ns = sum_by-cons f n ns in
    let count : count_by (λ n. n == own) (n ∷ ns) ≡ once own n + count_by (λ n. n == own) ns = sum_by-cons (once own) n ns in
    elim (cases_eq n own) [
      | inl same ↦
          let counted : once own n ≡ 1 = rw (eq-eqb n own same) refl in
          let value : f n ≡ f own = ap f same in
          let product : count_by (λ n. n == own) (n ∷ ns) * f own ≡ f own + count_by (λ n. n == own) ns * f own = once-more (f own) (count_by (λ n. n == own) ns) (count_by (λ n. n == own) (n ∷ ns)) (omega (arith, count, counted)) in
          omega (arith, first, value, product, sum-own f own others ns)
      | inr apart ↦
          let counted : once own n ≡ 0 = rw (ne_eqb n own apart) refl in
          let value : f n ≡ 0 = others n apart in
          let same : count_by (λ n. n == own) (n ∷ ns) ≡ count_by (λ n. n == own) ns = omega (arith, count, counted) in
          let rest : sum_by f (n ∷ ns) ≡ sum_by f ns = omega (arith, first, value) in
          rest ∙ sum-own f own others ns ∙ ap (λ c. c * f own) (sym same)
    ]

module _ (r : AddrRules) (base : AddrBase) (times : AreTimes r.times) (ports : (vlan : ℕ) → AreAtOwnPorts r vlan (base.rows vlan)) where
  own_after : (past : List Named) → IsPast r base past → (vlan a n : ℕ) → is_held_at n (state_of r base past vlan a) ≡ true → r.vlan_of n ≡ Some vlan
  own_after [] right vlan a n held = ports vlan a n held
  own_after (named ∷ past) right vlan a n held =
      elim (cases_Bool (names vlan a named)) [
        | inr not ↦ own_after past right.1 vlan a n (subst (λ s. is_held_at n s ≡ true) (state_of-other r base vlan a named past not) held)
        | inl is ↦
            let same : named.vlan ≡ vlan = eqb-true named.vlan vlan (and_parts (named.vlan == vlan) (named.address == a) is).0 in
            by_method same (own_after past right.1 vlan a n) (r.method_of vlan a) (subst (λ s. is_held_at n s ≡ true) (state_of-own r base vlan a named past is) held)
      ]
    where
      by_method : named.vlan ≡ vlan → (is_held_at n (state_of r base past vlan a) ≡ true → r.vlan_of n ≡ Some vlan) → (method : Option Method) → is_held_at n (outcome_by method r.times (mark_of named) (state_of r base past vlan a)).1 ≡ true → r.vlan_of n ≡ Some vlan
      by_method same before None told = absurd (false≢true told)
      by_method same before (Some m) told =
          let s : AddrState = state_of r base past vlan a in
          let new : AddrState = (outcome m r.times (mark_of named) s).1 in
          let found : (port : Port) × (number_of port ≡ n) = holder-port n new told in
          let held_new : IsHeldAt new found.0 = held-told new found.0 (subst (λ m. is_held_at m new ≡ true) (sym found.1) told) in
          elim (mark-held r.times times m (mark_of named) s found.0 held_new) [
            | inl was ↦ before (subst (λ m. is_held_at m s ≡ true) found.1 (told-held s found.0 was))
            | inr makes ↦
                subst (λ v. r.vlan_of n ≡ Some v) same
                (subst (λ m. r.vlan_of m ≡ Some named.vlan) found.1 (event-own r named.vlan found.0 named.room named.event right.0.port makes))
          ]

  pub own_at : (past : List Named) (t vlan a n : ℕ) → IsPast r base past → is_held_at n (state_at r base past t vlan a) ≡ true → r.vlan_of n ≡ Some vlan
  own_at past t vlan a n right held =
      let s : AddrState = state_of r base past vlan a in
      let aged : AddrState = state_at r base past t vlan a in
      let found : (port : Port) × (number_of port ≡ n) = holder-port n aged held in
      let held_then : IsHeldAt s found.0 = aged-held r.times t s found.0 times (held-told aged found.0 (subst (λ m. is_held_at m aged ≡ true) (sym found.1) held)) in
      own_after past right vlan a n (subst (λ m. is_held_at m s ≡ true) found.1 (told-held s found.0 held_then))

  module _ (tables : AreTables base) where
    pub none_elsewhere : (past : List Named) (t vlan n : ℕ) → IsPast r base past → r.vlan_of n ≢ Some vlan → count_at n (rows_at r base past t vlan) ≡ 0
    none_elsewhere past t vlan n right other =
        let free : (a : ℕ) → is_held_at n (state_in (rows_at r base past t vlan) a) ≡ false = λ a. subst (λ s. is_held_at n s ≡ false) (sym (states_at r base tables times past t vlan a)) (false_from_ne_true (is_held_at n (state_at r base past t vlan a)) (λ held. other (own_at past t vlan a n right held))) in
        count-none n (rows_at r base past t vlan) (all-rows (λ s. is_held_at n s ≡ false) (rows_at r base past t vlan) (table_at r base tables past t vlan).rising refl free)

    pub all_vlans : (past : List Named) (t vlan n : ℕ) (vlans : List ℕ) → IsPast r base past → r.vlan_of n ≡ Some vlan → count_by (λ v. v == vlan) vlans ≡ 1 → sum_by (λ v. count_at n (rows_at r base past t v)) vlans ≡ held_at r base past t n
    all_vlans past t vlan n vlans right is once =
        let own : held_at r base past t n ≡ count_at n (rows_at r base past t vlan) = ap (held_in r base past t n) is in
        let sum : sum_by (λ v. count_at n (rows_at r base past t v)) vlans ≡ count_by (λ v. v == vlan) vlans * count_at n (rows_at r base past t vlan) =
        sum-own (λ v. count_at n (rows_at r base past t v)) vlan (λ v apart. none_elsewhere past t v n right (λ there. apart (some-same v vlan (sym there ∙ is)))) vlans in
        sum ∙ ap (λ c. c * count_at n (rows_at r base past t vlan)) once ∙ omega (arith, own)
      where
        some-same : (a b : ℕ) → Some a ≡ Some b → a ≡ b
        some-same a b same = search rules

-- the room of a mark is that of its port
pub own_room : (r : AddrRules) (base : AddrBase) (past : List Named) (named : Named) (p : Port) → MayFollow r base past named → port_of named.event ≡ Some p → named.room ≡ nat_lt (held_at r base past named.moment (number_of p)) r.per_port
own_room r base past named p right is =
    let t : ℕ = named.moment in
    let own : r.vlan_of (number_of p) ≡ Some named.vlan = subst (IsOfVlan r named.vlan) is right.port in
    let room : named.room ≡ may_hold_more_at r.per_port (rows_at r base past t named.vlan) (Some p) = right.room ∙ ap (may_hold_more_at r.per_port (rows_at r base past t named.vlan)) is in
    room ∙ ap (λ c. nat_lt c r.per_port) (sym (ap (held_in r base past t (number_of p)) own))
