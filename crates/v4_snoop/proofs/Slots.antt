-- What slots have, once one of them changes.
use Rattle.std.proofs.Common.{◌≡◌, ◌≢◌, ◌⊎◌, ℕ, ◌+◌, ◌≤◌, ◌<◌, ◌==◌, not, zero, suc, Bool, true, false, cond, is_some, List, [], ◌∷◌, length, get_or, count_by, find, All, Option, Some, None, refl, sym, ◌∙◌, ap, subst, arith, inl, inr}
use Rattle.std.proofs.Math.ListN.{set}
use Rattle.std.proofs.lemmas.Bool.{cases_Bool, cases_eq, eqb-true, eqb-false, eq-eqb, ne_eqb}
use Rattle.std.proofs.lemmas.List.{get_or-set_same, get_or-set_other, length-set}
use Rattle.std.proofs.lemmas.List.Sums.{sum_by-set}
use Rattle.std.specs.Option.{option_map}
use Rattle.addr_index.specs.declared.entry.Entry.{Entry}
use Rattle.addr_index.specs.Indexes.{is_of, key_in}
use Rattle.savi_kinds.specs.Ports.{number_of}
use Rattle.v4_snoop.specs.declared.lease.Lease.{Lease}
use Rattle.v4_snoop.specs.declared.leases.Leases.{Leases}
use Rattle.v4_snoop.specs.KeptLeases.{KeepsLeases, IsSlotOfPort, HasLeaseOf, HasNoneOf, HasOneOf, IsFreeFor, lease_in, has_lease, left_if}
use Rattle.v4_snoop.specs.Leased.{is_live_lease, is_lease_of}
use Rattle.v4_snoop.proofs.Counting.{count_short, count_nowhere}

pub slot_inside : (slots : List (Option Lease)) (slot : ℕ) (lease : Lease) → lease_in slots slot ≡ Some lease → slot < length slots
slot_inside [] slot lease there = cc
slot_inside (x ∷ xs) zero lease there = omega arith
slot_inside (x ∷ xs) (suc slot) lease there = omega (arith, slot_inside xs slot lease there)

-- a lease in a slot other than the one that was emptied
in_cleared : (slots : List (Option Lease)) (slot other : ℕ) (x : Lease) → slot < length slots → lease_in (set slots slot None) other ≡ Some x → (other ≢ slot) × (lease_in slots other ≡ Some x)
in_cleared slots slot other x within there =
    elim (cases_eq other slot) [
      | inl same ↦
          let none : lease_in (set slots slot None) other ≡ None = ap (λ k. lease_in (set slots slot None) k) same ∙ get_or-set_same slots slot None None within in
          let no : None ≡ Some x = sym none ∙ there in
          cc
      | inr differs ↦ (differs, sym (get_or-set_other slots slot other None None differs) ∙ there)
    ]

-- a lease in the slot that was filled, or in another one
in_filled : (slots : List (Option Lease)) (slot other : ℕ) (lease x : Lease) → slot < length slots → lease_in (set slots slot (Some lease)) other ≡ Some x → ((other ≡ slot) × (lease ≡ x)) ⊎ ((other ≢ slot) × (lease_in slots other ≡ Some x))
in_filled slots slot other lease x within there =
    elim (cases_eq other slot) [
      | inl same ↦
          let is : lease_in (set slots slot (Some lease)) other ≡ Some lease = ap (λ k. lease_in (set slots slot (Some lease)) k) same ∙ get_or-set_same slots slot (Some lease) None within in
          let both : Some lease ≡ Some x = sym is ∙ there in
          inl (same, cc)
      | inr differs ↦ inr (differs, sym (get_or-set_other slots slot other (Some lease) None differs) ∙ there)
    ]

-- a key has one slot
pub one_slot : {kept : Leases} → KeepsLeases kept → (key slot other : ℕ) (lease found : Lease) → lease_in kept.slots.items slot ≡ Some lease → lease.key ≡ key → lease_in kept.slots.items other ≡ Some found → found.key ≡ key → other ≡ slot
one_slot {kept} keeps key slot other lease found there of there_too of_too =
    let first : key_in kept.index key ≡ Some slot = ap (λ k. key_in kept.index k) (sym of) ∙ keeps.indexed slot lease there in
    let second : key_in kept.index key ≡ Some other = ap (λ k. key_in kept.index k) (sym of_too) ∙ keeps.indexed other found there_too in
    let both : Some other ≡ Some slot = sym second ∙ first in
    cc

-- the lease in the slot of a key has it
pub key_of_slot : (key : ℕ) (slot : Option Lease) (lease : Lease) → HasLeaseOf key slot → slot ≡ Some lease → lease.key ≡ key
key_of_slot key None lease has is = absurd has
key_of_slot key (Some found) lease has is =
    let same : found ≡ lease = cc in
    subst (λ (l : Lease). l.key ≡ key) same has

pub no_empty_slot : (key : ℕ) (slot : Option Lease) → HasLeaseOf key slot → slot ≡ None → ⊥
no_empty_slot key None has is = has
no_empty_slot key (Some found) has is = cc

lease_there : (key : ℕ) (slot : Option Lease) → HasLeaseOf key slot → (lease : Lease) × (slot ≡ Some lease) × (lease.key ≡ key)
lease_there key None has = absurd has
lease_there key (Some lease) has = (lease, refl, has)

pub no_slot : {kept : Leases} → KeepsLeases kept → (key : ℕ) → key_in kept.index key ≡ None → HasNoneOf key kept.slots.items
no_slot {kept} keeps key none slot lease there of =
    let some : key_in kept.index key ≡ Some slot = ap (λ k. key_in kept.index k) (sym of) ∙ keeps.indexed slot lease there in
    let no : None ≡ Some slot = sym none ∙ some in
    cc

pub none_indexed : {kept : Leases} → KeepsLeases kept → (key : ℕ) → HasNoneOf key kept.slots.items → key_in kept.index key ≡ None
none_indexed {kept} keeps key none = go (key_in kept.index key) refl
  where
    go : (o : Option ℕ) → key_in kept.index key ≡ o → o ≡ None
    go None is = refl
    go (Some slot) is =
        let (lease, there, of) = lease_there key (lease_in kept.slots.items slot) (keeps.there key slot is) in
        absurd (none slot lease there of)

taken_less : (slots : List (Option Lease)) (slot : ℕ) (lease : Lease) → lease_in slots slot ≡ Some lease → count_by is_some (set slots slot None) + 1 ≡ count_by is_some slots
taken_less slots slot lease there =
    let change : count_by is_some (set slots slot None) + cond (is_some (get_or slots slot None)) 1 0 ≡ count_by is_some slots + 0 = sum_by-set (λ o. cond (is_some o) 1 0) slots slot None None (slot_inside slots slot lease there) in
    let one : ◌≡◌ {A = ℕ} (cond (is_some (get_or slots slot None)) 1 0) 1 = ap (λ (o : Option Lease). cond (is_some o) 1 0) there in
    omega (arith, change, one)

taken_more : (slots : List (Option Lease)) (slot : ℕ) (lease : Lease) → slot < length slots → lease_in slots slot ≡ None → count_by is_some (set slots slot (Some lease)) ≡ count_by is_some slots + 1
taken_more slots slot lease within empty =
    let change : count_by is_some (set slots slot (Some lease)) + cond (is_some (get_or slots slot None)) 1 0 ≡ count_by is_some slots + 1 = sum_by-set (λ o. cond (is_some o) 1 0) slots slot (Some lease) None within in
    let none : ◌≡◌ {A = ℕ} (cond (is_some (get_or slots slot None)) 1 0) 0 = ap (λ (o : Option Lease). cond (is_some o) 1 0) empty in
    omega (arith, change, none)

-- an empty slot leaves room in the index
pub room_in_index : {kept : Leases} → KeepsLeases kept → (slot : ℕ) → slot < 1024 → lease_in kept.slots.items slot ≡ None → length kept.index.entries < kept.index.most
room_in_index {kept} keeps slot within empty =
    let short : count_by is_some kept.slots.items + 1 ≤ length kept.slots.items = count_short is_some kept.slots.items slot None (omega (arith, within, keeps.size)) (ap (λ (o : Option Lease). is_some o) empty) in
    omega (arith, short, keeps.taken, keeps.room, keeps.size)

-- a slot is emptied, and the index gives up its key
pub Keeps-cleared : (old : Leases) {new : Leases} (slot : ℕ) (lease : Lease) → KeepsLeases old → lease_in old.slots.items slot ≡ Some lease → new.slots.items ≡ set old.slots.items slot None → ((key : ℕ) → key_in new.index key ≡ cond (lease.key == key) None (key_in old.index key)) → length new.index.entries + 1 ≡ length old.index.entries → new.index.most ≡ old.index.most → new.per_port ≡ old.per_port → KeepsLeases new
Keeps-cleared old {new} slot lease keeps there slots keys entries most per_port = record {
  size = ap length slots ∙ length-set old.slots.items slot None ∙ keeps.size;
  own = λ other x is.
      let (differs, before) = in_cleared old.slots.items slot other x within (ap (λ xs. lease_in xs other) (sym slots) ∙ is) in
      subst (λ n. IsSlotOfPort n (number_of x.port) other) (sym per_port) (keeps.own other x before);
  indexed = λ other x is.
      let (differs, before) = in_cleared old.slots.items slot other x within (ap (λ xs. lease_in xs other) (sym slots) ∙ is) in
      let apart : lease.key ≢ x.key = λ same. differs (one_slot keeps x.key slot other lease x there same before refl) in
      keys x.key ∙ ap (λ b. cond b None (key_in old.index x.key)) (ne_eqb lease.key x.key apart) ∙ keeps.indexed other x before;
  there = λ key other is. go key other (cases_Bool (lease.key == key)) is;
  taken = omega (arith, entries, keeps.taken, taken_less old.slots.items slot lease there, ap (count_by is_some) slots);
  room = most ∙ keeps.room;
  most = omega (arith, per_port, keeps.most);
}
  where
    within : slot < length old.slots.items
    within = slot_inside old.slots.items slot lease there

    go : (key other : ℕ) → ((lease.key == key) ≡ true) ⊎ ((lease.key == key) ≡ false) → key_in new.index key ≡ Some other → HasLeaseOf key (lease_in new.slots.items other)
    go key other (inl same) is =
        let no : None ≡ Some other = sym (keys key ∙ ap (λ b. cond b None (key_in old.index key)) same) ∙ is in
        cc
    go key other (inr apart) is =
        let before : key_in old.index key ≡ Some other = sym (keys key ∙ ap (λ b. cond b None (key_in old.index key)) apart) ∙ is in
        let has : HasLeaseOf key (lease_in old.slots.items other) = keeps.there key other before in
        let differs : other ≢ slot = λ same. eqb-false lease.key key apart (key_of_slot key (lease_in old.slots.items other) lease has (ap (λ k. lease_in old.slots.items k) same ∙ there)) in
        subst (HasLeaseOf key) (sym (ap (λ xs. lease_in xs other) slots ∙ get_or-set_other old.slots.items slot other None None differs)) has

-- an empty slot is filled, and the index takes its key in
pub Keeps-filled : (old : Leases) {new : Leases} (slot : ℕ) (lease : Lease) → KeepsLeases old → lease_in old.slots.items slot ≡ None → slot < 1024 → IsSlotOfPort old.per_port (number_of lease.port) slot → HasNoneOf lease.key old.slots.items → new.slots.items ≡ set old.slots.items slot (Some lease) → ((key : ℕ) → key_in new.index key ≡ cond (lease.key == key) (Some slot) (key_in old.index key)) → length new.index.entries ≡ length old.index.entries + 1 → new.index.most ≡ old.index.most → new.per_port ≡ old.per_port → KeepsLeases new
Keeps-filled old {new} slot lease keeps empty below own absent slots keys entries most per_port = record {
  size = ap length slots ∙ length-set old.slots.items slot (Some lease) ∙ keeps.size;
  own = λ other x is. owned other x (in_filled old.slots.items slot other lease x within (ap (λ xs. lease_in xs other) (sym slots) ∙ is));
  indexed = λ other x is. indexes other x (in_filled old.slots.items slot other lease x within (ap (λ xs. lease_in xs other) (sym slots) ∙ is));
  there = λ key other is. go key other (cases_Bool (lease.key == key)) is;
  taken = omega (arith, entries, keeps.taken, taken_more old.slots.items slot lease within empty, ap (count_by is_some) slots);
  room = most ∙ keeps.room;
  most = omega (arith, per_port, keeps.most);
}
  where
    within : slot < length old.slots.items
    within = omega (arith, below, keeps.size)

    owned : (other : ℕ) (x : Lease) → ((other ≡ slot) × (lease ≡ x)) ⊎ ((other ≢ slot) × (lease_in old.slots.items other ≡ Some x)) → IsSlotOfPort new.per_port (number_of x.port) other
    owned other x (inl here) =
        let same : IsSlotOfPort old.per_port (number_of x.port) slot = subst (λ (l : Lease). IsSlotOfPort old.per_port (number_of l.port) slot) here.1 own in
        subst (λ n. IsSlotOfPort n (number_of x.port) other) (sym per_port) (subst (λ k. IsSlotOfPort old.per_port (number_of x.port) k) (sym here.0) same)
    owned other x (inr before) = subst (λ n. IsSlotOfPort n (number_of x.port) other) (sym per_port) (keeps.own other x before.1)

    indexes : (other : ℕ) (x : Lease) → ((other ≡ slot) × (lease ≡ x)) ⊎ ((other ≢ slot) × (lease_in old.slots.items other ≡ Some x)) → key_in new.index x.key ≡ Some other
    indexes other x (inl here) =
        let same : lease.key ≡ x.key = ap (λ (l : Lease). l.key) here.1 in
        keys x.key ∙ ap (λ b. cond b (Some slot) (key_in old.index x.key)) (eq-eqb lease.key x.key same) ∙ ap Some (sym here.0)
    indexes other x (inr before) =
        let apart : lease.key ≢ x.key = λ same. absent other x before.1 (sym same) in
        keys x.key ∙ ap (λ b. cond b (Some slot) (key_in old.index x.key)) (ne_eqb lease.key x.key apart) ∙ keeps.indexed other x before.1

    go : (key other : ℕ) → ((lease.key == key) ≡ true) ⊎ ((lease.key == key) ≡ false) → key_in new.index key ≡ Some other → HasLeaseOf key (lease_in new.slots.items other)
    go key other (inl same) is =
        let both : Some slot ≡ Some other = sym (keys key ∙ ap (λ b. cond b (Some slot) (key_in old.index key)) same) ∙ is in
        let here : slot ≡ other = cc in
        let has : lease_in new.slots.items other ≡ Some lease = ap (λ k. lease_in new.slots.items k) (sym here) ∙ ap (λ xs. lease_in xs slot) slots ∙ get_or-set_same old.slots.items slot (Some lease) None within in
        subst (HasLeaseOf key) (sym has) (eqb-true lease.key key same)
    go key other (inr apart) is =
        let before : key_in old.index key ≡ Some other = sym (keys key ∙ ap (λ b. cond b (Some slot) (key_in old.index key)) apart) ∙ is in
        let has : HasLeaseOf key (lease_in old.slots.items other) = keeps.there key other before in
        let differs : other ≢ slot = λ same. no_empty_slot key (lease_in old.slots.items other) has (ap (λ k. lease_in old.slots.items k) same ∙ empty) in
        subst (HasLeaseOf key) (sym (ap (λ xs. lease_in xs other) slots ∙ get_or-set_other old.slots.items slot other (Some lease) None differs)) has

-- what is read of a slot
pub read_slot : (slots : List (Option Lease)) (slot : ℕ) (o : Option Lease) → slot < length slots → o ≡ get_or slots slot o → lease_in slots slot ≡ o
read_slot [] slot o within is = absurd (omega (arith, within))
read_slot (x ∷ xs) zero o within is = sym is
read_slot (x ∷ xs) (suc slot) o within is = read_slot xs slot o (omega (arith, within)) is

pub leased_inside : (key slot : ℕ) (slots : List (Option Lease)) → HasLeaseOf key (lease_in slots slot) → slot < length slots
leased_inside key slot slots has = let (lease, there, of) = lease_there key (lease_in slots slot) has in slot_inside slots slot lease there

pub one_of : {kept : Leases} → KeepsLeases kept → (key slot : ℕ) (lease : Lease) → HasLeaseOf key (lease_in kept.slots.items slot) → lease_in kept.slots.items slot ≡ Some lease → HasOneOf key kept.slots.items slot lease
one_of {kept} keeps key slot lease has there =
    let of : lease.key ≡ key = key_of_slot key (lease_in kept.slots.items slot) lease has there in
    record { there = there; of = of; only = λ other found there_too of_too. one_slot keeps key slot other lease found there of there_too of_too }

-- all leases stay
pub all_stay : (slots : List (Option Lease)) (stays : Lease → Bool) → ((k : ℕ) (lease : Lease) → lease_in slots k ≡ Some lease → stays lease ≡ true) → (k : ℕ) → lease_in slots k ≡ left_if stays (lease_in slots k)
all_stay slots stays each k = go (lease_in slots k) refl
  where
    go : (o : Option Lease) → lease_in slots k ≡ o → o ≡ left_if stays o
    go None is = refl
    go (Some lease) is = ap (λ b. cond b (Some lease) None) (sym (each k lease is))

-- all but the one with a key stay, whose slot is emptied
pub one_goes : {key slot : ℕ} {slots : List (Option Lease)} {lease : Lease} (now : List (Option Lease)) (stays : Lease → Bool) → HasOneOf key slots slot lease → now ≡ set slots slot None → stays lease ≡ false → ((other : Lease) → other.key ≢ key → stays other ≡ true) → (k : ℕ) → lease_in now k ≡ left_if stays (lease_in slots k)
one_goes {key} {slot} {slots} {lease} now stays one emptied goes others k =
    ap (λ xs. lease_in xs k) emptied
    ∙ elim (cases_eq k slot) [
      | inl same ↦
          ap (λ j. lease_in (set slots slot None) j) same ∙ get_or-set_same slots slot None None (slot_inside slots slot lease one.there)
          ∙ sym (ap (left_if stays) (ap (lease_in slots) same ∙ one.there) ∙ ap (λ b. cond b (Some lease) None) goes)
      | inr differs ↦ get_or-set_other slots slot k None None differs ∙ go (lease_in slots k) refl differs
    ]
  where
    go : (o : Option Lease) → lease_in slots k ≡ o → k ≢ slot → o ≡ left_if stays o
    go None is differs = refl
    go (Some x) is differs = ap (λ b. cond b (Some x) None) (sym (others x (λ of. differs (one.only k x is of))))

-- a slot is emptied, or is empty
pub emptied_at : (slots : List (Option Lease)) (slot other : ℕ) → slot < length slots → lease_in (set slots slot None) other ≡ cond (other == slot) None (lease_in slots other)
emptied_at slots slot other within =
    elim (cases_eq other slot) [
      | inl same ↦ ap (λ j. lease_in (set slots slot None) j) same ∙ get_or-set_same slots slot None None within ∙ sym (ap (λ b. cond b None (lease_in slots other)) (eq-eqb other slot same))
      | inr differs ↦ get_or-set_other slots slot other None None differs ∙ sym (ap (λ b. cond b None (lease_in slots other)) (ne_eqb other slot differs))
    ]

pub empty_at : (slots : List (Option Lease)) (slot other : ℕ) → lease_in slots slot ≡ None → lease_in slots other ≡ cond (other == slot) None (lease_in slots other)
empty_at slots slot other empty =
    elim (cases_eq other slot) [
      | inl same ↦ ap (lease_in slots) same ∙ empty ∙ sym (ap (λ b. cond b None (lease_in slots other)) (eq-eqb other slot same))
      | inr differs ↦ sym (ap (λ b. cond b None (lease_in slots other)) (ne_eqb other slot differs))
    ]

-- where a key was forgotten and then a slot emptied, no slot has the key
pub none_has : (key slot : ℕ) (slots left now : List (Option Lease)) → ((k : ℕ) → lease_in left k ≡ left_if (λ lease. not (is_lease_of key lease)) (lease_in slots k)) → ((k : ℕ) → lease_in now k ≡ cond (k == slot) None (lease_in left k)) → HasNoneOf key now
none_has key slot slots left now forgets empties k lease is of = go (cases_Bool (k == slot)) (lease_in slots k) refl
  where
    go : (((k == slot) ≡ true) ⊎ ((k == slot) ≡ false)) → (o : Option Lease) → lease_in slots k ≡ o → ⊥
    go (inl here) o was =
        let no : None ≡ Some lease = sym (empties k ∙ ap (λ b. cond b None (lease_in left k)) here) ∙ is in
        cc
    go (inr elsewhere) None was =
        let no : None ≡ Some lease = sym (empties k ∙ ap (λ b. cond b None (lease_in left k)) elsewhere ∙ forgets k ∙ ap (left_if (λ one. not (is_lease_of key one))) was) ∙ is in
        cc
    go (inr elsewhere) (Some x) was = stay (cases_Bool (is_lease_of key x))
      where
        left_x : cond (not (is_lease_of key x)) (Some x) None ≡ Some lease
        left_x = sym (empties k ∙ ap (λ b. cond b None (lease_in left k)) elsewhere ∙ forgets k ∙ ap (left_if (λ one. not (is_lease_of key one))) was) ∙ is

        stay : ((is_lease_of key x ≡ true) ⊎ (is_lease_of key x ≡ false)) → ⊥
        stay (inl has) =
            let no : None ≡ Some lease = sym (ap (λ b. cond (not b) (Some x) None) has) ∙ left_x in
            cc
        stay (inr hasnt) =
            let same : Some x ≡ Some lease = sym (ap (λ b. cond (not b) (Some x) None) hasnt) ∙ left_x in
            let x_is : x ≡ lease = cc in
            eqb-false x.key key hasnt (ap (λ (l : Lease). l.key) x_is ∙ of)

-- a slot that is free for a key has nothing live once that is forgotten
pub ended_once_left : {key most port t slot : ℕ} {slots : List (Option Lease)} → IsFreeFor key slots most port t slot → has_lease (is_live_lease t) (left_if (λ lease. not (is_lease_of key lease)) (lease_in slots slot)) ≡ false
ended_once_left {key} {most} {port} {t} {slot} {slots} free = go (lease_in slots slot) refl
  where
    go : (o : Option Lease) → lease_in slots slot ≡ o → has_lease (is_live_lease t) (left_if (λ lease. not (is_lease_of key lease)) o) ≡ false
    go None is = refl
    go (Some x) is =
        elim (cases_Bool (is_lease_of key x)) [
          | inl has ↦ ap (λ b. has_lease (is_live_lease t) (cond (not b) (Some x) None)) has
          | inr hasnt ↦ ap (λ b. has_lease (is_live_lease t) (cond (not b) (Some x) None)) hasnt ∙ free.ended x is (eqb-false x.key key hasnt)
        ]

-- no slot has a lease
nothing_in : (slots : List (Option Lease)) → All (λ o. o ≡ None) slots → (slot : ℕ) (lease : Lease) → lease_in slots slot ≡ Some lease → ⊥
nothing_in slots none slot lease there =
    let no : None ≡ Some lease = sym (none slot None (slot_inside slots slot lease there)) ∙ there in
    cc

pub no_lease_kept : {kept : Leases} → All (λ o. o ≡ None) kept.slots.items → length kept.slots.items ≡ 1024 → kept.index.entries ≡ [] → kept.index.most ≡ 1024 → kept.per_port ≤ 64 → KeepsLeases kept
no_lease_kept {kept} none size entries most few = record {
  size = size;
  own = λ slot lease there. absurd (nothing_in kept.slots.items none slot lease there);
  indexed = λ slot lease there. absurd (nothing_in kept.slots.items none slot lease there);
  there = λ key slot is.
      let no : None ≡ Some slot = sym (ap (λ (es : List Entry). option_map (λ (e : Entry). e.key) (find (is_of key) es)) entries) ∙ is in
      cc;
  taken = ap length entries ∙ sym (count_nowhere is_some kept.slots.items None (λ k within. ap (λ (o : Option Lease). is_some o) (none k None within)));
  room = most;
  most = few;
}
