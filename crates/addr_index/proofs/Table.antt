-- The table when an entry is taken in or given up.
use Rattle.std.proofs.Common.{◌≡◌, ◌≢◌, ◌==◌, ◌≤◌, ◌<◌, ◌+◌, ◌*◌, ◌^◌, ℕ, zero, suc, Bool, true, false, cond, is_some, List, [], ◌∷◌, length, get_or, find, Option, Some, None, option_map, refl, sym, ◌∙◌, ap, subst, arith, inl, inr, get_or-set_other, get_or-set_same}
use Rattle.std.proofs.Math.ListN.{set, length-set}
use Rattle.std.proofs.lemmas.Bool.{cases_Bool, cases_eq, eqb-true}
use Rattle.addr_index.specs.declared.entry.Entry.{Entry}
use Rattle.addr_index.specs.Indexes.{Index, is_of, key_in, HasOneEach}
use Rattle.addr_index.specs.Homes.{home_of}
use Rattle.addr_index.specs.Ways.{IsOnWay}
use Rattle.addr_index.specs.Places.{in_place, entries_of, IsReached, IsPlaceOf, IsRoomFor, HasSameEntries, IsPlaceTable}
use Rattle.addr_index.proofs.Entries.{count_absent}
use Rattle.addr_index.proofs.Filling.{found_place, find_filled, count_filled, length_filled, find_emptied, count_emptied, length_emptied, none_in_empty}
use Rattle.addr_index.proofs.Closing.{within_places}

-- the index of these places
abbrev pub index_of : List (Option Entry) → ℕ → Index
index_of places most = record { entries = entries_of places; most = most }

-- what is read of a place
pub read_place : (places : List (Option Entry)) (p : ℕ) (o : Option Entry) → p < length places → o ≡ get_or places p o → o ≡ in_place places p
read_place [] p o within is = absurd (omega (arith, within))
read_place (x ∷ places) zero o within is = is
read_place (x ∷ places) (suc p) o within is = read_place places p o (omega (arith, within)) is

-- the entry of an address that has a place
pub place_entry : (o : Option Entry) (a : ℕ) → option_map (λ (e : Entry). e.address) o ≡ Some a → (e : Entry) × (o ≡ Some e) × (e.address ≡ a)
place_entry None a is = cc
place_entry (Some e) a is = (e, refl, cc)

pub key_placed : (places : List (Option Entry)) (most a p : ℕ) → HasOneEach (entries_of places) → IsPlaceOf a places p → key_in (index_of places most) a ≡ option_map (λ (e : Entry). e.key) (in_place places p)
key_placed places most a p each place =
    let (e, there, same) = place_entry (in_place places p) a place.there in
    let found : find (is_of a) (entries_of places) ≡ Some e = subst (λ (x : ℕ). find (is_of x) (entries_of places) ≡ Some e) same (found_place places p e each there) in
    ap (option_map (λ (x : Entry). x.key)) found ∙ sym (ap (option_map (λ (x : Entry). x.key)) there)

pub key_there : (places : List (Option Entry)) (most a p : ℕ) → HasOneEach (entries_of places) → IsPlaceOf a places p → is_some (key_in (index_of places most) a) ≡ true
key_there places most a p each place =
    let (e, there, same) = place_entry (in_place places p) a place.there in
    ap is_some (key_placed places most a p each place ∙ ap (option_map (λ (x : Entry). x.key)) there)

pub place_absent : (places : List (Option Entry)) (most a p : ℕ) → HasOneEach (entries_of places) → IsPlaceOf a places p → key_in (index_of places most) a ≡ None → ⊥
place_absent places most a p each place absent =
    let there : is_some (key_in (index_of places most) a) ≡ true = key_there places most a p each place in
    let none : is_some (key_in (index_of places most) a) ≡ false = rw absent refl in
    cc

-- an entry is taken in
pub IsTable-insert : (places : List (Option Entry)) (most p : ℕ) (e : Entry) → IsPlaceTable places most → IsRoomFor e.address places p → length (entries_of places) < most → IsPlaceTable (set places p (Some e)) most
IsTable-insert places most p e table room less = record {
  reached = rw (length-set {A = Option Entry} places p (Some e)) reached;
  distinct = λ b. (elim (cases_Bool (is_of b e)) [
    | inl is ↦
        let same : e.address ≡ b = eqb-true e.address b is in
        let absent : find (is_of b) (entries_of places) ≡ None = subst (λ (x : ℕ). find (is_of x) (entries_of places) ≡ None) same room.absent in
        let one : ◌≡◌ {A = ℕ} (cond (is_of b e) 1 0) 1 = rw is refl in
        omega (arith, count_filled places p e b room.within room.empty, one, count_absent b (entries_of places) absent)
    | inr isnt ↦
        let none : ◌≡◌ {A = ℕ} (cond (is_of b e) 1 0) 0 = rw isnt refl in
        omega (arith, count_filled places p e b room.within room.empty, none, table.distinct b)
  ]);
  room = omega (arith, length_filled places p e room.within room.empty, less);
  some = table.some;
  sparse = rw length-set table.sparse;
  limit = rw length-set table.limit;
}
  where
    filled : in_place (set places p (Some e)) p ≡ Some e
    filled = get_or-set_same places p (Some e) None room.within

    others : (y : ℕ) → y ≢ p → in_place (set places p (Some e)) y ≡ in_place places y
    others y other = get_or-set_other places p y (Some e) None other

    reached : IsReached (length places) (set places p (Some e))
    reached q x f there on within empty =
        let x_p : x ≢ p = λ (is : x ≡ p). (let none : in_place (set places p (Some e)) p ≡ None = subst (λ (y : ℕ). in_place (set places p (Some e)) y ≡ None) is empty in let some : in_place (set places p (Some e)) p ≡ Some e = filled in cc) in
        let x_empty : in_place places x ≡ None = sym (others x x_p) ∙ empty in
        elim (cases_eq q p) [
          | inl q_p ↦
              let same : f ≡ e = (let f_p : in_place (set places p (Some e)) p ≡ Some f = subst (λ (y : ℕ). in_place (set places p (Some e)) y ≡ Some f) q_p there in let e_p : in_place (set places p (Some e)) p ≡ Some e = filled in cc) in
              let on' : IsOnWay (home_of e.address (length places)) p x = subst (λ (y : ℕ). IsOnWay (home_of e.address (length places)) y x) q_p (subst (λ (g : Entry). IsOnWay (home_of g.address (length places)) q x) same on) in
              room.reached x on' within x_empty
          | inr q_p ↦ table.reached q x f (sym (others q q_p) ∙ there) on within x_empty
        ]

pub key_insert : (places : List (Option Entry)) (most p a k b : ℕ) → IsRoomFor a places p → key_in (index_of (set places p (Some (record { address = a; key = k }))) most) b ≡ cond (a == b) (Some k) (key_in (index_of places most) b)
key_insert places most p a k b room =
    rw (find_filled places p (record { address = a; key = k }) b room.within room.empty room.absent) (go (a == b) (find (is_of b) (entries_of places)))
  where
    go : (v : Bool) (o : Option Entry) → option_map (λ (e : Entry). e.key) (cond v (Some (record { address = a; key = k })) o) ≡ cond v (Some k) (option_map (λ (e : Entry). e.key) o)
    go true o = refl
    go false o = refl

-- a place is emptied
pub distinct_emptied : (places : List (Option Entry)) (a p : ℕ) → HasOneEach (entries_of places) → IsPlaceOf a places p → HasOneEach (entries_of (set places p None))
distinct_emptied places a p each place b =
    let (e, there, same) = place_entry (in_place places p) a place.there in
    omega (arith, count_emptied places p e b there, each b)

pub length_removed : (places : List (Option Entry)) (a p : ℕ) → IsPlaceOf a places p → length (entries_of (set places p None)) + 1 ≡ length (entries_of places)
length_removed places a p place =
    let (e, there, same) = place_entry (in_place places p) a place.there in
    length_emptied places p e there

-- an entry is given up
pub IsTable-remove : (places new : List (Option Entry)) (most a p : ℕ) → IsPlaceTable places most → IsPlaceOf a places p → HasSameEntries (set places p None) new → IsReached (length new) new → length new ≡ length places → IsPlaceTable new most
IsTable-remove places new most a p table place same reached size = record {
  reached = reached;
  distinct = same.distinct;
  room = omega (arith, same.count, length_removed places a p place, table.room);
  some = table.some;
  sparse = omega (arith, size, table.sparse);
  limit = omega (arith, size, table.limit);
}

pub key_remove : (places new : List (Option Entry)) (most a p b : ℕ) → HasOneEach (entries_of places) → IsPlaceOf a places p → HasSameEntries (set places p None) new → key_in (index_of new most) b ≡ cond (a == b) None (key_in (index_of places most) b)
key_remove places new most a p b each place same =
    let (e, there, same_address) = place_entry (in_place places p) a place.there in
    let gone : find (is_of b) (entries_of (set places p None)) ≡ cond (a == b) None (find (is_of b) (entries_of places)) = subst (λ (x : ℕ). find (is_of b) (entries_of (set places p None)) ≡ cond (x == b) None (find (is_of b) (entries_of places))) same_address (find_emptied places p e b there each) in
    rw (same.found b, gone) (go (a == b) (find (is_of b) (entries_of places)))
  where
    go : (v : Bool) (o : Option Entry) → ◌≡◌ {A = Option ℕ} (option_map (λ (e : Entry). e.key) (cond v None o)) (cond v None (option_map (λ (e : Entry). e.key) o))
    go true o = refl
    go false o = refl

pub length_remove : (places new : List (Option Entry)) (most a p : ℕ) → HasOneEach (entries_of places) → IsPlaceOf a places p → HasSameEntries (set places p None) new → length (entries_of new) + cond (is_some (key_in (index_of places most) a)) 1 0 ≡ length (entries_of places)
length_remove places new most a p each place same =
    let one : ◌≡◌ {A = ℕ} (cond (is_some (key_in (index_of places most) a)) 1 0) 1 = rw (key_there places most a p each place) refl in
    omega (arith, one, same.count, length_removed places a p place)

-- no entry
pub IsTable-empty : (places : List (Option Entry)) (most : ℕ) → ((p : ℕ) → p < length places → in_place places p ≡ None) → 1 ≤ most → 2 * most ≤ length places → length places ≤ 2 ^ 22 → IsPlaceTable places most
IsTable-empty places most empty some sparse limit = record {
  reached = λ p x e there on within none. (let nothing : in_place places p ≡ None = empty p (within_places places p e there) in cc);
  distinct = λ b. rw nowhere (omega arith);
  room = omega (arith, ap length nowhere);
  some = some;
  sparse = sparse;
  limit = limit;
}
  where
    nowhere : entries_of places ≡ []
    nowhere = none_in_empty places empty
