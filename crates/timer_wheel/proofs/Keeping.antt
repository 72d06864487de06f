-- What is kept of a wheel once a row is put in or taken out.
use Rattle.std.proofs.Common.{◌≡◌, ◌≢◌, ◌⊎◌, ℕ, suc, ◌+◌, ◌^◌, ◌≤◌, ◌<◌, ◌==◌, min, true, false, cond, is_some, IsSome, count_by, List, [], ◌∷◌, filter, length, get_or, Option, None, Some, refl, sym, ap, ◌∙◌, subst, arith, inl, inr, length-append}
use Rattle.std.proofs.Math.ListN.{set}
use Rattle.std.proofs.lemmas.Bool.{cases_eq, cases_lt, cases_Bool, false≢true, eq-eqb, eqb-true, lt-ltb, le-ltb}
use Rattle.std.proofs.lemmas.List.{length-set}
use Rattle.std.proofs.lemmas.List.Sums.{sum_by-cons}
use Rattle.slab.specs.Slab.{Slab, slab_len, Updates}
use Rattle.addr_index.specs.Indexes.{Index, key_in}
use Rattle.timer_wheel.specs.declared.armed.Armed.{Armed}
use Rattle.savi_kinds.specs.Orders.{is_below, is_above}
use Rattle.timer_wheel.specs.Arms.{armed_address, Wheel, due_in, with_due}
use Rattle.timer_wheel.specs.Rows.{arms_in, armed_at}
use Rattle.timer_wheel.specs.Rings.{is_node, slice_of}
use Rattle.timer_wheel.specs.Kept.{HasRow, IsWired, IsIndexed, IsEarly, IsKept}
use Rattle.timer_wheel.specs.Searches.{GoesBehind}
use Rattle.timer_wheel.proofs.Rising.{is_of-other, with_due-again}
use Rattle.timer_wheel.proofs.Pointwise.{none-some, some-same}
use Rattle.timer_wheel.proofs.Slots.{IsOneEach, rest_each, none_at, due_at, AddsRow, DropsRow, new_row, kept_row, left_row, each_dropped, arms_added, arms_dropped}
use Rattle.timer_wheel.proofs.Nodes.{node-row, row_of-key, node_within, ringed_added, ringed_dropped}

-- the keys of an index once one was put in or taken out
abbrev pub IsChanged : Index → Index → ℕ → Option ℕ → Type 0
IsChanged old new a o = (b : ℕ) → key_in new b ≡ cond (a == b) o (key_in old b)

changed_same : (old new : Index) (a : ℕ) (o : Option ℕ) → IsChanged old new a o → key_in new a ≡ o
changed_same old new a o keys = keys a ∙ rw (eq-eqb a a refl) refl

changed_other : (old new : Index) (a b : ℕ) (o : Option ℕ) → IsChanged old new a o → b ≢ a → key_in new b ≡ key_in old b
changed_other old new a b o keys other = keys b ∙ go (cases_Bool (a == b))
  where
    go : ((a == b) ≡ true) ⊎ ((a == b) ≡ false) → cond (a == b) o (key_in old b) ≡ key_in old b
    go (inl same) = absurd (other (sym (eqb-true a b same)))
    go (inr differs) = rw differs refl

-- no two rows have one address
pub one_each : (rows : Slab Armed) (index : Index) → IsIndexed rows index → IsOneEach rows.slots
one_each rows index is j k x y at_j at_k same =
    some-same j k (sym (is.indexed j x at_j) ∙ ap (key_in index) same ∙ is.indexed k y at_k)

-- where nothing is due for an address no row has it
pub no_row : (slots : List (Option Armed)) (a : ℕ) → IsOneEach slots → due_in (arms_in slots) a ≡ None → (key : ℕ) (x : Armed) → armed_at slots key ≡ Some x → x.address.0 ≢ a
no_row slots a each none key x there same = none-some (due_in (arms_in slots) a) x.due none (ap (due_in (arms_in slots)) (sym same) ∙ due_at slots key x each there)

-- nothing is due where the index has no key
pub none_due : (rows : Slab Armed) (index : Index) (a : ℕ) → IsIndexed rows index → key_in index a ≡ None → due_in (arms_in rows.slots) a ≡ None
none_due rows index a is none =
    none_at rows.slots a (λ k x there same. none-some (key_in index a) k none (ap (key_in index) (sym same) ∙ is.indexed k x there))

-- where a node and its neighbors stand
pub record IsNodeIn (later earlier : List ℕ) (node : ℕ) : Type 0 where
  pub in_later : node < length later
  pub in_earlier : node < length earlier
  pub before : get_or earlier node 0 < length later
  pub behind : get_or later node 0 < length earlier

pub node_in : (rows : Slab Armed) (later earlier : List ℕ) (node : ℕ) → IsWired rows later earlier → is_node rows.slots node ≡ true → IsNodeIn later earlier node
node_in rows later earlier node wired is =
    let here : node < 1024 + rows.capacity = node_within rows later earlier node wired is in
    let before : get_or earlier node 0 < 1024 + rows.capacity = node_within rows later earlier (get_or earlier node 0) wired (wired.ringed.before node is) in
    let behind : get_or later node 0 < 1024 + rows.capacity = node_within rows later earlier (get_or later node 0) wired (wired.ringed.next node is) in
    record {
      in_later = omega (arith, here, wired.later_nodes);
      in_earlier = omega (arith, here, wired.earlier_nodes);
      before = omega (arith, before, wired.later_nodes);
      behind = omega (arith, behind, wired.earlier_nodes);
    }

pub row_in : (rows : Slab Armed) (later earlier : List ℕ) (key : ℕ) (armed : Armed) → IsWired rows later earlier → armed_at rows.slots key ≡ Some armed → IsNodeIn later earlier (1024 + key)
row_in rows later earlier key armed wired there = node_in rows later earlier (1024 + key) wired (node-row rows.slots (1024 + key) armed (row_of-key rows.slots key ∙ there))

-- what a slab became when a row was taken out
pub record IsDropped (rows rows' : Slab Armed) (key : ℕ) (armed : Armed) : Type 0 where
  pub there : armed_at rows.slots key ≡ Some armed
  pub updates : Updates rows rows' key None
  pub len : slab_len rows' + 1 ≡ slab_len rows
  pub capacity : rows'.capacity ≡ rows.capacity

pub drops_row : (rows rows' : Slab Armed) (key : ℕ) (armed : Armed) → IsDropped rows rows' key armed → DropsRow rows.slots rows'.slots key armed
drops_row rows rows' key armed is = record { there = is.there; gone = is.updates.changed; others = is.updates.others }

pub wired_dropped : (rows rows' : Slab Armed) (later earlier : List ℕ) (key : ℕ) (armed : Armed) → IsDropped rows rows' key armed → IsWired rows later earlier → IsWired rows' (set later (get_or earlier (1024 + key) 0) (get_or later (1024 + key) 0)) (set earlier (get_or later (1024 + key) 0) (get_or earlier (1024 + key) 0))
wired_dropped rows rows' later earlier key armed is wired = record {
  ringed = ringed_dropped rows.slots rows'.slots later earlier key armed drops wired.ringed node.before node.behind;
  within = λ k x there. omega (arith, wired.within k x (was k x there), is.capacity);
  fits = λ k x there. wired.fits k x (was k x there);
  later_nodes = omega (arith, length-set later (get_or earlier (1024 + key) 0) (get_or later (1024 + key) 0), wired.later_nodes, is.capacity);
  earlier_nodes = omega (arith, length-set earlier (get_or later (1024 + key) 0) (get_or earlier (1024 + key) 0), wired.earlier_nodes, is.capacity);
  limit = omega (arith, wired.limit, is.capacity);
}
  where
    drops : DropsRow rows.slots rows'.slots key armed
    drops = drops_row rows rows' key armed is

    node : IsNodeIn later earlier (1024 + key)
    node = row_in rows later earlier key armed wired is.there

    was : (k : ℕ) (x : Armed) → armed_at rows'.slots k ≡ Some x → armed_at rows.slots k ≡ Some x
    was k x there = (left_row rows.slots rows'.slots key armed drops k x there).1

-- what a slab became when a row was put in
pub record IsAdded (rows rows' : Slab Armed) (key : ℕ) (armed : Armed) : Type 0 where
  pub empty : armed_at rows.slots key ≡ None
  pub updates : Updates rows rows' key (Some armed)
  pub len : slab_len rows' ≡ slab_len rows + 1
  pub capacity : rows'.capacity ≡ rows.capacity
  pub absent : (k : ℕ) (x : Armed) → armed_at rows.slots k ≡ Some x → x.address.0 ≢ armed.address.0

pub adds_row : (rows rows' : Slab Armed) (key : ℕ) (armed : Armed) → IsAdded rows rows' key armed → AddsRow rows.slots rows'.slots key armed
adds_row rows rows' key armed is = record { added = is.updates.changed; others = is.updates.others; empty = is.empty; absent = is.absent }

pub wired_added : (rows rows' : Slab Armed) (later earlier : List ℕ) (key p : ℕ) (armed : Armed) → IsAdded rows rows' key armed → key < rows'.capacity → armed.address.0 < 2 ^ 128 → GoesBehind rows.slots later armed p → IsWired rows later earlier → IsWired rows' (set (set later (1024 + key) (get_or later p 0)) p (1024 + key)) (set (set earlier (get_or later p 0) (1024 + key)) (1024 + key) p)
wired_added rows rows' later earlier key p armed is low small goes wired = record {
  ringed =
      ringed_added rows.slots rows'.slots later earlier key armed p adds goes wired.ringed (omega (arith, low, is.capacity, wired.later_nodes)) (omega (arith, low, is.capacity, wired.earlier_nodes)) node.in_later node.behind;
  within = λ k x there. within k x (is_new k x there);
  fits = λ k x there. fits k x (is_new k x there);
  later_nodes = omega (arith, length-set (set later (1024 + key) (get_or later p 0)) p (1024 + key), length-set later (1024 + key) (get_or later p 0), wired.later_nodes, is.capacity);
  earlier_nodes = omega (arith, length-set (set earlier (get_or later p 0) (1024 + key)) (1024 + key) p, length-set earlier (get_or later p 0) (1024 + key), wired.earlier_nodes, is.capacity);
  limit = omega (arith, wired.limit, is.capacity);
}
  where
    adds : AddsRow rows.slots rows'.slots key armed
    adds = adds_row rows rows' key armed is

    node : IsNodeIn later earlier p
    node = node_in rows later earlier p wired goes.there

    is_new : (k : ℕ) (x : Armed) → armed_at rows'.slots k ≡ Some x → ((k ≡ key) × (x ≡ armed)) ⊎ ((k ≢ key) × (armed_at rows.slots k ≡ Some x))
    is_new k x there = new_row rows.slots rows'.slots key armed adds k x there

    within : (k : ℕ) (x : Armed) → ((k ≡ key) × (x ≡ armed)) ⊎ ((k ≢ key) × (armed_at rows.slots k ≡ Some x)) → k < rows'.capacity
    within k x (inl mine) = omega (arith, mine.0, low)
    within k x (inr old) = omega (arith, wired.within k x old.1, is.capacity)

    fits : (k : ℕ) (x : Armed) → ((k ≡ key) × (x ≡ armed)) ⊎ ((k ≢ key) × (armed_at rows.slots k ≡ Some x)) → x.address.0 < 2 ^ 128
    fits k x (inl mine) = subst (λ (y : Armed). y.address.0 < 2 ^ 128) (sym mine.1) small
    fits k x (inr old) = wired.fits k x old.1

-- the key of a row that was taken out is taken from the index
pub indexed_dropped : (rows rows' : Slab Armed) (index index' : Index) (key : ℕ) (armed : Armed) → IsDropped rows rows' key armed → IsChanged index index' armed.address.0 None → length index'.entries + 1 ≡ length index.entries → IsIndexed rows index → IsIndexed rows' index'
indexed_dropped rows rows' index index' key armed is keys entries indexed = record {
  indexed = λ k x there. changed_other index index' armed.address.0 x.address.0 None keys (other k x there) ∙ indexed.indexed k x (was k x there).1;
  told = λ a k found. told a k found (cases_eq a armed.address.0);
  count = omega (arith, indexed.count, entries, is.len);
}
  where
    drops : DropsRow rows.slots rows'.slots key armed
    drops = drops_row rows rows' key armed is

    was : (k : ℕ) (x : Armed) → armed_at rows'.slots k ≡ Some x → (k ≢ key) × (armed_at rows.slots k ≡ Some x)
    was k x there = left_row rows.slots rows'.slots key armed drops k x there

    other : (k : ℕ) (x : Armed) → armed_at rows'.slots k ≡ Some x → x.address.0 ≢ armed.address.0
    other k x there same = (was k x there).0 (one_each rows index indexed k key x armed (was k x there).1 is.there same)

    told : (a k : ℕ) → key_in index' a ≡ Some k → (a ≡ armed.address.0) ⊎ (a ≢ armed.address.0) → HasRow rows'.slots k a
    told a k found (inl same) = absurd (none-some (key_in index' a) k (ap (key_in index') same ∙ changed_same index index' armed.address.0 None keys) found)
    told a k found (inr differs) =
        let has : HasRow rows.slots k a = indexed.told a k (sym (changed_other index index' armed.address.0 a None keys differs) ∙ found) in
        let far : k ≢ key = λ same. differs (sym has.address ∙ ap (λ x. x.address.0) (some-same has.armed armed (sym has.there ∙ ap (armed_at rows.slots) same ∙ is.there))) in
        record { armed = has.armed; there = drops.others k far ∙ has.there; address = has.address }

-- the key of a row that was put in is put into the index
pub indexed_added : (rows rows' : Slab Armed) (index index' : Index) (key : ℕ) (armed : Armed) → IsAdded rows rows' key armed → IsChanged index index' armed.address.0 (Some key) → length index'.entries ≡ length index.entries + 1 → IsIndexed rows index → IsIndexed rows' index'
indexed_added rows rows' index index' key armed is keys entries indexed = record {
  indexed = λ k x there. found_key k x (new_row rows.slots rows'.slots key armed adds k x there);
  told = λ a k found. told a k found (cases_eq a armed.address.0);
  count = omega (arith, indexed.count, entries, is.len);
}
  where
    adds : AddsRow rows.slots rows'.slots key armed
    adds = adds_row rows rows' key armed is

    found_key : (k : ℕ) (x : Armed) → ((k ≡ key) × (x ≡ armed)) ⊎ ((k ≢ key) × (armed_at rows.slots k ≡ Some x)) → key_in index' x.address.0 ≡ Some k
    found_key k x (inl mine) = ap (λ y. key_in index' y.address.0) mine.1 ∙ changed_same index index' armed.address.0 (Some key) keys ∙ ap Some (sym mine.0)
    found_key k x (inr old) = changed_other index index' armed.address.0 x.address.0 (Some key) keys (is.absent k x old.1) ∙ indexed.indexed k x old.1

    told : (a k : ℕ) → key_in index' a ≡ Some k → (a ≡ armed.address.0) ⊎ (a ≢ armed.address.0) → HasRow rows'.slots k a
    told a k found (inl same) =
        let here : key ≡ k = some-same key k (sym (changed_same index index' armed.address.0 (Some key) keys) ∙ ap (key_in index') (sym same) ∙ found) in
        record { armed = armed; there = ap (armed_at rows'.slots) (sym here) ∙ adds.added; address = sym same }
    told a k found (inr differs) =
        let has : HasRow rows.slots k a = indexed.told a k (sym (changed_other index index' armed.address.0 a (Some key) keys differs) ∙ found) in
        record { armed = has.armed; there = (kept_row rows.slots rows'.slots key armed adds k has.armed has.there).1; address = has.address }

-- the index stays where a row was taken out and another one of its address put in under its key
pub indexed_renewed : (rows left rows' : Slab Armed) (index : Index) (key : ℕ) (old armed : Armed) → IsDropped rows left key old → IsAdded left rows' key armed → old.address.0 ≡ armed.address.0 → IsIndexed rows index → IsIndexed rows' index
indexed_renewed rows left rows' index key old armed drop add same indexed = record {
  indexed = λ k x there. found_key k x (new_row left.slots rows'.slots key armed adds k x there);
  told = λ a k found. told a k (indexed.told a k found) (cases_eq k key);
  count = omega (arith, indexed.count, drop.len, add.len);
}
  where
    drops : DropsRow rows.slots left.slots key old
    drops = drops_row rows left key old drop

    adds : AddsRow left.slots rows'.slots key armed
    adds = adds_row left rows' key armed add

    found_key : (k : ℕ) (x : Armed) → ((k ≡ key) × (x ≡ armed)) ⊎ ((k ≢ key) × (armed_at left.slots k ≡ Some x)) → key_in index x.address.0 ≡ Some k
    found_key k x (inl mine) = ap (λ y. key_in index y.address.0) mine.1 ∙ ap (key_in index) (sym same) ∙ indexed.indexed key old drop.there ∙ ap Some (sym mine.0)
    found_key k x (inr rest) = indexed.indexed k x (left_row rows.slots left.slots key old drops k x rest.1).1

    told : (a k : ℕ) → HasRow rows.slots k a → (k ≡ key) ⊎ (k ≢ key) → HasRow rows'.slots k a
    told a k has (inl here) =
        let mine : has.armed ≡ old = some-same has.armed old (sym has.there ∙ ap (armed_at rows.slots) here ∙ drop.there) in
        record { armed = armed; there = ap (armed_at rows'.slots) here ∙ adds.added; address = sym same ∙ ap (λ x. x.address.0) (sym mine) ∙ has.address }
    told a k has (inr far) = record { armed = has.armed; there = adds.others k far ∙ drops.others k far ∙ has.there; address = has.address }

-- the cursor once a row was put in
pub early_added : (old new : List (Option Armed)) (key cursor : ℕ) (armed : Armed) → AddsRow old new key armed → IsEarly old cursor → IsEarly new (min cursor (slice_of armed))
early_added old new key cursor armed adds early k x there = go (new_row old new key armed adds k x there)
  where
    go : ((k ≡ key) × (x ≡ armed)) ⊎ ((k ≢ key) × (armed_at old k ≡ Some x)) → min cursor (slice_of armed) ≤ slice_of x
    go (inl mine) = subst (λ (y : Armed). min cursor (slice_of armed) ≤ slice_of y) (sym mine.1) (omega arith)
    go (inr rest) = let le : cursor ≤ slice_of x = early k x rest.1 in omega (arith, le)

pub early_dropped : (old new : List (Option Armed)) (key cursor : ℕ) (armed : Armed) → DropsRow old new key armed → IsEarly old cursor → IsEarly new cursor
early_dropped old new key cursor armed drops early k x there = early k x (left_row old new key armed drops k x there).1

-- what is kept of the wheel in all three cases
pub kept_dropped : (rows rows' : Slab Armed) (index index' : Index) (later later' earlier earlier' : List ℕ) (cursor most key : ℕ) (armed : Armed) → IsDropped rows rows' key armed → IsWired rows' later' earlier' → IsChanged index index' armed.address.0 None → length index'.entries + 1 ≡ length index.entries → index'.most ≡ index.most → IsKept rows index later earlier cursor most → IsKept rows' index' later' earlier' cursor most
kept_dropped rows rows' index index' later later' earlier earlier' cursor most key armed is wired keys entries same kept = record {
  wired = wired;
  indexed = indexed_dropped rows rows' index index' key armed is keys entries kept.indexed;
  room = record {
    count = omega (arith, kept.room.count, is.len);
    row_room = omega (arith, kept.room.row_room, is.capacity);
    index_room = omega (arith, kept.room.index_room, same);
  };
  early = early_dropped rows.slots rows'.slots key cursor armed (drops_row rows rows' key armed is) kept.early;
  cursor_fits = kept.cursor_fits;
}

pub kept_added : (rows rows' : Slab Armed) (index index' : Index) (later later' earlier earlier' : List ℕ) (cursor most key : ℕ) (armed : Armed) → IsAdded rows rows' key armed → IsWired rows' later' earlier' → IsChanged index index' armed.address.0 (Some key) → length index'.entries ≡ length index.entries + 1 → index'.most ≡ index.most → slab_len rows < most → IsKept rows index later earlier cursor most → IsKept rows' index' later' earlier' (min cursor (slice_of armed)) most
kept_added rows rows' index index' later later' earlier earlier' cursor most key armed is wired keys entries same room kept = record {
  wired = wired;
  indexed = indexed_added rows rows' index index' key armed is keys entries kept.indexed;
  room = record {
    count = omega (arith, room, is.len);
    row_room = omega (arith, kept.room.row_room, is.capacity);
    index_room = omega (arith, kept.room.index_room, same);
  };
  early = early_added rows.slots rows'.slots key cursor armed (adds_row rows rows' key armed is) kept.early;
  cursor_fits = omega (arith, kept.cursor_fits);
}

pub kept_renewed : (rows left rows' : Slab Armed) (index : Index) (later later' earlier earlier' : List ℕ) (cursor most key : ℕ) (old armed : Armed) → IsDropped rows left key old → IsAdded left rows' key armed → old.address.0 ≡ armed.address.0 → IsWired rows' later' earlier' → IsKept rows index later earlier cursor most → IsKept rows' index later' earlier' (min cursor (slice_of armed)) most
kept_renewed rows left rows' index later later' earlier earlier' cursor most key old armed drop add same wired kept = record {
  wired = wired;
  indexed = indexed_renewed rows left rows' index key old armed drop add same kept.indexed;
  room = record {
    count = omega (arith, kept.room.count, drop.len, add.len);
    row_room = omega (arith, kept.room.row_room, drop.capacity, add.capacity);
    index_room = kept.room.index_room;
  };
  early = early_added left.slots rows'.slots key cursor armed (adds_row left rows' key armed add) (early_dropped rows.slots left.slots key cursor old (drops_row rows left key old drop) kept.early);
  cursor_fits = omega (arith, kept.cursor_fits);
}

-- how many pairs are lower and higher than an address that has none
parted : (a : ℕ) (xs : List Armed) → due_in xs a ≡ None → length (filter (is_below armed_address a) xs) + length (filter (is_above armed_address a) xs) ≡ length xs
parted a [] none = refl
parted a (x ∷ xs) none = go (cases_eq x.address.0 a) (cases_lt x.address.0 a) (parted a xs)
  where
    go : (x.address.0 ≡ a) ⊎ (x.address.0 ≢ a) → (x.address.0 < a) ⊎ (a ≤ x.address.0) → (due_in xs a ≡ None → length (filter (is_below armed_address a) xs) + length (filter (is_above armed_address a) xs) ≡ length xs) → length (filter (is_below armed_address a) (x ∷ xs)) + length (filter (is_above armed_address a) (x ∷ xs)) ≡ length (x ∷ xs)
    go (inl same) place rest = absurd (none-some (due_in (x ∷ xs) a) x.due none (rw (eq-eqb x.address.0 a same) refl))
    go (inr other) (inl low) rest =
        let behind : due_in xs a ≡ None = rw (is_of-other a x other) at none in
        rw (lt-ltb x.address.0 a low, le-ltb a x.address.0 (omega (arith, low))) (omega (arith, rest behind))
    go (inr other) (inr high) rest =
        let behind : due_in xs a ≡ None = rw (is_of-other a x other) at none in
        rw (le-ltb x.address.0 a high, lt-ltb a x.address.0 (omega (arith, high, other))) (omega (arith, rest behind))

-- no more than there were
pub length-parted_le : (a : ℕ) (xs : List Armed) → length (filter (is_below armed_address a) xs) + length (filter (is_above armed_address a) xs) ≤ length xs
length-parted_le a [] = omega arith
length-parted_le a (x ∷ xs) =
    let rest : length (filter (is_below armed_address a) xs) + length (filter (is_above armed_address a) xs) ≤ length xs = length-parted_le a xs in
    elim (cases_lt x.address.0 a) [
      | inl low ↦ rw (lt-ltb x.address.0 a low, le-ltb a x.address.0 (omega (arith, low))) (omega (arith, rest))
      | inr not_low ↦
          elim (cases_lt a x.address.0) [
            | inl high ↦ rw (le-ltb x.address.0 a not_low, lt-ltb a x.address.0 high) (omega (arith, rest))
            | inr same ↦ rw (le-ltb x.address.0 a not_low, le-ltb a x.address.0 same) (omega (arith, rest))
          ]
    ]

pub length-armed : (a d : ℕ) (xs : List Armed) → due_in xs a ≡ None → length (with_due a (Some d) xs) ≡ length xs + 1
length-armed a d xs none = omega (arith, length-append (filter (is_below armed_address a) xs) (record { address = record { 0 = a }; due = d } ∷ filter (is_above armed_address a) xs), parted a xs none)

-- there are as many pairs as rows
pub length-arms : (slots : List (Option Armed)) → IsOneEach slots → length (arms_in slots) ≡ count_by is_some slots
length-arms [] each = refl
length-arms (None ∷ slots) each = omega (arith, length-arms slots (rest_each None slots each), sum_by-cons {X = Option Armed} (λ o. cond (is_some o) 1 0) None slots)
length-arms (Some x ∷ slots) each =
    omega (
      arith,
      length-arms slots (rest_each (Some x) slots each),
      sum_by-cons (λ o. cond (is_some o) 1 0) (Some x) slots,
      length-armed x.address.0 x.due (arms_in slots)
          (none_at slots x.address.0 (λ k y there same. let e : suc k ≡ 0 = each (suc k) 0 y x there refl same in omega (arith, e))),
    )

-- arming makes no more than one pair more
pub length-armed_le : (a d : ℕ) (xs : List Armed) → length (with_due a (Some d) xs) ≤ length xs + 1
length-armed_le a d xs = omega (arith, length-append (filter (is_below armed_address a) xs) (record { address = record { 0 = a }; due = d } ∷ filter (is_above armed_address a) xs), length-parted_le a xs)

-- what a place that isn't empty has
pub row_there : (o : Option Armed) → IsSome o → (x : Armed) × (o ≡ Some x)
row_there None some = absurd (false≢true some)
row_there (Some x) some = (x, refl)

-- no row that is left has the address of the one that was taken out
pub absent_left : (rows left : Slab Armed) (index : Index) (key : ℕ) (old : Armed) → IsDropped rows left key old → IsIndexed rows index → (k : ℕ) (x : Armed) → armed_at left.slots k ≡ Some x → x.address.0 ≢ old.address.0
absent_left rows left index key old drop indexed k x there same =
    let was : (k ≢ key) × (armed_at rows.slots k ≡ Some x) = left_row rows.slots left.slots key old (drops_row rows left key old drop) k x there in
    was.0 (one_each rows index indexed k key x old was.1 drop.there same)

-- the pairs once a row was taken out, another one of its address put in, and what is kept then
pub arms_renewed : (rows left rows' : Slab Armed) (index : Index) (key : ℕ) (old armed : Armed) → IsDropped rows left key old → IsAdded left rows' key armed → old.address.0 ≡ armed.address.0 → IsIndexed rows index → arms_in rows'.slots ≡ with_due armed.address.0 (Some armed.due) (arms_in rows.slots)
arms_renewed rows left rows' index key old armed drop add same indexed =
    let each : IsOneEach rows.slots = one_each rows index indexed in
    let drops : DropsRow rows.slots left.slots key old = drops_row rows left key old drop in
    arms_added left.slots rows'.slots key armed (adds_row left rows' key armed add) (each_dropped rows.slots left.slots key old drops each)
    ∙ ap (with_due armed.address.0 (Some armed.due)) (arms_dropped rows.slots left.slots key old drops each ∙ ap (λ n. with_due n None (arms_in rows.slots)) same)
    ∙ with_due-again armed.address.0 armed.due (arms_in rows.slots)

-- there is room for one more row
pub room_for : (rows : Slab Armed) (index : Index) (later earlier : List ℕ) (cursor most a : ℕ) (wheel : Wheel) → IsKept rows index later earlier cursor most → record { arms = arms_in rows.slots; most = most } ≡ wheel → key_in index a ≡ None → IsSome (due_in wheel.arms a) ⊎ (length wheel.arms < wheel.most) → slab_len rows < most
room_for rows index later earlier cursor most a wheel kept view none (inl some) =
    let no : IsSome (due_in (arms_in rows.slots) a) = subst (λ (w : Wheel). IsSome (due_in w.arms a)) (sym view) some in
    let nothing : IsSome {T = ℕ} None = subst IsSome (none_due rows index a kept.indexed none) no in
    absurd (false≢true nothing)
room_for rows index later earlier cursor most a wheel kept view none (inr less) =
    let fewer : length (arms_in rows.slots) < most = subst (λ (w : Wheel). length w.arms < w.most) (sym view) less in
    omega (arith, fewer, length-arms rows.slots (one_each rows index kept.indexed))
