-- The rows of other addresses, and a row that gets another moment under its key.
use Rattle.std.proofs.Common.{◌≡◌, ◌≢◌, ◌⊎◌, ℕ, zero, suc, ◌+◌, ◌-◌, ◌^◌, ◌<◌, ◌≤◌, true, cond, is_some, count_by, List, [], ◌∷◌, length, map, get_or, Option, None, Some, refl, sym, ap, ◌∙◌, subst, arith, inl, inr, get_or-set_same, get_or-set_other}
use Rattle.std.proofs.Math.ListN.{set}
use Rattle.std.proofs.lemmas.Bool.{cases_Bool, cases_eq, eq-eqb, le-ltb}
use Rattle.std.proofs.lemmas.List.Sums.{sum_by-set}
use Rattle.slab.specs.Slab.{Slab, slab_len, Updates}
use Rattle.timer_wheel.specs.declared.armed.Armed.{Armed}
use Rattle.timer_wheel.specs.Arms.{is_of}
use Rattle.timer_wheel.specs.Rows.{armed_at, other_than, others_than}
use Rattle.timer_wheel.specs.Rings.{is_node, node_row}
use Rattle.timer_wheel.specs.Kept.{HasRow, IsWired}
use Rattle.timer_wheel.specs.Searches.{GoesBehind}
use Rattle.timer_wheel.proofs.Rising.{is_of-other}
use Rattle.timer_wheel.proofs.Pointwise.{none-some, some-same}
use Rattle.timer_wheel.proofs.Nodes.{node_cases, row_of-end, row_key}
use Rattle.timer_wheel.proofs.Keeping.{IsDropped, IsAdded, wired_dropped, wired_added}

-- a row of another address is a row
pub row_others : (a : ℕ) (slots : List (Option Armed)) (key : ℕ) (x : Armed) → armed_at (map (other_than a) slots) key ≡ Some x → armed_at slots key ≡ Some x
row_others a [] key x found = found
row_others a (None ∷ slots) zero x found = found
row_others a (Some y ∷ slots) zero x found =
    elim (cases_Bool (is_of a y)) [
      | inl here ↦ absurd (none-some (other_than a (Some y)) x (rw here refl) found)
      | inr other ↦ rw other at found
    ]
row_others a (o ∷ slots) (suc key) x found = row_others a slots key x found

-- and isn't of the address
pub address_others : (a : ℕ) (slots : List (Option Armed)) (key : ℕ) (x : Armed) → armed_at (map (other_than a) slots) key ≡ Some x → x.address.0 ≢ a
address_others a [] key x found same = none-some (armed_at [] key) x refl found
address_others a (None ∷ slots) zero x found same = none-some None x refl found
address_others a (Some y ∷ slots) zero x found same =
    let is : y ≡ x = some-same y x (row_others a (Some y ∷ slots) zero x found) in
    let here : is_of a y ≡ true = eq-eqb y.address.0 a (ap (λ z. z.address.0) is ∙ same) in
    none-some (other_than a (Some y)) x (rw here refl) found
address_others a (o ∷ slots) (suc key) x found same = address_others a slots key x found same

-- what a linked node shows is its row
pub shown : (a : ℕ) (slots : List (Option Armed)) (node : ℕ) → is_node (map (other_than a) slots) node ≡ true → node_row slots node ≡ node_row (map (other_than a) slots) node
shown a slots node is =
    elim (node_cases (map (other_than a) slots) node is) [
      | inl end ↦ row_of-end slots node end.low ∙ sym end.none
      | inr row ↦
          let key : (1024 ≤ node) × (armed_at (map (other_than a) slots) (node - 1024) ≡ Some row.0) = row_key (map (other_than a) slots) node row.0 row.1 in
          rw (le-ltb node 1024 key.0) (row_others a slots (node - 1024) row.0 key.1 ∙ sym key.1)
    ]

-- where no row has the address, all are others
pub others_all : (a : ℕ) (slots : List (Option Armed)) → ((k : ℕ) (x : Armed) → armed_at slots k ≡ Some x → x.address.0 ≢ a) → map (other_than a) slots ≡ slots
others_all a [] none = refl
others_all a (None ∷ slots) none = ap (λ xs. None ∷ xs) (others_all a slots (λ k x there. none (suc k) x there))
others_all a (Some y ∷ slots) none =
    let rest : map (other_than a) slots ≡ slots = others_all a slots (λ k x there. none (suc k) x there) in
    rw (is_of-other a y (none 0 y refl), rest) refl

-- where one has it, the others are those under the other keys
pub others_left : (a : ℕ) (slots : List (Option Armed)) (key : ℕ) (old : Armed) → armed_at slots key ≡ Some old → old.address.0 ≡ a → ((k : ℕ) (x : Armed) → armed_at slots k ≡ Some x → x.address.0 ≡ a → k ≡ key) → map (other_than a) slots ≡ set slots key None
others_left a [] key old there same alone = absurd (none-some (armed_at [] key) old refl there)
others_left a (None ∷ slots) zero old there same alone = absurd (none-some None old refl there)
others_left a (Some y ∷ slots) zero old there same alone =
    let here : is_of a y ≡ true = eq-eqb y.address.0 a (ap (λ z. z.address.0) (some-same y old there) ∙ same) in
    let rest : map (other_than a) slots ≡ slots = others_all a slots (λ k x found is. let e : suc k ≡ 0 = alone (suc k) x found is in omega (arith, e)) in
    rw (here, rest) refl
others_left a (None ∷ slots) (suc key) old there same alone =
    ap (λ xs. None ∷ xs) (others_left a slots key old there same (λ k x found is. let e : suc k ≡ suc key = alone (suc k) x found is in omega (arith, e)))
others_left a (Some y ∷ slots) (suc key) old there same alone =
    let rest : map (other_than a) slots ≡ set slots key None = others_left a slots key old there same (λ k x found is. let e : suc k ≡ suc key = alone (suc k) x found is in omega (arith, e)) in
    rw (is_of-other a y (λ is. let e : 0 ≡ suc key = alone 0 y refl is in omega (arith, e)), rest) refl

-- the rows under the other keys
abbrev pub left_by : Slab Armed → ℕ → Slab Armed
left_by rows key = record { slots = set rows.slots key None; vacant_key = rows.vacant_key; capacity = rows.capacity }

row_within : (slots : List (Option Armed)) (key : ℕ) (x : Armed) → armed_at slots key ≡ Some x → key < length slots
row_within [] key x there = absurd (none-some (armed_at [] key) x refl there)
row_within (o ∷ slots) zero x there = omega arith
row_within (o ∷ slots) (suc key) x there = omega (arith, row_within slots key x there)

pub dropped_left : (rows : Slab Armed) (key : ℕ) (old : Armed) → armed_at rows.slots key ≡ Some old → IsDropped rows (left_by rows key) key old
dropped_left rows key old there = record {
  there = there;
  updates = record {
    changed = get_or-set_same rows.slots key None None within;
    others = λ k other. get_or-set_other rows.slots key k None None other;
  };
  len = omega (arith, count, one);
  capacity = refl;
}
  where
    within : key < length rows.slots
    within = row_within rows.slots key old there

    count : count_by is_some (set rows.slots key None) + cond (is_some (get_or rows.slots key None)) 1 0 ≡ count_by is_some rows.slots + 0
    count = sum_by-set (λ (o : Option Armed). cond (is_some o) 1 0) rows.slots key None None within

    one : ◌≡◌ {A = ℕ} (cond (is_some (get_or rows.slots key None)) 1 0) 1
    one = rw there refl

pub added_left : (rows rows' : Slab Armed) (key : ℕ) (old armed : Armed) → armed_at rows.slots key ≡ Some old → Updates rows rows' key (Some armed) → slab_len rows' ≡ slab_len rows → rows'.capacity ≡ rows.capacity → ((k : ℕ) (x : Armed) → armed_at rows.slots k ≡ Some x → x.address.0 ≡ armed.address.0 → k ≡ key) → IsAdded (left_by rows key) rows' key armed
added_left rows rows' key old armed there updates len capacity alone = record {
  empty = drop.updates.changed;
  updates = record { changed = updates.changed; others = λ k other. updates.others k other ∙ sym (drop.updates.others k other) };
  len = omega (arith, len, drop.len);
  capacity = capacity;
  absent = λ k x found same. absent k x found same (cases_eq k key);
}
  where
    drop : IsDropped rows (left_by rows key) key old
    drop = dropped_left rows key old there

    absent : (k : ℕ) (x : Armed) → armed_at (set rows.slots key None) k ≡ Some x → x.address.0 ≡ armed.address.0 → (k ≡ key) ⊎ (k ≢ key) → ⊥
    absent k x found same (inl here) = none-some (armed_at (set rows.slots key None) key) x drop.updates.changed (ap (armed_at (set rows.slots key None)) (sym here) ∙ found)
    absent k x found same (inr other) = other (alone k x (sym (drop.updates.others k other) ∙ found) same)

-- where no row has the address, the rows of others are all
pub rows_all : (a : ℕ) (rows : Slab Armed) → ((k : ℕ) (x : Armed) → armed_at rows.slots k ≡ Some x → x.address.0 ≢ a) → others_than a rows ≡ rows
rows_all a rows none = ap (λ slots. record { slots = slots; vacant_key = rows.vacant_key; capacity = rows.capacity }) (others_all a rows.slots none)

-- the row of an address, which no other one has
pub record IsRowOf (rows : Slab Armed) (key a : ℕ) : Type 0 where
  pub row : HasRow rows.slots key a
  pub alone : (k : ℕ) (x : Armed) → armed_at rows.slots k ≡ Some x → x.address.0 ≡ a → k ≡ key

rows_left : (rows : Slab Armed) (key a : ℕ) → IsRowOf rows key a → others_than a rows ≡ left_by rows key
rows_left rows key a is = ap (λ slots. record { slots = slots; vacant_key = rows.vacant_key; capacity = rows.capacity }) (others_left a rows.slots key is.row.armed is.row.there is.row.address is.alone)

-- the rows of others are linked once that row was taken out of its ring
pub wired_others : (rows : Slab Armed) (later earlier : List ℕ) (key a : ℕ) → IsRowOf rows key a → IsWired rows later earlier → IsWired (others_than a rows) (set later (get_or earlier (1024 + key) 0) (get_or later (1024 + key) 0)) (set earlier (get_or later (1024 + key) 0) (get_or earlier (1024 + key) 0))
wired_others rows later earlier key a is wired =
    subst (λ linked. IsWired linked (set later (get_or earlier (1024 + key) 0) (get_or later (1024 + key) 0)) (set earlier (get_or later (1024 + key) 0) (get_or earlier (1024 + key) 0))) (sym (rows_left rows key a is))
    (wired_dropped rows (left_by rows key) later earlier key is.row.armed (dropped_left rows key is.row.armed is.row.there) wired)

-- all are linked once it was put behind its new place
pub wired_renewed : (rows rows' : Slab Armed) (later earlier : List ℕ) (key p : ℕ) (armed : Armed) → IsRowOf rows key armed.address.0 → IsAdded (left_by rows key) rows' key armed → key < rows'.capacity → armed.address.0 < 2 ^ 128 → GoesBehind (others_than armed.address.0 rows).slots later armed p → IsWired (others_than armed.address.0 rows) later earlier → IsWired rows' (set (set later (1024 + key) (get_or later p 0)) p (1024 + key)) (set (set earlier (get_or later p 0) (1024 + key)) (1024 + key) p)
wired_renewed rows rows' later earlier key p armed is added low fits goes wired =
    let left : others_than armed.address.0 rows ≡ left_by rows key = rows_left rows key armed.address.0 is in
    wired_added (left_by rows key) rows' later earlier key p armed added low fits (subst (λ (linked : Slab Armed). GoesBehind linked.slots later armed p) left goes) (subst (λ linked. IsWired linked later earlier) left wired)
