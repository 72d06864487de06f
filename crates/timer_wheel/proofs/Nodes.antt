-- Nodes of rings, and the rows that they stand for.
use Rattle.std.proofs.Common.{◌≡◌, ◌≢◌, ◌⊎◌, ℕ, ◌+◌, ◌-◌, ◌≤◌, ◌<◌, nat_lt, Bool, true, false, ◌||◌, is_some, List, length, get_or, Option, None, Some, refl, sym, ap, ◌∙◌, subst, arith, inl, inr}
use Rattle.std.proofs.Math.ListN.{set}
use Rattle.std.proofs.lemmas.Bool.{cases_lt, false≢true, lt-ltb, le-ltb}
use Rattle.std.proofs.lemmas.List.{get_or-set_same, get_or-set_other, length-set}
use Rattle.slab.specs.Slab.{Slab}
use Rattle.timer_wheel.specs.declared.armed.Armed.{Armed}
use Rattle.timer_wheel.specs.Rows.{armed_at}
use Rattle.timer_wheel.specs.Rings.{bucket_of, node_row, is_node, bucket_in, bucket_at, rank_of, rank_in, rank_at, IsRinged}
use Rattle.timer_wheel.specs.Kept.{IsWired}
use Rattle.timer_wheel.specs.Searches.{GoesBehind, LeastOf}
use Rattle.timer_wheel.proofs.Pointwise.{none-some}
use Rattle.timer_wheel.proofs.Slots.{AddsRow, DropsRow}
use Rattle.timer_wheel.proofs.Links.{IsFirst, first_least, put_in, take_out}

-- the node of a key
pub row_of-key : (slots : List (Option Armed)) (key : ℕ) → node_row slots (1024 + key) ≡ armed_at slots key
row_of-key slots key =
    let same : 1024 + key - 1024 ≡ key = omega arith in
    rw (le-ltb (1024 + key) 1024 (omega arith)) (ap (armed_at slots) same)

-- an end has no row
pub row_of-end : (slots : List (Option Armed)) (node : ℕ) → node < 1024 → node_row slots node ≡ None
row_of-end slots node end = rw (lt-ltb node 1024 end) refl

-- a node with a row is that of its key
pub row_key : (slots : List (Option Armed)) (node : ℕ) (armed : Armed) → node_row slots node ≡ Some armed → (1024 ≤ node) × (armed_at slots (node - 1024) ≡ Some armed)
row_key slots node armed found =
    elim (cases_lt node 1024) [
      | inl end ↦ absurd (none-some (node_row slots node) armed (row_of-end slots node end) found)
      | inr row ↦ (row, rw (le-ltb node 1024 row) at found)
    ]

pub node-end : (slots : List (Option Armed)) (node : ℕ) → node < 1024 → is_node slots node ≡ true
node-end slots node end = rw (lt-ltb node 1024 end) refl

or_true : (b : Bool) → (b || true) ≡ true
or_true true = refl
or_true false = refl

pub node-row : (slots : List (Option Armed)) (node : ℕ) (armed : Armed) → node_row slots node ≡ Some armed → is_node slots node ≡ true
node-row slots node armed found = ap (λ o. nat_lt node 1024 || is_some o) found ∙ or_true (nat_lt node 1024)

-- a node is an end or has a row
pub record IsEnd (slots : List (Option Armed)) (node : ℕ) : Type 0 where
  pub low : node < 1024
  pub none : node_row slots node ≡ None

pub node_cases : (slots : List (Option Armed)) (node : ℕ) → is_node slots node ≡ true → IsEnd slots node ⊎ ((armed : Armed) × (node_row slots node ≡ Some armed))
node_cases slots node is = go (cases_lt node 1024) (node_row slots node) refl
  where
    go : (node < 1024) ⊎ (1024 ≤ node) → (o : Option Armed) → node_row slots node ≡ o → IsEnd slots node ⊎ ((armed : Armed) × (node_row slots node ≡ Some armed))
    go (inl low) o found = inl (record { low = low; none = row_of-end slots node low })
    go (inr high) None found =
        let no : (false || false) ≡ true = ap (λ b. b || false) (sym (le-ltb node 1024 high)) ∙ ap (λ o. nat_lt node 1024 || is_some o) (sym found) ∙ is in
        absurd (false≢true no)
    go (inr high) (Some armed) found = inr (armed, found)

-- an end is the one of its bucket
pub end_bucket : (slots : List (Option Armed)) (node : ℕ) → is_node slots node ≡ true → rank_at slots node ≡ 0 → node ≡ bucket_at slots node
end_bucket slots node is none =
    elim (node_cases slots node is) [
      | inl end ↦ sym (ap (bucket_in node) end.none)
      | inr row ↦ let some : rank_of row.0 ≡ 0 = sym (ap rank_in row.1) ∙ none in absurd (omega (arith, some))
    ]

pub node_within : (rows : Slab Armed) (later earlier : List ℕ) (node : ℕ) → IsWired rows later earlier → is_node rows.slots node ≡ true → node < 1024 + rows.capacity
node_within rows later earlier node wired is =
    elim (node_cases rows.slots node is) [
      | inl end ↦ omega (arith, end.low)
      | inr row ↦
          let key : (1024 ≤ node) × (armed_at rows.slots (node - 1024) ≡ Some row.0) = row_key rows.slots node row.0 row.1 in
          let within : node - 1024 < rows.capacity = wired.within (node - 1024) row.0 key.1 in
          omega (arith, key.0, within)
    ]

-- the other nodes when the row of a key changes
pub row_of-other : (old new : List (Option Armed)) (key node : ℕ) → ((k : ℕ) → k ≢ key → armed_at new k ≡ armed_at old k) → node ≢ 1024 + key → node_row new node ≡ node_row old node
row_of-other old new key node others differs =
    elim (cases_lt node 1024) [
      | inl end ↦ row_of-end new node end ∙ sym (row_of-end old node end)
      | inr high ↦
          let same : armed_at new (node - 1024) ≡ armed_at old (node - 1024) = others (node - 1024) (λ e. differs (omega (arith, e, high))) in
          rw (le-ltb node 1024 high) same
    ]

bounds_set : (xs : List ℕ) (i v n : ℕ) → n < length xs → n < length (set xs i v)
bounds_set xs i v n within = omega (arith, within, length-set xs i v)

-- what changes at the other nodes
pub record KeepsOthers (old new : List (Option Armed)) (node : ℕ) : Type 0 where
  pub nodes : (y : ℕ) → y ≢ node → is_node new y ≡ is_node old y
  pub buckets : (y : ℕ) → y ≢ node → bucket_at new y ≡ bucket_at old y
  pub ranks : (y : ℕ) → y ≢ node → rank_at new y ≡ rank_at old y

pub keeps_others : (old new : List (Option Armed)) (key : ℕ) → ((k : ℕ) → k ≢ key → armed_at new k ≡ armed_at old k) → KeepsOthers old new (1024 + key)
keeps_others old new key others = record {
  nodes = λ y differs. ap (λ o. nat_lt y 1024 || is_some o) (row_of-other old new key y others differs);
  buckets = λ y differs. ap (bucket_in y) (row_of-other old new key y others differs);
  ranks = λ y differs. ap rank_in (row_of-other old new key y others differs);
}

not_node : (slots : List (Option Armed)) (key : ℕ) → armed_at slots key ≡ None → is_node slots (1024 + key) ≡ false
not_node slots key empty =
    let none : node_row slots (1024 + key) ≡ None = row_of-key slots key ∙ empty in
    ap (λ o. nat_lt (1024 + key) 1024 || is_some o) none ∙ ap (λ b. b || false) (le-ltb (1024 + key) 1024 (omega arith))

differ : (slots : List (Option Armed)) (x y : ℕ) → is_node slots x ≡ false → is_node slots y ≡ true → y ≢ x
differ slots x y out is same = false≢true (sym out ∙ ap (is_node slots) (sym same) ∙ is)

set_same : (xs : List ℕ) (i v : ℕ) → i < length xs → get_or (set xs i v) i 0 ≡ v
set_same xs i v within = get_or-set_same xs i v 0 within

set_other : (xs : List ℕ) (i k v : ℕ) → k ≢ i → get_or (set xs i v) k 0 ≡ get_or xs k 0
set_other xs i k v differs = get_or-set_other xs i k v 0 differs

-- a row is put into the ring of its bucket
pub ringed_added : (old new : List (Option Armed)) (later earlier : List ℕ) (key : ℕ) (armed : Armed) (p : ℕ) → AddsRow old new key armed → GoesBehind old later armed p → IsRinged old later earlier → 1024 + key < length later → 1024 + key < length earlier → p < length later → get_or later p 0 < length earlier → IsRinged new (set (set later (1024 + key) (get_or later p 0)) p (1024 + key)) (set (set earlier (get_or later p 0) (1024 + key)) (1024 + key) p)
ringed_added old new later earlier key armed p adds goes ring in_later in_earlier p_in n_in =
    put_in (is_node old) (is_node new) (bucket_at old) (bucket_at new) (rank_at old) (rank_at new) (λ y. get_or later y 0) (λ y. get_or (set (set later (1024 + key) (get_or later p 0)) p (1024 + key)) y 0) (λ y. get_or earlier y 0)
    (λ y. get_or (set (set earlier (get_or later p 0) (1024 + key)) (1024 + key) p) y 0) (1024 + key) p
    (record {
      absent = absent;
      node = node-row new (1024 + key) armed mine;
      nodes = others.nodes;
      buckets = others.buckets;
      ranks = others.ranks;
      there = goes.there;
      bucket = ap (bucket_in (1024 + key)) mine ∙ sym goes.bucket;
      above = omega (arith, goes.above, ap rank_in mine);
      below = λ some. let less : rank_of armed < rank_at old (get_or later p 0) = goes.below some in omega (arith, less, ap rank_in mine);
      later_p = set_same (set later (1024 + key) (get_or later p 0)) p (1024 + key) (bounds_set later (1024 + key) (get_or later p 0) p p_in);
      later_x = set_other (set later (1024 + key) (get_or later p 0)) p (1024 + key) (1024 + key) (λ same. p_other (sym same)) ∙ set_same later (1024 + key) (get_or later p 0) in_later;
      later = λ y far other. set_other (set later (1024 + key) (get_or later p 0)) p y (1024 + key) far ∙ set_other later (1024 + key) y (get_or later p 0) other;
      earlier_n = set_other (set earlier (get_or later p 0) (1024 + key)) (1024 + key) (get_or later p 0) p n_other ∙ set_same earlier (get_or later p 0) (1024 + key) n_in;
      earlier_x = set_same (set earlier (get_or later p 0) (1024 + key)) (1024 + key) p (bounds_set earlier (get_or later p 0) (1024 + key) (1024 + key) in_earlier);
      earlier = λ y far other. set_other (set earlier (get_or later p 0) (1024 + key)) (1024 + key) y p other ∙ set_other earlier (get_or later p 0) y (1024 + key) far;
    })
    ring
  where
    absent : is_node old (1024 + key) ≡ false
    absent = not_node old key adds.empty

    mine : node_row new (1024 + key) ≡ Some armed
    mine = row_of-key new key ∙ adds.added

    others : KeepsOthers old new (1024 + key)
    others = keeps_others old new key adds.others

    p_other : p ≢ 1024 + key
    p_other = differ old (1024 + key) p absent goes.there

    n_other : get_or later p 0 ≢ 1024 + key
    n_other = differ old (1024 + key) (get_or later p 0) absent (ring.next p goes.there)

-- a row is taken out
pub ringed_dropped : (old new : List (Option Armed)) (later earlier : List ℕ) (key : ℕ) (armed : Armed) → DropsRow old new key armed → IsRinged old later earlier → get_or earlier (1024 + key) 0 < length later → get_or later (1024 + key) 0 < length earlier → IsRinged new (set later (get_or earlier (1024 + key) 0) (get_or later (1024 + key) 0)) (set earlier (get_or later (1024 + key) 0) (get_or earlier (1024 + key) 0))
ringed_dropped old new later earlier key armed drops ring p_in n_in =
    take_out (is_node old) (is_node new) (bucket_at old) (bucket_at new) (rank_at old) (rank_at new) (λ y. get_or later y 0) (λ y. get_or (set later (get_or earlier (1024 + key) 0) (get_or later (1024 + key) 0)) y 0) (λ y. get_or earlier y 0)
    (λ y. get_or (set earlier (get_or later (1024 + key) 0) (get_or earlier (1024 + key) 0)) y 0) (1024 + key)
    (record {
      there = node-row old (1024 + key) armed mine;
      row = λ none. some_rank (sym (ap rank_in mine) ∙ none);
      gone = not_node new key drops.gone;
      nodes = others.nodes;
      buckets = others.buckets;
      ranks = others.ranks;
      later_p = set_same later (get_or earlier (1024 + key) 0) (get_or later (1024 + key) 0) p_in;
      later = λ y far. set_other later (get_or earlier (1024 + key) 0) y (get_or later (1024 + key) 0) far;
      earlier_n = set_same earlier (get_or later (1024 + key) 0) (get_or earlier (1024 + key) 0) n_in;
      earlier = λ y far. set_other earlier (get_or later (1024 + key) 0) y (get_or earlier (1024 + key) 0) far;
    })
    ring
  where
    mine : node_row old (1024 + key) ≡ Some armed
    mine = row_of-key old key ∙ drops.there

    some_rank : rank_of armed ≡ 0 → ⊥
    some_rank none = omega (arith, none)

    others : KeepsOthers old new (1024 + key)
    others = keeps_others old new key drops.others

-- the node that follows the end of a bucket has its least row, if it has any
pub bucket_least : (slots : List (Option Armed)) (later earlier : List ℕ) (bucket : ℕ) → IsRinged slots later earlier → bucket < 1024 → LeastOf slots (λ armed. bucket_of armed ≡ bucket) (node_row slots (get_or later bucket 0))
bucket_least slots later earlier bucket ring low = go (node_row slots (get_or later bucket 0)) refl
  where
    -- the first node is no later than a row of the bucket
    first : (key : ℕ) (armed : Armed) → armed_at slots key ≡ Some armed → bucket_of armed ≡ bucket → (rank_at slots (get_or later bucket 0) ≢ 0) × (rank_at slots (get_or later bucket 0) ≤ rank_of armed)
    first key armed there such =
        let mine : node_row slots (1024 + key) ≡ Some armed = row_of-key slots key ∙ there in
        let rank : rank_at slots (1024 + key) ≡ rank_of armed = ap rank_in mine in
        let found : IsFirst (rank_at slots) (λ y. get_or later y 0) (bucket_at slots (1024 + key)) (1024 + key) =
        first_least (is_node slots) (bucket_at slots) (rank_at slots) (λ y. get_or later y 0) (λ y. get_or earlier y 0) ring (end_bucket slots) (rank_of armed) (1024 + key) (node-row slots (1024 + key) armed mine) (omega (arith, rank))
        (λ none. let e : rank_of armed ≡ 0 = sym rank ∙ none in absurd (omega (arith, e))) in
        let here : bucket_at slots (1024 + key) ≡ bucket = ap (bucket_in (1024 + key)) mine ∙ such in
        let of_bucket : IsFirst (rank_at slots) (λ y. get_or later y 0) bucket (1024 + key) = subst (λ b. IsFirst (rank_at slots) (λ y. get_or later y 0) b (1024 + key)) here found in
        (of_bucket.some, omega (arith, of_bucket.least, rank))

    go : (o : Option Armed) → node_row slots (get_or later bucket 0) ≡ o → LeastOf slots (λ armed. bucket_of armed ≡ bucket) o
    go None is = λ key armed there such. (first key armed there such).0 (ap rank_in is)
    go (Some least) is = record {
      row = record { key = get_or later bucket 0 - 1024; there = (row_key slots (get_or later bucket 0) least is).1 };
      lowest = λ key armed there such. let both : rank_at slots (get_or later bucket 0) ≤ rank_of armed = (first key armed there such).1 in omega (arith, both, ap rank_in is);
    }
