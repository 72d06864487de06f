-- The walk back through a ring to the place of a pair.
use Rattle.std.proofs.Common.{◌≡◌, ◌≢◌, ◌⊎◌, ℕ, ◌^◌, ◌≤◌, ◌<◌, ◌==◌, nat_lt, true, false, ◌&&◌, List, get_or, Option, Some, refl, sym, ap, ◌∙◌, arith, inl, inr}
use Rattle.std.proofs.lemmas.Bool.{cases_eq, cases_lt, lt-ltb, le-ltb, eq-eqb, ltb-true, eqb-true, or_cases, and_parts, false≢true}
use Rattle.timer_wheel.specs.declared.armed.Armed.{Armed}
use Rattle.timer_wheel.specs.Rings.{is_node, bucket_at, bucket_of, rank_at, rank_of, rank_in, node_row, is_sooner, IsRinged}
use Rattle.timer_wheel.proofs.Nodes.{node-end, row_of-end, end_bucket}

-- a node of the pair's bucket, behind which all are higher
pub record IsBelow (slots : List (Option Armed)) (later : List ℕ) (armed : Armed) (node : ℕ) : Type 0 where
  pub there : is_node slots node ≡ true
  pub bucket : bucket_at slots node ≡ bucket_of armed
  pub below : rank_at slots (get_or later node 0) ≢ 0 → rank_of armed < rank_at slots (get_or later node 0)

-- the last node of a bucket
pub starts : (slots : List (Option Armed)) (later earlier : List ℕ) (armed : Armed) (bucket : ℕ) → IsRinged slots later earlier → bucket ≡ bucket_of armed → bucket < 1024 → IsBelow slots later armed (get_or earlier bucket 0)
starts slots later earlier armed bucket ring is low =
    let node : is_node slots bucket ≡ true = node-end slots bucket low in
    let forth : get_or later (get_or earlier bucket 0) 0 ≡ bucket = ring.forth bucket node in
    let none : rank_at slots bucket ≡ 0 = ap rank_in (row_of-end slots bucket low) in
    record {
      there = ring.before bucket node;
      bucket = sym (ring.same (get_or earlier bucket 0) (ring.before bucket node)) ∙ ap (bucket_at slots) forth ∙ sym (end_bucket slots bucket node none) ∙ is;
      below = λ some. absurd (some (ap (rank_at slots) forth ∙ none));
    }

-- the node before a row that is higher
pub goes_back : (slots : List (Option Armed)) (later earlier : List ℕ) (armed row : Armed) (node : ℕ) → IsRinged slots later earlier → IsBelow slots later armed node → node_row slots node ≡ Some row → rank_of armed < rank_of row → IsBelow slots later armed (get_or earlier node 0)
goes_back slots later earlier armed row node ring is found less =
    let forth : get_or later (get_or earlier node 0) 0 ≡ node = ring.forth node is.there in
    let rank : rank_at slots (get_or later (get_or earlier node 0) 0) ≡ rank_of row = ap (rank_at slots) forth ∙ ap rank_in found in
    record {
      there = ring.before node is.there;
      bucket = sym (ring.same (get_or earlier node 0) (ring.before node is.there)) ∙ ap (bucket_at slots) forth ∙ is.bucket;
      below = λ some. omega (arith, rank, less);
    }

-- the walk comes to lower ranks
pub ranks_fall : (slots : List (Option Armed)) (later earlier : List ℕ) (row : Armed) (node : ℕ) → IsRinged slots later earlier → is_node slots node ≡ true → node_row slots node ≡ Some row → rank_at slots (get_or earlier node 0) < rank_at slots node
ranks_fall slots later earlier row node ring is found =
    let forth : rank_at slots (get_or later (get_or earlier node 0) 0) ≡ rank_at slots node = ap (rank_at slots) (ring.forth node is) in
    let rank : rank_at slots node ≡ rank_of row = ap rank_in found in
    let less : rank_at slots (get_or earlier node 0) < rank_at slots (get_or later (get_or earlier node 0) 0) = ring.rising (get_or earlier node 0) (ring.before node is) (λ none. let e : rank_of row ≡ 0 = sym rank ∙ sym forth ∙ none in absurd (omega (arith, e))) in
    omega (arith, less, forth)

-- the order by moment, then address, as numbers
pub sooner_rank : (x y : Armed) → x.address.0 < 2 ^ 128 → is_sooner x y ≡ true → rank_of x < rank_of y
sooner_rank x y fits sooner =
    elim (or_cases (nat_lt x.due y.due) (x.due == y.due && nat_lt x.address.0 y.address.0) sooner) [
      | inl due ↦ let less : x.due < y.due = ltb-true x.due y.due due in omega (arith, less, fits)
      | inr same ↦
          let both : ((x.due == y.due) ≡ true) × (nat_lt x.address.0 y.address.0 ≡ true) = and_parts (x.due == y.due) (nat_lt x.address.0 y.address.0) same in
          let due : x.due ≡ y.due = eqb-true x.due y.due both.0 in
          let address : x.address.0 < y.address.0 = ltb-true x.address.0 y.address.0 both.1 in
          omega (arith, due, address)
    ]

pub later_rank : (x y : Armed) → y.address.0 < 2 ^ 128 → is_sooner x y ≡ false → rank_of y ≤ rank_of x
later_rank x y fits later = go (cases_lt x.due y.due) (cases_eq x.due y.due) (cases_lt x.address.0 y.address.0)
  where
    go : (x.due < y.due) ⊎ (y.due ≤ x.due) → (x.due ≡ y.due) ⊎ (x.due ≢ y.due) → (x.address.0 < y.address.0) ⊎ (y.address.0 ≤ x.address.0) → rank_of y ≤ rank_of x
    go (inl due) e address =
        let sooner : is_sooner x y ≡ true = rw (lt-ltb x.due y.due due) refl in
        absurd (false≢true (sym later ∙ sooner))
    go (inr due) (inl same) (inl address) =
        let sooner : is_sooner x y ≡ true = rw (le-ltb x.due y.due due, eq-eqb x.due y.due same, lt-ltb x.address.0 y.address.0 address) refl in
        absurd (false≢true (sym later ∙ sooner))
    go (inr due) (inl same) (inr address) = omega (arith, same, address)
    go (inr due) (inr other) address =
        let more : y.due < x.due = omega (arith, due, other) in
        omega (arith, more, fits)

-- two pairs of one rank have one address
pub same_rank : (x y : Armed) → x.address.0 < 2 ^ 128 → y.address.0 < 2 ^ 128 → rank_of x ≡ rank_of y → x.address.0 ≡ y.address.0
same_rank x y x_fits y_fits same = go (cases_lt x.due y.due) (cases_lt y.due x.due)
  where
    go : (x.due < y.due) ⊎ (y.due ≤ x.due) → (y.due < x.due) ⊎ (x.due ≤ y.due) → x.address.0 ≡ y.address.0
    go (inl less) other = absurd (omega (arith, less, same, x_fits, y_fits))
    go (inr le) (inl less) = absurd (omega (arith, less, same, x_fits, y_fits))
    go (inr le) (inr ge) = let due : x.due ≡ y.due = omega (arith, le, ge) in omega (arith, due, same)
