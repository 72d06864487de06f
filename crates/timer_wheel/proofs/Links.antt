-- Rings of nodes: a node that is put in, one that is taken out, and the first of a ring.
use Rattle.std.proofs.Common.{◌≡◌, ◌≢◌, ◌⊎◌, ℕ, zero, suc, ◌≤◌, ◌<◌, Bool, true, false, sym, ap, ◌∙◌, arith, inl, inr}
use Rattle.std.proofs.lemmas.Bool.{cases_eq, false≢true}
use Rattle.timer_wheel.specs.Rings.{IsLinked}

-- the first of a ring is the least
pub record IsFirst (rank later : ℕ → ℕ) (bucket node : ℕ) : Type 0 where
  pub some : rank (later bucket) ≢ 0
  pub least : rank (later bucket) ≤ rank node

pub first_least : (N : ℕ → Bool) (B R L E : ℕ → ℕ) → IsLinked N B R L E → ((x : ℕ) → N x ≡ true → R x ≡ 0 → x ≡ B x) → (n x : ℕ) → N x ≡ true → R x ≤ n → R x ≢ 0 → IsFirst R L (B x) x
first_least N B R L E ring ends zero x node bound some = absurd (some (omega (arith, bound)))
first_least N B R L E ring ends (suc n) x node bound some = go (first_least N B R L E ring ends n) (cases_eq (R (E x)) 0)
  where
    before : N (E x) ≡ true
    before = ring.before x node

    forth : L (E x) ≡ x
    forth = ring.forth x node

    bucket : B (E x) ≡ B x
    bucket = sym (ring.same (E x) before) ∙ ap B forth

    rank : R (L (E x)) ≡ R x
    rank = ap R forth

    go : ((y : ℕ) → N y ≡ true → R y ≤ n → R y ≢ 0 → IsFirst R L (B y) y) → ((R (E x) ≡ 0) ⊎ (R (E x) ≢ 0)) → IsFirst R L (B x) x
    go step (inl end) =
        let here : E x ≡ B x = ends (E x) before end ∙ bucket in
        let first : R (L (B x)) ≡ R x = ap (λ y. R (L y)) (sym here) ∙ rank in
        record { some = λ none. some (sym first ∙ none); least = omega (arith, first) }
    go step (inr row) =
        let lower : R (E x) < R (L (E x)) = ring.rising (E x) before (λ none. some (sym rank ∙ none)) in
        let first : IsFirst R L (B (E x)) (E x) = step (E x) before (omega (arith, lower, rank, bound)) row in
        let same : R (L (B (E x))) ≡ R (L (B x)) = ap (λ b. R (L b)) bucket in
        record { some = λ none. first.some (same ∙ none); least = omega (arith, same, first.least, lower, rank) }

-- how links change when a node is put in behind another
pub record PutsIn (N N' : ℕ → Bool) (B B' R R' L L' E E' : ℕ → ℕ) (x p : ℕ) : Type 0 where
  pub absent : N x ≡ false
  pub node : N' x ≡ true
  pub nodes : (y : ℕ) → y ≢ x → N' y ≡ N y
  pub buckets : (y : ℕ) → y ≢ x → B' y ≡ B y
  pub ranks : (y : ℕ) → y ≢ x → R' y ≡ R y
  pub there : N p ≡ true
  pub bucket : B' x ≡ B p
  pub above : R p < R' x
  pub below : R (L p) ≢ 0 → R' x < R (L p)
  pub later_p : L' p ≡ x
  pub later_x : L' x ≡ L p
  pub later : (y : ℕ) → y ≢ p → y ≢ x → L' y ≡ L y
  pub earlier_n : E' (L p) ≡ x
  pub earlier_x : E' x ≡ p
  pub earlier : (y : ℕ) → y ≢ L p → y ≢ x → E' y ≡ E y

pub put_in : (N N' : ℕ → Bool) (B B' R R' L L' E E' : ℕ → ℕ) (x p : ℕ) → PutsIn N N' B B' R R' L L' E E' x p → IsLinked N B R L E → IsLinked N' B' R' L' E'
put_in N N' B B' R R' L L' E E' x p puts ring = record {
  next = λ y node. next y node (cases_eq y x) (cases_eq y p);
  same = λ y node. bucket y node (cases_eq y x) (cases_eq y p);
  back = λ y node. back y node (cases_eq y x) (cases_eq y p);
  before = λ y node. before y node (cases_eq y x) (cases_eq y (L p));
  forth = λ y node. forth y node (cases_eq y x) (cases_eq y (L p));
  rising = λ y node some. rising y node some (cases_eq y x) (cases_eq y p);
}
  where
    -- a node is not x
    other : (y : ℕ) → N y ≡ true → y ≢ x
    other y node same = false≢true (sym puts.absent ∙ ap N (sym same) ∙ node)

    was : (y : ℕ) → N' y ≡ true → y ≢ x → N y ≡ true
    was y node differs = sym (puts.nodes y differs) ∙ node

    is : (y : ℕ) → N y ≡ true → N' y ≡ true
    is y node = puts.nodes y (other y node) ∙ node

    n_node : N (L p) ≡ true
    n_node = ring.next p puts.there

    next : (y : ℕ) → N' y ≡ true → (y ≡ x) ⊎ (y ≢ x) → (y ≡ p) ⊎ (y ≢ p) → N' (L' y) ≡ true
    next y node (inl same) q = ap (λ z. N' (L' z)) same ∙ ap N' puts.later_x ∙ is (L p) n_node
    next y node (inr differs) (inl same) = ap (λ z. N' (L' z)) same ∙ ap N' puts.later_p ∙ puts.node
    next y node (inr differs) (inr far) = ap N' (puts.later y far differs) ∙ is (L y) (ring.next y (was y node differs))

    p_other : p ≢ x
    p_other = other p puts.there

    n_other : L p ≢ x
    n_other = other (L p) n_node

    bucket : (y : ℕ) → N' y ≡ true → (y ≡ x) ⊎ (y ≢ x) → (y ≡ p) ⊎ (y ≢ p) → B' (L' y) ≡ B' y
    bucket y node (inl same) q =
        ap (λ z. B' (L' z)) same ∙ ap B' puts.later_x ∙ puts.buckets (L p) n_other ∙ ring.same p puts.there ∙ sym puts.bucket ∙ ap B' (sym same)
    bucket y node (inr differs) (inl same) = ap (λ z. B' (L' z)) same ∙ ap B' puts.later_p ∙ puts.bucket ∙ ap B (sym same) ∙ sym (puts.buckets y differs)
    bucket y node (inr differs) (inr far) =
        let node_y : N y ≡ true = was y node differs in
        ap B' (puts.later y far differs) ∙ puts.buckets (L y) (other (L y) (ring.next y node_y)) ∙ ring.same y node_y ∙ sym (puts.buckets y differs)

    back : (y : ℕ) → N' y ≡ true → (y ≡ x) ⊎ (y ≢ x) → (y ≡ p) ⊎ (y ≢ p) → E' (L' y) ≡ y
    back y node (inl same) q = ap (λ z. E' (L' z)) same ∙ ap E' puts.later_x ∙ puts.earlier_n ∙ sym same
    back y node (inr differs) (inl same) = ap (λ z. E' (L' z)) same ∙ ap E' puts.later_p ∙ puts.earlier_x ∙ sym same
    back y node (inr differs) (inr far) =
        let node_y : N y ≡ true = was y node differs in
        let not_n : L y ≢ L p = λ same. far (sym (ring.back y node_y) ∙ ap E same ∙ ring.back p puts.there) in
        ap E' (puts.later y far differs) ∙ puts.earlier (L y) not_n (other (L y) (ring.next y node_y)) ∙ ring.back y node_y

    before : (y : ℕ) → N' y ≡ true → (y ≡ x) ⊎ (y ≢ x) → (y ≡ L p) ⊎ (y ≢ L p) → N' (E' y) ≡ true
    before y node (inl same) q = ap (λ z. N' (E' z)) same ∙ ap N' puts.earlier_x ∙ is p puts.there
    before y node (inr differs) (inl same) = ap (λ z. N' (E' z)) same ∙ ap N' puts.earlier_n ∙ puts.node
    before y node (inr differs) (inr far) = ap N' (puts.earlier y far differs) ∙ is (E y) (ring.before y (was y node differs))

    forth : (y : ℕ) → N' y ≡ true → (y ≡ x) ⊎ (y ≢ x) → (y ≡ L p) ⊎ (y ≢ L p) → L' (E' y) ≡ y
    forth y node (inl same) q = ap (λ z. L' (E' z)) same ∙ ap L' puts.earlier_x ∙ puts.later_p ∙ sym same
    forth y node (inr differs) (inl same) = ap (λ z. L' (E' z)) same ∙ ap L' puts.earlier_n ∙ puts.later_x ∙ sym same
    forth y node (inr differs) (inr far) =
        let node_y : N y ≡ true = was y node differs in
        let not_p : E y ≢ p = λ same. far (sym (ring.forth y node_y) ∙ ap L same) in
        ap L' (puts.earlier y far differs) ∙ puts.later (E y) not_p (other (E y) (ring.before y node_y)) ∙ ring.forth y node_y

    rising : (y : ℕ) → N' y ≡ true → R' (L' y) ≢ 0 → (y ≡ x) ⊎ (y ≢ x) → (y ≡ p) ⊎ (y ≢ p) → R' y < R' (L' y)
    rising y node some (inl same) q =
        let later : R' (L' y) ≡ R (L p) = ap (λ z. R' (L' z)) same ∙ ap R' puts.later_x ∙ puts.ranks (L p) n_other in
        let mine : R' y ≡ R' x = ap R' same in
        let less : R' x < R (L p) = puts.below (λ none. some (later ∙ none)) in
        omega (arith, later, mine, less)
    rising y node some (inr differs) (inl same) =
        let later : R' (L' y) ≡ R' x = ap (λ z. R' (L' z)) same ∙ ap R' puts.later_p in
        let mine : R' y ≡ R p = puts.ranks y differs ∙ ap R same in
        omega (arith, later, mine, puts.above)
    rising y node some (inr differs) (inr far) =
        let node_y : N y ≡ true = was y node differs in
        let later : R' (L' y) ≡ R (L y) = ap R' (puts.later y far differs) ∙ puts.ranks (L y) (other (L y) (ring.next y node_y)) in
        let mine : R' y ≡ R y = puts.ranks y differs in
        let less : R y < R (L y) = ring.rising y node_y (λ none. some (later ∙ none)) in
        omega (arith, later, mine, less)

-- how links change when a node is taken out
pub record TakesOut (N N' : ℕ → Bool) (B B' R R' L L' E E' : ℕ → ℕ) (x : ℕ) : Type 0 where
  pub there : N x ≡ true
  pub row : R x ≢ 0
  pub gone : N' x ≡ false
  pub nodes : (y : ℕ) → y ≢ x → N' y ≡ N y
  pub buckets : (y : ℕ) → y ≢ x → B' y ≡ B y
  pub ranks : (y : ℕ) → y ≢ x → R' y ≡ R y
  pub later_p : L' (E x) ≡ L x
  pub later : (y : ℕ) → y ≢ E x → L' y ≡ L y
  pub earlier_n : E' (L x) ≡ E x
  pub earlier : (y : ℕ) → y ≢ L x → E' y ≡ E y

pub take_out : (N N' : ℕ → Bool) (B B' R R' L L' E E' : ℕ → ℕ) (x : ℕ) → TakesOut N N' B B' R R' L L' E E' x → IsLinked N B R L E → IsLinked N' B' R' L' E'
take_out N N' B B' R R' L L' E E' x takes ring = record {
  next = λ y node. next y node (cases_eq y (E x));
  same = λ y node. bucket y node (cases_eq y (E x));
  back = λ y node. back y node (cases_eq y (E x));
  before = λ y node. before y node (cases_eq y (L x));
  forth = λ y node. forth y node (cases_eq y (L x));
  rising = λ y node some. rising y node some (cases_eq y (E x));
}
  where
    other : (y : ℕ) → N' y ≡ true → y ≢ x
    other y node same = false≢true (sym takes.gone ∙ ap N' (sym same) ∙ node)

    was : (y : ℕ) → N' y ≡ true → N y ≡ true
    was y node = sym (takes.nodes y (other y node)) ∙ node

    is : (y : ℕ) → N y ≡ true → y ≢ x → N' y ≡ true
    is y node differs = takes.nodes y differs ∙ node

    p_node : N (E x) ≡ true
    p_node = ring.before x takes.there

    n_node : N (L x) ≡ true
    n_node = ring.next x takes.there

    -- a row isn't its own neighbor, since it would be of lower rank than itself
    n_other : L x ≢ x
    n_other same =
        let less : R x < R (L x) = ring.rising x takes.there (λ none. takes.row (sym (ap R same) ∙ none)) in
        omega (arith, less, ap R same)

    p_other : E x ≢ x
    p_other same = n_other (ap L (sym same) ∙ ring.forth x takes.there)

    -- the one behind another node than the one before x isn't x
    next_other : (y : ℕ) → N y ≡ true → y ≢ E x → L y ≢ x
    next_other y node far same = far (sym (ring.back y node) ∙ ap E same)

    before_other : (y : ℕ) → N y ≡ true → y ≢ L x → E y ≢ x
    before_other y node far same = far (sym (ring.forth y node) ∙ ap L same)

    next : (y : ℕ) → N' y ≡ true → (y ≡ E x) ⊎ (y ≢ E x) → N' (L' y) ≡ true
    next y node (inl same) = ap (λ z. N' (L' z)) same ∙ ap N' takes.later_p ∙ is (L x) n_node n_other
    next y node (inr far) = ap N' (takes.later y far) ∙ is (L y) (ring.next y (was y node)) (next_other y (was y node) far)

    p_bucket : B (E x) ≡ B x
    p_bucket = sym (ring.same (E x) p_node) ∙ ap B (ring.forth x takes.there)

    bucket : (y : ℕ) → N' y ≡ true → (y ≡ E x) ⊎ (y ≢ E x) → B' (L' y) ≡ B' y
    bucket y node (inl same) =
        ap (λ z. B' (L' z)) same ∙ ap B' takes.later_p ∙ takes.buckets (L x) n_other ∙ ring.same x takes.there ∙ sym p_bucket ∙ ap B (sym same)
        ∙ sym (takes.buckets y (other y node))
    bucket y node (inr far) =
        ap B' (takes.later y far) ∙ takes.buckets (L y) (next_other y (was y node) far) ∙ ring.same y (was y node) ∙ sym (takes.buckets y (other y node))

    back : (y : ℕ) → N' y ≡ true → (y ≡ E x) ⊎ (y ≢ E x) → E' (L' y) ≡ y
    back y node (inl same) = ap (λ z. E' (L' z)) same ∙ ap E' takes.later_p ∙ takes.earlier_n ∙ sym same
    back y node (inr far) =
        let not_n : L y ≢ L x = λ same. other y node (sym (ring.back y (was y node)) ∙ ap E same ∙ ring.back x takes.there) in
        ap E' (takes.later y far) ∙ takes.earlier (L y) not_n ∙ ring.back y (was y node)

    before : (y : ℕ) → N' y ≡ true → (y ≡ L x) ⊎ (y ≢ L x) → N' (E' y) ≡ true
    before y node (inl same) = ap (λ z. N' (E' z)) same ∙ ap N' takes.earlier_n ∙ is (E x) p_node p_other
    before y node (inr far) = ap N' (takes.earlier y far) ∙ is (E y) (ring.before y (was y node)) (before_other y (was y node) far)

    forth : (y : ℕ) → N' y ≡ true → (y ≡ L x) ⊎ (y ≢ L x) → L' (E' y) ≡ y
    forth y node (inl same) = ap (λ z. L' (E' z)) same ∙ ap L' takes.earlier_n ∙ takes.later_p ∙ sym same
    forth y node (inr far) =
        let not_p : E y ≢ E x = λ same. other y node (sym (ring.forth y (was y node)) ∙ ap L same ∙ ring.forth x takes.there) in
        ap L' (takes.earlier y far) ∙ takes.later (E y) not_p ∙ ring.forth y (was y node)

    rising : (y : ℕ) → N' y ≡ true → R' (L' y) ≢ 0 → (y ≡ E x) ⊎ (y ≢ E x) → R' y < R' (L' y)
    rising y node some (inl same) =
        let later : R' (L' y) ≡ R (L x) = ap (λ z. R' (L' z)) same ∙ ap R' takes.later_p ∙ takes.ranks (L x) n_other in
        let mine : R' y ≡ R (E x) = takes.ranks y (other y node) ∙ ap R same in
        let rank : R (L (E x)) ≡ R x = ap R (ring.forth x takes.there) in
        let first : R (E x) < R (L (E x)) = ring.rising (E x) p_node (λ none. takes.row (sym rank ∙ none)) in
        let second : R x < R (L x) = ring.rising x takes.there (λ none. some (later ∙ none)) in
        omega (arith, later, mine, rank, first, second)
    rising y node some (inr far) =
        let later : R' (L' y) ≡ R (L y) = ap R' (takes.later y far) ∙ takes.ranks (L y) (next_other y (was y node) far) in
        let mine : R' y ≡ R y = takes.ranks y (other y node) in
        let less : R y < R (L y) = ring.rising y (was y node) (λ none. some (later ∙ none)) in
        omega (arith, later, mine, less)
