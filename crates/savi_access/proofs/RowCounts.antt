-- How many addresses have a state: each is held at one port at least, of 16.
use Rattle.std.proofs.Common.{◌≡◌, ◌≢◌, ℕ, ◌+◌, ◌*◌, ◌≤◌, ◌==◌, zero, suc, true, Option, Some, None, List, [], ◌∷◌, length, count_by, refl, sym, ◌∙◌, subst, inl, inr, arith}
use Rattle.std.specs.List.{sum_by}
use Rattle.std.proofs.lemmas.List.Sums.{sum_by-cons, sum_by-le-sum_by}
use Rattle.std.proofs.lemmas.Option.{none-some, same_Some}
use Rattle.std.proofs.lemmas.Bool.{cases_eq}
use Rattle.savi_kinds.specs.declared.port.Port.{Port}
use Rattle.savi_kinds.specs.Ports.{number_of}
use Rattle.mix_rules.specs.States.{IsHeldAt, is_held_at}
use Rattle.mix_rules.proofs.HolderLemmas.{someone-holds}
use Rattle.savi_access.specs.declared.row.Row.{Row}
use Rattle.savi_access.specs.Rows.{count_at, AllStand}
use Rattle.savi_access.proofs.Held.{held_once}
use Rattle.savi_access.specs.Keeps.{IsWithinPorts}
use Rattle.savi_access.specs.Bases.{AddrRules, AddrBase}
use Rattle.savi_access.specs.NamedMarks.{Named, last_moment}
use Rattle.savi_access.specs.Tables.{rows_at, AreDifferent}
use Rattle.savi_access.specs.Limits.{IsAddrBase, IsPast}
use Rattle.savi_access.proofs.TablesOf.{table_at}
use Rattle.savi_access.proofs.StatesKept.{base_times, base_tables, base_within}
use Rattle.savi_access.proofs.Holding.{told-held, count-first, within_at}
use Rattle.savi_access.proofs.OwnPorts.{sum-own, none_elsewhere}

-- what the first n ports hold together
total : ℕ → List Row → ℕ
total zero rows = 0
total (suc n) rows = count_at (suc n) rows + total n rows

total-first : (n : ℕ) (row : Row) (rows : List Row) → total n (row ∷ rows) ≡ total n (row ∷ []) + total n rows
unfolding total
total-first zero row rows = omega arith
total-first (suc n) row rows =
    omega (arith, count-first (suc n) row rows, count-first (suc n) row [], total-first n row rows)

total-held : (n : ℕ) (port : Port) (row : Row) → number_of port ≤ n → IsHeldAt row.state port → 1 ≤ total n (row ∷ [])
unfolding total
total-held zero port row within held = let low : 1 ≤ number_of port = port.low in absurd (omega (arith, within, low))
total-held (suc n) port row within held =
    elim (cases_eq (number_of port) (suc n)) [
      | inl same ↦
          let is : is_held_at (suc n) row.state ≡ true = subst (λ m. is_held_at m row.state ≡ true) same (told-held row.state port held) in
          let one : held_once (suc n) row.state ≡ 1 = rw is refl in
          omega (arith, one, count-first (suc n) row [])
      | inr other ↦ omega (arith, total-held n port row (omega (arith, within, other)) held)
    ]

rows-total : (n : ℕ) (rows : List Row) → 16 ≤ n → AllStand rows → length rows ≤ total n rows
rows-total n [] all stand = omega arith
rows-total n (row ∷ rows) all stand =
    let someone : (port : Port) × IsHeldAt row.state port = someone-holds row.state stand.0 in
    let high : number_of someone.0 ≤ 16 = someone.0.high in
    omega (arith, total-first n row rows, total-held n someone.0 row (omega (arith, all, high)) someone.1, rows-total n rows all stand.1)

total-within : (per_port n : ℕ) (rows : List Row) → n ≤ 16 → IsWithinPorts per_port rows → total n rows ≤ n * per_port
unfolding total
total-within per_port zero rows few within = omega arith
total-within per_port (suc n) rows few within =
    let port : Port = record { number = suc n; low = omega arith; high = few } in
    let one : count_at (suc n) rows ≤ per_port = within port in
    let rest : total n rows ≤ n * per_port = total-within per_port n rows (omega (arith, few)) within in
    let times : suc n * per_port ≡ per_port + n * per_port = grind arith in
    omega (arith, one, rest, times)

pub rows_within : (per_port : ℕ) (rows : List Row) → AllStand rows → IsWithinPorts per_port rows → length rows ≤ 16 * per_port
rows_within per_port rows stand within = by_number 16 refl
  where
    by_number : (n : ℕ) → n ≡ 16 → length rows ≤ 16 * per_port
    by_number n is =
        let some : length rows ≤ total n rows = rows-total n rows (omega (arith, is)) stand in
        let most : total n rows ≤ n * per_port = total-within per_port n rows (omega (arith, is)) within in
        subst (λ m. length rows ≤ m * per_port) is (omega (arith, some, most))

-- the same of the states at a moment
pub few_rows : (r : AddrRules) (base : AddrBase) (past : List Named) (t vlan : ℕ) → IsAddrBase r base → IsPast r base past → last_moment base past ≤ t → length (rows_at r base past t vlan) ≤ 16 * r.per_port
few_rows r base past t vlan is right after =
    rows_within r.per_port (rows_at r base past t vlan) (table_at r base (base_tables r base is) past t vlan).stand
    (within_at r base (base_times r base is) (base_tables r base is) (base_within r base is) past t vlan right after)

-- sums over VLANs
sum-none : (f : ℕ → ℕ) → ((n : ℕ) → f n ≡ 0) → (ns : List ℕ) → sum_by f ns ≡ 0
sum-none f none [] = omega arith
sum-none f none (n ∷ ns) = omega (arith, sum_by-cons f n ns, none n, sum-none f none ns)

sum-both : (f g both : ℕ → ℕ) → ((n : ℕ) → both n ≡ f n + g n) → (ns : List ℕ) → sum_by both ns ≡ sum_by f ns + sum_by g ns
sum-both f g both is [] = omega arith
sum-both f g both is (n ∷ ns) = omega (arith, sum_by-cons both n ns, sum_by-cons f n ns, sum_by-cons g n ns, is n, sum-both f g both is ns)

pub sum-times : (times : ℕ) (f most : ℕ → ℕ) → ((n : ℕ) → f n ≤ times * most n) → (ns : List ℕ) → sum_by f ns ≤ times * sum_by most ns
sum-times times f most each [] = omega arith
sum-times times f most each (n ∷ ns) =
    let product : times * sum_by most (n ∷ ns) ≡ times * most n + times * sum_by most ns = spread times (sum_by most (n ∷ ns)) (most n) (sum_by most ns) (sum_by-cons most n ns) in
    omega (arith, sum_by-cons f n ns, each n, sum-times times f most each ns, product)
  where
    spread : (times all one rest : ℕ) → all ≡ one + rest → times * all ≡ times * one + times * rest
    spread times all one rest is = rw is (grind arith)

few_times : (counts one most : ℕ) → counts ≤ 1 → one ≤ most → counts * one ≤ most
few_times zero one most few low = omega arith
few_times (suc zero) one most few low = omega (arith, low)
few_times (suc (suc n)) one most few low = absurd (omega (arith, few))

-- the addresses of all VLANs together
module _ (r : AddrRules) (base : AddrBase) (is : IsAddrBase r base) (past : List Named) (t : ℕ) (right : IsPast r base past) (after : last_moment base past ≤ t) (vlans : List ℕ) (different : AreDifferent vlans) where
  held_everywhere : (port : Port) → sum_by (λ v. count_at (number_of port) (rows_at r base past t v)) vlans ≤ r.per_port
  held_everywhere port = by_vlan (r.vlan_of (number_of port)) refl
    where
      elsewhere : (v : ℕ) → r.vlan_of (number_of port) ≢ Some v → count_at (number_of port) (rows_at r base past t v) ≡ 0
      elsewhere v other = none_elsewhere r base (base_times r base is) is.ports (base_tables r base is) past t v (number_of port) right other

      by_vlan : (vlan : Option ℕ) → r.vlan_of (number_of port) ≡ vlan → sum_by (λ v. count_at (number_of port) (rows_at r base past t v)) vlans ≤ r.per_port
      by_vlan None none = omega (arith, sum-none (λ v. count_at (number_of port) (rows_at r base past t v)) (λ v. elsewhere v (λ there. none-some v (sym none ∙ there))) vlans)
      by_vlan (Some vlan) own =
          let sum : sum_by (λ v. count_at (number_of port) (rows_at r base past t v)) vlans ≡ count_by (λ v. v == vlan) vlans * count_at (number_of port) (rows_at r base past t vlan) =
          sum-own (λ v. count_at (number_of port) (rows_at r base past t v)) vlan (λ v apart. elsewhere v (λ there. apart (same_Some v vlan (sym there ∙ own)))) vlans in
          let most : count_at (number_of port) (rows_at r base past t vlan) ≤ r.per_port = within_at r base (base_times r base is) (base_tables r base is) (base_within r base is) past t vlan right after port in
          omega (arith, sum, few_times (count_by (λ v. v == vlan) vlans) (count_at (number_of port) (rows_at r base past t vlan)) r.per_port (different vlan) most)

  total_everywhere : (n : ℕ) → n ≤ 16 → sum_by (λ v. total n (rows_at r base past t v)) vlans ≤ n * r.per_port
  unfolding total
  total_everywhere zero few = omega (arith, sum-none (λ v. 0) (λ v. refl) vlans)
  total_everywhere (suc n) few =
      let port : Port = record { number = suc n; low = omega arith; high = few } in
      let one : sum_by (λ v. count_at (suc n) (rows_at r base past t v)) vlans ≤ r.per_port = held_everywhere port in
      let rest : sum_by (λ v. total n (rows_at r base past t v)) vlans ≤ n * r.per_port = total_everywhere n (omega (arith, few)) in
      let both : sum_by (λ v. total (suc n) (rows_at r base past t v)) vlans ≡ sum_by (λ v. count_at (suc n) (rows_at r base past t v)) vlans + sum_by (λ v. total n (rows_at r base past t v)) vlans =
      sum-both (λ v. count_at (suc n) (rows_at r base past t v)) (λ v. total n (rows_at r base past t v)) (λ v. total (suc n) (rows_at r base past t v)) (λ v. refl) vlans in
      let times : suc n * r.per_port ≡ r.per_port + n * r.per_port = grind arith in
      omega (arith, one, rest, both, times)

  pub few_rows_everywhere : sum_by (λ v. length (rows_at r base past t v)) vlans ≤ 16 * r.per_port
  few_rows_everywhere = by_number 16 refl
    where
      by_number : (n : ℕ) → n ≡ 16 → sum_by (λ v. length (rows_at r base past t v)) vlans ≤ 16 * r.per_port
      by_number n number =
          let some : sum_by (λ v. length (rows_at r base past t v)) vlans ≤ sum_by (λ v. total n (rows_at r base past t v)) vlans =
          sum_by-le-sum_by (λ v. length (rows_at r base past t v)) (λ v. total n (rows_at r base past t v)) vlans (λ v. rows-total n (rows_at r base past t v) (omega (arith, number)) (table_at r base (base_tables r base is) past t v).stand) in
          let most : sum_by (λ v. total n (rows_at r base past t v)) vlans ≤ n * r.per_port = total_everywhere n (omega (arith, number)) in
          subst (λ m. sum_by (λ v. length (rows_at r base past t v)) vlans ≤ m * r.per_port) number (omega (arith, some, most))
