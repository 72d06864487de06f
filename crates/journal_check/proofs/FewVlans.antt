-- How many VLANs ports have: no trunk lists more than all of them have, and a front of them has no more than all.
use Rattle.std.proofs.Common.{ℕ, zero, suc, ◌≡◌, ◌+◌, ◌*◌, ◌<◌, ◌≤◌, ◌==◌, ◌||◌, Bool, true, List, [], ◌∷◌, ◌++◌, length, take, drop, get_or, decimal, All, refl, sym, ap, ◌∙◌, subst, arith, inl, inr, eq-eqb, ne_eqb, true≢false, length-append, append-nil, take-append-drop}
use Rattle.std.specs.BTreeSet.{insert_key}
use Rattle.std.specs.List.{flat_map, fold, list_any}
use Rattle.std.specs.List.Sorted.{IsStrictlyIncreasing}
use Rattle.std.specs.Ordering.{nat_cmp}
use Rattle.std.proofs.lemmas.Bool.{cases_eq}
use Rattle.std.proofs.lemmas.Fmt.{length-decimal-le}
use Rattle.std.proofs.lemmas.Grind.{flat_map-append}
use Rattle.std.proofs.lemmas.List.{get_or_at, take_more}
use Rattle.std.proofs.lemmas.List.Elements.{All-head, All-tail}
use Rattle.savi_kinds.specs.declared.plan.PortPlan.{PortPlan}
use Rattle.savi_kinds.specs.declared.plan.Role.{Role}
use Rattle.savi_kinds.specs.declared.plan.Role.TheVariants.{Trusted}
use Rattle.savi_kinds.specs.declared.plan.Vlan.{Vlan}
use Rattle.savi_kinds.specs.ValidPlan.{HasPlanVlans}
use Rattle.savi_kinds.specs.Vlans.{IsVlan, is_member_of, is_trunk, numbers_of_vlan, vlans_of_ports}
use Rattle.savi_kinds.proofs.VlanSets.{fold-append, length_puts, vlans_have, vlans_rise}
use Rattle.hist_store.specs.VlanTexts.{AreVlans, vlans_text}
use Rattle.savi_history.proofs.PassNumbers.{first_below, or_true_at, rising_tail}

-- a number stands in a list
abbrev IsIn : ℕ → List ℕ → Type 0
IsIn n xs = (i : ℕ) × (i < length xs) × (get_or xs i 0 ≡ n)

least_first : (x n : ℕ) (xs : List ℕ) (i : ℕ) → IsStrictlyIncreasing (x ∷ xs) → i < length (x ∷ xs) → get_or (x ∷ xs) i 0 ≡ n → x ≤ n
least_first x n xs zero rise within is = omega (arith, is)
least_first x n xs (suc i) rise within is = let below = first_below x xs i rise (omega (arith, within)) in omega (arith, below, is)

behind_first : (x n : ℕ) (xs : List ℕ) (i : ℕ) → x < n → i < length (x ∷ xs) → get_or (x ∷ xs) i 0 ≡ n → IsIn n xs
behind_first x n xs zero above within is = absurd (omega (arith, above, is))
behind_first x n xs (suc i) above within is = (i, omega (arith, within), is)

-- of numbers that rise there are no more than in a rising list in which they all stand
fit : (ns xs : List ℕ) → IsStrictlyIncreasing ns → IsStrictlyIncreasing xs → ((i : ℕ) → i < length ns → IsIn (get_or ns i 0) xs) → length ns ≤ length xs
fit [] xs rise rise' each = omega arith
fit (n ∷ ns) [] rise rise' each = let first = each 0 (omega arith) in absurd (omega (arith, first.1))
fit (n ∷ ns) (x ∷ xs) rise rise' each =
    let first = each 0 (omega arith) in
    let least : x ≤ n = least_first x n xs first.0 rise' first.1 first.2 in
    let behind = λ (i : ℕ) (within : i < length ns).
    let above = first_below n ns i rise within in
    let place = each (suc i) (omega (arith, within)) in
    behind_first x (get_or ns i 0) xs place.0 (omega (arith, least, above)) place.1 place.2 in
    let more = fit ns xs (rising_tail n ns rise) (rising_tail x xs rise') behind in
    omega (arith, more)

-- the test of a list

any_there : {X : Type 0} (p : X → Bool) (xs : List X) (i : ℕ) (d : X) → i < length xs → p (get_or xs i d) ≡ true → list_any p xs ≡ true
any_there p [] i d within is = absurd (omega (arith, within))
any_there p (x ∷ xs) zero d within is = ap (λ b. b || list_any p xs) is
any_there p (x ∷ xs) (suc i) d within is = or_true_at (p x) (list_any p xs) (any_there p xs i d (omega (arith, within)) is)

is_there : (n : ℕ) (xs : List ℕ) → list_any (λ m. m == n) xs ≡ true → IsIn n xs
is_there n [] among = absurd (true≢false (sym among))
is_there n (x ∷ xs) among =
    elim (cases_eq x n) [
      | inl same ↦ (0, omega arith, same)
      | inr other ↦
          let rest : list_any (λ m. m == n) xs ≡ true = rw (ne_eqb x n other) at among in
          let later = is_there n xs rest in
          (suc later.0, omega (arith, later.1), later.2)
    ]

-- the VLANs of ports

pub few_each : (ports : List PortPlan) (i : ℕ) (d : PortPlan) → i < length ports → HasPlanVlans (get_or ports i d) → length (numbers_of_vlan (get_or ports i d).vlan) ≤ length (vlans_of_ports ports)
few_each ports i d within has =
    let port : PortPlan = get_or ports i d in
    let numbers = numbers_of_vlan port.vlan in
    fit numbers (vlans_of_ports ports) has.rising (vlans_rise ports) (λ k inside.
    let number = get_or numbers k 0 in
    let member : is_member_of number port ≡ true = any_there (λ n. n == number) numbers k 0 inside (eq-eqb number number refl) in
    is_there number (vlans_of_ports ports) (vlans_have number ports ∙ any_there (is_member_of number) ports i d within member))

-- with one port more

pub vlans_more : (ports : List PortPlan) (next : PortPlan) → vlans_of_ports (ports ++ next ∷ []) ≡ fold (insert_key nat_cmp) (vlans_of_ports ports) (numbers_of_vlan next.vlan)
vlans_more ports next =
    let numbers = λ (port : PortPlan). numbers_of_vlan port.vlan in
    ap (fold (insert_key nat_cmp) []) (flat_map-append numbers ports (next ∷ []) ∙ ap (λ (more : List ℕ). flat_map numbers ports ++ more) (append-nil (numbers_of_vlan next.vlan)))
    ∙ fold-append (flat_map numbers ports) (numbers_of_vlan next.vlan) []

pub few_front : (ports later : List PortPlan) → length (vlans_of_ports ports) ≤ length (vlans_of_ports (ports ++ later))
few_front ports later =
    let numbers = λ (port : PortPlan). numbers_of_vlan port.vlan in
    let all : vlans_of_ports (ports ++ later) ≡ fold (insert_key nat_cmp) (vlans_of_ports ports) (flat_map numbers later) =
    ap (fold (insert_key nat_cmp) []) (flat_map-append numbers ports later) ∙ fold-append (flat_map numbers ports) (flat_map numbers later) [] in
    omega (arith, ap length all, length_puts (flat_map numbers later) (vlans_of_ports ports))

-- the VLANs that a further port has are those that a port may have
pub vlans_are : (ports : List PortPlan) (next : PortPlan) → HasPlanVlans next → length (vlans_of_ports (ports ++ next ∷ [])) ≤ 8 → AreVlans next.vlan
vlans_are ports next has few =
    let at : get_or (ports ++ next ∷ []) (length ports) next ≡ next = get_or_at ports next [] next (length ports) refl in
    let size = length-append ports (next ∷ []) in
    let most = subst (λ (port : PortPlan). HasPlanVlans port → length (numbers_of_vlan port.vlan) ≤ length (vlans_of_ports (ports ++ next ∷ []))) at (few_each (ports ++ next ∷ []) (length ports) next (omega (arith, size))) has in
    let some = has.some in
    (record { vlans = has.numbers; rising = has.rising; few = omega (arith, most, few) }, omega (arith, some))

-- the VLANs of a port, one by one

-- one number more
pub put_more : (ns : List ℕ) (i : ℕ) (start : List ℕ) → i < length ns → fold (insert_key nat_cmp) start (take (i + 1) ns) ≡ insert_key nat_cmp (fold (insert_key nat_cmp) start (take i ns)) (get_or ns i 0)
put_more ns i start within = ap (fold (insert_key nat_cmp) start) (take_more ns i 0 within) ∙ fold-append (take i ns) (get_or ns i 0 ∷ []) start

-- where those up to a number are too many, all are
pub too_many : (ns : List ℕ) (i : ℕ) (start : List ℕ) → i < length ns → 8 < length (insert_key nat_cmp (fold (insert_key nat_cmp) start (take i ns)) (get_or ns i 0)) → 8 < length (fold (insert_key nat_cmp) start ns)
too_many ns i start within many =
    let front = fold (insert_key nat_cmp) start (take (i + 1) ns) in
    let all : fold (insert_key nat_cmp) start ns ≡ fold (insert_key nat_cmp) front (drop (i + 1) ns) =
    ap (fold (insert_key nat_cmp) start) (sym (take-append-drop (i + 1) ns)) ∙ fold-append (take (i + 1) ns) (drop (i + 1) ns) start in
    omega (arith, many, ap length (put_more ns i start within), ap length all, length_puts (drop (i + 1) ns) front)

-- what is asked of the VLANs of a further port
abbrev pub IsAsked : List PortPlan → Role → Vlan → Type 0
IsAsked ports role vlan = (is_trunk vlan ≡ true → role ≡ Trusted) × (length (fold (insert_key nat_cmp) (vlans_of_ports ports) (numbers_of_vlan vlan)) ≤ 8)

pub next_has : (ports : List PortPlan) (next : PortPlan) → AreVlans next.vlan → IsAsked ports next.role next.vlan → HasPlanVlans next × (length (vlans_of_ports (ports ++ next ∷ [])) ≤ 8)
next_has ports next are asked =
    let some = are.1 in
    let few = asked.1 in (
      record { numbers = are.0.vlans; some = omega (arith, some); rising = are.0.rising; trusted = asked.0 },
      omega (arith, few, ap length (vlans_more ports next)),
    )

pub next_may : (ports : List PortPlan) (next : PortPlan) → HasPlanVlans next → length (vlans_of_ports (ports ++ next ∷ [])) ≤ 8 → IsAsked ports next.role next.vlan
next_may ports next has few = (has.trusted, omega (arith, few, ap length (vlans_more ports next)))

-- their text

digits_of : (n : ℕ) → IsVlan n → length (decimal n) ≤ 4
digits_of n is = length-decimal-le 4 n (omega arith) (omega (arith, is.1)) (omega (arith, is.1))

pub vlans_size : (ns : List ℕ) → All IsVlan ns → length (vlans_text ns) ≤ 5 * length ns
vlans_size [] each = omega arith
vlans_size (n ∷ []) each = let digits = digits_of n (All-head IsVlan n [] each) in omega (arith, digits)
vlans_size (n ∷ m ∷ ns) each =
    let digits = digits_of n (All-head IsVlan n (m ∷ ns) each) in
    let more = vlans_size (m ∷ ns) (All-tail IsVlan n (m ∷ ns) each) in
    let whole = length-append (decimal n) (44 ∷ vlans_text (m ∷ ns)) in
    omega (arith, digits, more, whole)
