-- Ports whose numbers rise.
use Rattle.std.proofs.Common.{subst, ◌≡◌, ℕ, ◌<◌, ◌≤◌, List, [], ◌∷◌, ◌++◌, length, get_or, take, refl, ◌∙◌, sym, ap, arith, length-append}
use Rattle.std.proofs.lemmas.List.{get_or-map, get_or-take, get_or_at, length-map, length-take-le, get_or_append_left}
use Rattle.std.proofs.lemmas.List.Kept.{AllPairs-from_increasing}
use Rattle.std.specs.Prelude.{All}
use Rattle.std.specs.List.Sorted.{IsStrictlyIncreasing}
use Rattle.savi_kinds.specs.declared.plan.PortPlan.{PortPlan}
use Rattle.savi_kinds.specs.declared.port.Port.{Port}
use Rattle.savi_kinds.specs.Ports.{number_of}
use Rattle.savi_kinds.specs.ValidPlan.{numbers_of}
use Rattle.port_worker.specs.declared.port_ends.PortEnds.{PortEnds}
use Rattle.port_worker.specs.Replays.{ports_held}
use Rattle.switch_ports.specs.Openings.{ports_of, IsOff, HaveOwnNumbers}

pub All-both : {X : Type 0} (P Q R : X → Type 0) (xs : List X) → All P xs → All Q xs → ((x : X) → P x → Q x → R x) → All R xs
All-both P Q R xs ps qs both = λ k d inside. both (get_or xs k d) (ps k d inside) (qs k d inside)

pub All-front : {X : Type 0} (P : X → Type 0) (xs ys : List X) → All P (xs ++ ys) → All P xs
All-front {X} P xs ys ps = λ k d inside. subst P (get_or_append_left xs ys d k inside) (ps k d (omega (arith, length-append xs ys)))

pub All-middle : {X : Type 0} (P : X → Type 0) (xs : List X) (y : X) (zs : List X) → All P (xs ++ y ∷ zs) → P y
All-middle P xs y zs ps = subst P (get_or_at xs y zs y (length xs) refl) (ps (length xs) y (omega (arith, length-append xs (y ∷ zs))))

-- an element of a list that has one
element : {X : Type 0} (xs : List X) (k : ℕ) → k < length xs → X
element [] k inside = absurd (omega arith)
element (x ∷ xs) k inside = x

-- the ports of the first plans are below those of a later one
number_at : (plans : List PortPlan) (k : ℕ) (d : PortPlan) → k < length plans → get_or (numbers_of plans) k (number_of d.number) ≡ number_of (get_or plans k d).number
number_at plans k d inside = get_or-map (λ (p : PortPlan). number_of p.number) plans k d (number_of d.number) inside

pub number_below : (plans : List PortPlan) (i j : ℕ) (d : PortPlan) → IsStrictlyIncreasing (numbers_of plans) → i < j → j < length plans → number_of (get_or plans i d).number < number_of (get_or plans j d).number
number_below plans i j d rising below inside =
    let sizes : length (numbers_of plans) ≡ length plans = length-map plans (λ (p : PortPlan). number_of p.number) in
    let apart : get_or (numbers_of plans) i (number_of d.number) < get_or (numbers_of plans) j (number_of d.number) = AllPairs-from_increasing (numbers_of plans) rising i j (number_of d.number) below (omega arith) in
    omega (arith, apart, number_at plans i d (omega arith), number_at plans j d inside)

length_held : {S K C : Type 0} (held : List (PortEnds S K C)) (plans : List PortPlan) (i : ℕ) → i ≤ length plans → ports_held held ≡ take i (ports_of plans) → length held ≡ i
length_held {S} {K} {C} held plans i within ports =
    sym (length-map held (λ (p : PortEnds S K C). p.port)) ∙ ap length ports ∙ length-take-le i (ports_of plans) (omega (arith, length-map plans (λ (p : PortPlan). p.number)))

-- the port at a place of what is held is that of the plan there
held_at : {S K C : Type 0} (held : List (PortEnds S K C)) (plans : List PortPlan) (i k : ℕ) (d : PortEnds S K C) (e : PortPlan) → i ≤ length plans → k < i → ports_held held ≡ take i (ports_of plans) → (get_or held k d).port ≡ (get_or plans k e).number
held_at {S} {K} {C} held plans i k d e within below ports =
    let size = length_held held plans i within ports in
    sym (get_or-map (λ (p : PortEnds S K C). p.port) held k d d.port (omega arith))
    ∙ ap (λ (xs : List Port). get_or xs k d.port) ports
    ∙ get_or-take i (ports_of plans) k d.port below
    ∙ get_or-map (λ (p : PortPlan). p.number) plans k e d.port (omega arith)

pub off_next : {S K C : Type 0} (held : List (PortEnds S K C)) (plans : List PortPlan) (i : ℕ) (plan : PortPlan) → IsStrictlyIncreasing (numbers_of plans) → i < length plans → plan ≡ get_or plans i plan → ports_held held ≡ take i (ports_of plans) → IsOff held (number_of plan.number)
off_next held plans i plan rising inside is ports k d within same =
    let size = length_held held plans i (omega arith) ports in
    let below = number_below plans k i plan rising (omega arith) inside in
    let here = ap number_of (held_at held plans i k d plan (omega arith) (omega arith) ports) in
    let there = ap (λ (p : PortPlan). number_of p.number) is in
    omega (arith, below, here, there, same)

pub apart_from : {S K C : Type 0} (held : List (PortEnds S K C)) (plans : List PortPlan) (i : ℕ) → IsStrictlyIncreasing (numbers_of plans) → i ≤ length plans → ports_held held ≡ take i (ports_of plans) → HaveOwnNumbers held
apart_from {S} {K} {C} held plans i rising within ports a b d below inside same =
    let size = length_held held plans i within ports in
    let e = element plans b (omega arith) in
    let apart = number_below plans a b e rising below (omega arith) in
    let first = ap number_of (held_at held plans i a d e within (omega arith) ports) in
    let second = ap number_of (held_at held plans i b d e within (omega arith) ports) in
    omega (arith, apart, first, second, same)
