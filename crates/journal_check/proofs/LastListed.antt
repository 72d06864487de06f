-- What may come behind the last port, and behind the last prefix.
use Rattle.std.proofs.Common.{ℕ, ◌≡◌, ◌-◌, ◌<◌, List, [], length, get_or, Option, Some, None, IfNone, IfSome, ap, sym, subst, arith}
use Rattle.std.proofs.lemmas.List.{length-map}
use Rattle.savi_kinds.specs.declared.plan.PortPlan.{PortPlan}
use Rattle.savi_kinds.specs.declared.plan.PrefixPlan.{PrefixPlan}
use Rattle.savi_kinds.specs.declared.port.Port.{Port}
use Rattle.savi_kinds.specs.Ports.{number_of}
use Rattle.savi_kinds.specs.ValidPlan.{StandsBefore, numbers_of}
use Rattle.hist_store.specs.HeaderLines.{IsAbove, IsNextPort, IsNextPrefix}
use Rattle.journal_check.specs.ListLines.{IsBehindLast}

-- the last port of these
abbrev pub IsLastPort : List PortPlan → Option Port → Type 0
IsLastPort ports last = IfNone last (ports ≡ []) × IfSome last (λ p. (0 < length ports) × (number_of p ≡ get_or (numbers_of ports) (length ports - 1) 0))

last_place : (ports : List PortPlan) → length (numbers_of ports) - 1 ≡ length ports - 1
last_place ports = ap (λ (n : ℕ). n - 1) (length-map ports (λ (p : PortPlan). number_of p.number))

pub next_port_last : (ports : List PortPlan) (last : Option Port) (next : Port) → IsLastPort ports last → IsAbove (numbers_of ports) (number_of next) → IsNextPort last next
next_port_last ports None next is above = tt
next_port_last ports (Some p) next is above =
    let size = length-map ports (λ (q : PortPlan). number_of q.number) in
    let some = is.1.0 in
    let last = is.1.1 in
    let less = subst (λ (i : ℕ). get_or (numbers_of ports) i 0 < number_of next) (last_place ports) (above (omega (arith, size, some))) in
    omega (arith, less, last)

pub last_port_next : (ports : List PortPlan) (last : Option Port) (next : Port) → IsLastPort ports last → IsNextPort last next → IsAbove (numbers_of ports) (number_of next)
last_port_next ports None next is stands = λ some. absurd (omega (arith, some, length-map ports (λ (q : PortPlan). number_of q.number), ap length is.0))
last_port_next ports (Some p) next is stands = λ some.
    let last = is.1.1 in
    subst (λ (i : ℕ). get_or (numbers_of ports) i 0 < number_of next) (sym (last_place ports)) (omega (arith, stands, last))

-- the last prefix of these
abbrev pub IsLastPrefix : List PrefixPlan → Option PrefixPlan → Type 0
IsLastPrefix prefixes last =
    IfNone last (prefixes ≡ []) × IfSome last (λ p. (0 < length prefixes) × ((d : PrefixPlan) → get_or prefixes (length prefixes - 1) d ≡ p))

pub next_prefix_last : (prefixes : List PrefixPlan) (last : Option PrefixPlan) (next : PrefixPlan) → IsLastPrefix prefixes last → IsBehindLast prefixes next → IsNextPrefix last next
next_prefix_last prefixes None next is past = tt
next_prefix_last prefixes (Some p) next is past = subst (λ (q : PrefixPlan). StandsBefore q next) (is.1.1 p) (past p is.1.0)

-- and what came behind it
pub last_prefix_next : (prefixes : List PrefixPlan) (last : Option PrefixPlan) (next : PrefixPlan) → IsLastPrefix prefixes last → IsNextPrefix last next → IsBehindLast prefixes next
last_prefix_next prefixes None next is stands = λ d some. absurd (none_before prefixes is.0 some)
  where
    none_before : (xs : List PrefixPlan) → xs ≡ [] → 0 < length xs → ⊥
    none_before xs none some = omega (arith, ap length none, some)
last_prefix_next prefixes (Some p) next is stands = λ d some. subst (λ (q : PrefixPlan). StandsBefore q next) (sym (is.1.1 d)) stands
