-- The states of all addresses of a VLAN at once, as a table: a row for each address that has a state.
use Rattle.std.specs.Prelude.{ℕ, ◌≤◌, ◌==◌, Option, Some, None, if◌then◌else◌, List, [], ◌∷◌, count_by}
use Rattle.savi_access.specs.declared.row.Row.{Row}
use Rattle.savi_access.specs.Rows.{state_in, with_state, count_at}
use Rattle.savi_access.specs.Ages.{aged_rows}
use Rattle.savi_access.specs.Bases.{AddrRules, AddrBase}
use Rattle.savi_access.specs.NamedMarks.{Named}
use Rattle.savi_access.specs.States.{outcome_of}

-- the rows once a mark has moved its address
abbrev pub rows_with : AddrRules → Named → List Row → List Row
rows_with r named rows = with_state named.address (outcome_of r named (state_in rows named.address)).1 rows

-- the rows of a VLAN: those of the base, changed by each mark of the VLAN
abbrev pub rows_after : AddrRules → AddrBase → List Named → ℕ → List Row
rows_after r base [] vlan = base.rows vlan
rows_after r base (named ∷ past) vlan =
    if named.vlan == vlan then rows_with r named (rows_after r base past vlan) else rows_after r base past vlan

-- the same aged to t
abbrev pub rows_at : AddrRules → AddrBase → List Named → ℕ → ℕ → List Row
rows_at r base past t vlan = aged_rows r.times t (rows_after r base past vlan)

-- how many addresses of this VLAN the port of this number holds at t: without a VLAN none
abbrev pub held_in : AddrRules → AddrBase → List Named → ℕ → ℕ → Option ℕ → ℕ
held_in r base past t port None = 0
held_in r base past t port (Some vlan) = count_at port (rows_at r base past t vlan)

-- how many addresses it holds in all: they are of its own VLAN, since it holds none of another one
abbrev pub held_at : AddrRules → AddrBase → List Named → ℕ → ℕ → ℕ
held_at r base past t port = held_in r base past t port (r.vlan_of port)

-- none of these numbers stands there twice
abbrev pub AreDifferent : List ℕ → Type 0
AreDifferent numbers = (n : ℕ) → count_by (λ m. m == n) numbers ≤ 1
