-- First come, first served, over the marks of many addresses.
use Rattle.std.specs.Prelude.{ℕ, List}
use Rattle.savi_kinds.specs.declared.port.Port.{Port}
use Rattle.savi_kinds.specs.declared.plan.Method.{Method}
use Rattle.mix_rules.specs.FirstCome.{KeepsAddress}
use Rattle.savi_access.specs.Rows.{state_in}
use Rattle.savi_access.specs.Bases.{AddrRules, AddrBase}
use Rattle.savi_access.specs.NamedMarks.{Named, marks_on}

-- The port has had an address of this method since t0, after `early`; `late` came by t. By the marks that name the address
-- it keeps it, but for one of the three causes.
abbrev pub IsKeptOn : AddrRules → AddrBase → Method → List Named → ℕ → List Named → ℕ → ℕ → ℕ → Port → Type 0
IsKeptOn r base m early t0 late t vlan a port =
    KeepsAddress m r.times (state_in (base.rows vlan) a) (marks_on vlan a early) t0 (marks_on vlan a late) t port
