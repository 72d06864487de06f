-- What it is that rows are a finite map from addresses to states.
use Rattle.std.specs.Prelude.{◌≡◌, ℕ, ◌==◌, if◌then◌else◌, List}
use Rattle.mix_rules.specs.declared.state.AddrState.{AddrState}
use Rattle.savi_access.specs.declared.row.Row.{Row}
use Rattle.savi_access.specs.Rows.{IsTable, state_in, with_state}

-- a change gives the one address its new state, and every other one keeps its own
abbrev pub ChangesOneAddress : Type 0
ChangesOneAddress =
    (a b : ℕ) (state : AddrState) (rows : List Row) → state_in (with_state a state rows) b ≡ (if a == b then state else state_in rows b)

-- rows stay a table: in rising order of address, none without a state
abbrev pub KeepsTables : Type 0
KeepsTables = (a : ℕ) (state : AddrState) (rows : List Row) → IsTable rows → IsTable (with_state a state rows)
