-- Ageing of all addresses: each by itself, as if nothing else were there (RFC 6620 section 3.2, RFC 7513 section 5).
use Rattle.std.specs.Prelude.{ℕ, List}
use Rattle.std.specs.List.{flat_map}
use Rattle.fcfs_states.specs.declared.times.Times.{Times}
use Rattle.mix_rules.specs.Ageing.{aged_state, IsStill}
use Rattle.savi_access.specs.declared.row.Row.{Row}
use Rattle.savi_access.specs.Rows.{address_of, state_in, rows_of}

-- a row aged to t: none where no state is left
abbrev pub aged_row : Times → ℕ → Row → List Row
aged_row k t row = rows_of (address_of row) (aged_state k t row.state).state

-- all rows aged to t
abbrev pub aged_rows : Times → ℕ → List Row → List Row
aged_rows k t rows = flat_map (aged_row k t) rows

-- nothing is due at t in the state of any address
abbrev pub AllStill : Times → ℕ → List Row → Type 0
AllStill k t rows = (a : ℕ) → IsStill k t (state_in rows a)
