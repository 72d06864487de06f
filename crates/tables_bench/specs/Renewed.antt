-- What renewals make of the rows of a table.
use Rattle.std.specs.Prelude.{List}
use Rattle.std.specs.List.{fold}
use Rattle.savi_kinds.specs.declared.address.Addr.{Addr}
use Rattle.mix_rules.specs.declared.state.AddrState.{AddrState}
use Rattle.savi_access.specs.declared.row.Row.{Row}
use Rattle.savi_access.specs.Rows.{with_state}

-- the rows once each address was given this state, one after the other
abbrev pub renewed_all : AddrState → List Row → List Addr → List Row
renewed_all state rows addresses = fold (λ left a. with_state a.0 state left) rows addresses
