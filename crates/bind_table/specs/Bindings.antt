-- What a contract sees of a table of bindings: its rows, and how many addresses at most have one.
use Rattle.std.specs.Prelude.{ℕ, List}
use Rattle.savi_access.specs.declared.row.Row.{Row}

pub record Bindings : Type 0 where
  pub rows : List Row
  pub most : ℕ
