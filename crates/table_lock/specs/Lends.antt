-- A turn lends its value, and ends with what was written.
use Rattle.std.specs.Borrow.{Lends, MutBor, Fml, RattleType}
use mir.Syntax.{named}
use Rattle.std.specs.Prelude.{[]}
use Rattle.table_lock.specs.declared.kept.Kept.{Ghosts}
use Rattle.table_lock.specs.declared.turn.Held.{Held}
use Rattle.table_lock.specs.contracts.turn.Held.{the_row}

module _ (V : RattleType) (g : Ghosts V.Denot) where
  abbrev pub lends_value : MutBor (Held V.Denot) → MutBor V.Denot → Fml
  lends_value h r = Lends (the_row (record { mir = named 0; lft = [] }) V g) V h r (λ w. record h.now { value = w })
