-- What waits at a port: a list of items, the oldest first, and how many there may be.
use Rattle.std.specs.Prelude.{ℕ, List, [], ◌∷◌, ◌++◌}
use Rattle.egress_ring.specs.declared.item.Item.{Item}

pub record Waiting : Type 0 where
  pub items : List Item
  pub depth : ℕ

-- nothing waits
abbrev pub nothing_waits : ℕ → Waiting
nothing_waits depth = record { items = []; depth = depth }

-- one more item waits, behind the others
abbrev pub with_last : Waiting → Item → Waiting
with_last waiting item = record waiting { items = waiting.items ++ item ∷ [] }

-- one more item waits, before the others
abbrev pub with_first : Item → Waiting → Waiting
with_first item waiting = record waiting { items = item ∷ waiting.items }
