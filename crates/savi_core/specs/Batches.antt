-- A frame or a probe on its way out.
use Rattle.std.specs.Prelude.{ℕ, List}
use Rattle.savi_history.specs.Queues.{Item}

abbrev pub item_with : ℕ → List ℕ → Item
item_with moment octets = record { moment = moment; octets = octets }
