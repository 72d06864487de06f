-- The number of a port, which is what tells ports apart.
use Rattle.std.specs.Prelude.{ℕ}
use Rattle.savi_kinds.specs.declared.port.Port.{Port}

abbrev pub number_of : Port → ℕ
number_of p = p.number
