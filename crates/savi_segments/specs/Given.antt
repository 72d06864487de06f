-- What readers of inputs give is of octets.
use Rattle.std.specs.Prelude.{List, All, Option, IfSome}
use Rattle.hex.specs.Hex.{IsBytes}
use Rattle.savi_kinds.specs.Arrivals.{Arrival, Frame, Long, Input}
use Rattle.cli_lang.specs.Arrivals as control

abbrev pub IsOfOctets : Arrival → Type 0
IsOfOctets (Frame stamp octets) = IsBytes octets
IsOfOctets (Long stamp len) = Unit {0}

-- so are all arrivals of these inputs, and the lines of control's input, where it has one
pub record AreOfOctets (lines : Option control.Input) (inputs : List Input) : Type 0 where
  pub commands : IfSome lines (λ input. All (λ line. IsBytes line.command) input.arrivals)
  pub arrivals : All (λ input. All IsOfOctets input.arrivals) inputs
