-- The parts of a class.
use Rattle.std.specs.Prelude.{Option, Some, None}
use Rattle.eth_frame.specs.declared.header.Eth.{Eth}
use Rattle.frame_class.specs.declared.classes.Class.{Class}
use Rattle.frame_class.specs.declared.classes.Class.TheVariants.{Runt, Tagged, Other, BadIp, Ip6}

-- the Ethernet header, which all but a runt have
abbrev pub eth_of : Class → Option Eth
eth_of Runt = None
eth_of (Tagged eth) = Some eth
eth_of (Other eth) = Some eth
eth_of (BadIp eth) = Some eth
eth_of (Ip6 eth ip read) = Some eth
