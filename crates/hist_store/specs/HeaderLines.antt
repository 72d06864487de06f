-- What may stand behind others in a journal's header: the ports, the VLANs of a trunk and the prefixes are in rising order.
use Rattle.std.specs.Prelude.{ℕ, ◌-◌, ◌<◌, List, length, slice_index, Option, Some, None}
use Rattle.savi_kinds.specs.declared.plan.PrefixPlan.{PrefixPlan}
use Rattle.savi_kinds.specs.declared.port.Port.{Port}
use Rattle.savi_kinds.specs.Ports.{number_of}
use Rattle.savi_kinds.specs.ValidPlan.{StandsBefore}

-- a port of a higher number than the last one
abbrev pub IsNextPort : Option Port → Port → Type 0
IsNextPort None port = Unit {0}
IsNextPort (Some last) port = number_of last < number_of port

-- the number is above the last one, if there is one
abbrev pub IsAbove : List ℕ → ℕ → Type 0
IsAbove numbers n = 0 < length numbers → slice_index numbers (length numbers - 1) < n

-- a prefix of a higher VLAN than the last one, or one of the same VLAN that begins behind its end
abbrev pub IsNextPrefix : Option PrefixPlan → PrefixPlan → Type 0
IsNextPrefix None plan = Unit {0}
IsNextPrefix (Some last) plan = StandsBefore last plan
