-- The number of each fault of a configuration. Of several that apply the one with the least number is told.
use Rattle.std.specs.Prelude.{ℕ}
use Rattle.savi_conf.specs.declared.fault.Fault.{Fault}
use Rattle.savi_conf.specs.declared.fault.Fault.TheVariants.{UnknownKey, WrongKind, MissingKey, SwitchMac, SaviWord, NextHeaderWord, PerPort, Depth, Entries, Bytes, Times, PortCount, PortNumbers, RoleWord, FormatWord, PrefixTexts, PrefixRanges, MethodWord, StreamInReplay, VlanNumbers, TrunkRole, VlanCount}

-- the number of a text that is too long, which isn't parsed
abbrev pub too_long : ℕ
too_long = 1

abbrev pub fault_number : Fault → ℕ
fault_number UnknownKey = 2
fault_number WrongKind = 3
fault_number MissingKey = 4
fault_number SwitchMac = 5
fault_number SaviWord = 6
fault_number NextHeaderWord = 7
fault_number PerPort = 8
fault_number Depth = 9
fault_number Entries = 10
fault_number Bytes = 11
fault_number Times = 12
fault_number PortCount = 13
fault_number PortNumbers = 14
fault_number RoleWord = 15
fault_number FormatWord = 16
fault_number PrefixTexts = 17
fault_number PrefixRanges = 18
fault_number MethodWord = 19
fault_number StreamInReplay = 20
fault_number VlanNumbers = 22
fault_number TrunkRole = 23
fault_number VlanCount = 24
