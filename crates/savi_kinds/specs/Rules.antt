-- The number of each rule; of several rules that apply to a frame the one with the least number is given.
use Rattle.std.specs.Prelude.{ℕ}
use Rattle.savi_kinds.specs.declared.verdict.Rule.{Rule}
use Rattle.savi_kinds.specs.declared.verdict.Rule.TheVariants.{PortDown, Malformed, ReservedGroup, SourceMac, Tagged, BadIpv6, HiddenUpper, UnknownNextHeader, RouterAdvert, FragmentedNd, BadNd, Redirect, DhcpServer, UnspecifiedSource, OffLink, NotAssigned, PortFull, WrongPort, Unverified, Contested, NaTarget, PendingFull, DhcpContested}

abbrev pub rule_number : Rule → ℕ
rule_number PortDown = 1
rule_number Malformed = 2
rule_number ReservedGroup = 3
rule_number SourceMac = 4
rule_number Tagged = 5
rule_number BadIpv6 = 6
rule_number HiddenUpper = 7
rule_number UnknownNextHeader = 8
rule_number RouterAdvert = 9
rule_number FragmentedNd = 10
rule_number BadNd = 11
rule_number Redirect = 12
rule_number DhcpServer = 13
rule_number UnspecifiedSource = 14
rule_number OffLink = 15
rule_number NotAssigned = 16
rule_number PortFull = 17
rule_number WrongPort = 18
rule_number Unverified = 19
rule_number Contested = 20
rule_number NaTarget = 21
rule_number PendingFull = 22
rule_number DhcpContested = 23
