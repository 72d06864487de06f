-- The texts of verdicts.
use Rattle.std.specs.Prelude.{ℕ, List, [], ◌++◌, codes, Option, Some, None}
use Rattle.savi_kinds.specs.declared.verdict.Rule.{Rule}
use Rattle.savi_kinds.specs.declared.verdict.Rule.TheVariants.{PortDown, Malformed, ReservedGroup, SourceMac, Tagged, BadIpv6, HiddenUpper, UnknownNextHeader, RouterAdvert, FragmentedNd, BadNd, Redirect, DhcpServer, UnspecifiedSource, OffLink, NotAssigned, PortFull, WrongPort, Unverified, Contested, NaTarget, PendingFull, DhcpContested}
use Rattle.savi_kinds.specs.declared.verdict.Scope.{Scope}
use Rattle.savi_kinds.specs.declared.verdict.Scope.TheVariants.{All, TrustedOnly, TrustedAnd}
use Rattle.savi_kinds.specs.declared.verdict.Verdict.{Verdict}
use Rattle.savi_kinds.specs.declared.verdict.Verdict.TheVariants.{Pass, Drop}
use Rattle.hist_store.specs.PortTexts.{port_text}

-- a rule's name
abbrev pub rule_name : Rule → List ℕ
rule_name PortDown = codes "PortDown"
rule_name Malformed = codes "Malformed"
rule_name ReservedGroup = codes "ReservedGroup"
rule_name SourceMac = codes "SourceMac"
rule_name Tagged = codes "Tagged"
rule_name BadIpv6 = codes "BadIpv6"
rule_name HiddenUpper = codes "HiddenUpper"
rule_name UnknownNextHeader = codes "UnknownNextHeader"
rule_name RouterAdvert = codes "RouterAdvert"
rule_name FragmentedNd = codes "FragmentedNd"
rule_name BadNd = codes "BadNd"
rule_name Redirect = codes "Redirect"
rule_name DhcpServer = codes "DhcpServer"
rule_name UnspecifiedSource = codes "UnspecifiedSource"
rule_name OffLink = codes "OffLink"
rule_name NotAssigned = codes "NotAssigned"
rule_name PortFull = codes "PortFull"
rule_name WrongPort = codes "WrongPort"
rule_name Unverified = codes "Unverified"
rule_name Contested = codes "Contested"
rule_name NaTarget = codes "NaTarget"
rule_name PendingFull = codes "PendingFull"
rule_name DhcpContested = codes "DhcpContested"

-- to which ports a frame may go
abbrev pub scope_text : Scope → List ℕ
scope_text All = codes "all"
scope_text TrustedOnly = codes "trusted"
scope_text (TrustedAnd port) = codes "trusted+" ++ port_text port

abbrev pub verdict_text : Verdict → List ℕ
verdict_text (Pass scope) = codes "pass-" ++ scope_text scope
verdict_text (Drop rule) = codes "drop-" ++ rule_name rule

-- the verdict of an entry; without one there is no text
abbrev pub entry_verdict_text : Option Verdict → List ℕ
entry_verdict_text None = []
entry_verdict_text (Some verdict) = verdict_text verdict
