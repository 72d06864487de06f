-- What the entries of a history tell of addresses and requests (RFC 6620 section 3.2, RFC 7513 section 6, RFC 8074): the
-- marks of each frame, and of each command of the operator, by what was told before it.
use Rattle.std.specs.Prelude.{◌≡◌, ◌⊎◌, ℕ, Bool, true, false, Option, Some, None, List, [], ◌∷◌}
use Rattle.savi_kinds.specs.declared.port.Port.{Port}
use Rattle.savi_kinds.specs.declared.plan.Plan.{Plan}
use Rattle.savi_kinds.specs.declared.plan.Role.TheVariants.{Trusted}
use Rattle.savi_kinds.specs.declared.verdict.Rule.{Rule}
use Rattle.savi_kinds.specs.declared.verdict.Rule.TheVariants.{PortDown, Tagged}
use Rattle.savi_kinds.specs.Ports.{number_of}
use Rattle.cli_lang.specs.CommandOf.{command_of}
use Rattle.savi_kinds.specs.declared.entry.Act.{Act}
use Rattle.savi_kinds.specs.declared.entry.Act.TheVariants.{Frame, Long, Tick, Command, Drain, End}
use Rattle.frame_class.specs.declared.classes.Class.{Class}
use Rattle.eth_frame.specs.Tags.{inner}
use Rattle.frame_class.specs.ClassOf.{class_of}
use Rattle.ra_guard.specs.GuardOf.{guard_of}
use Rattle.fcfs_states.specs.declared.event.Ev.TheVariants.{Fix, Clear}
use Rattle.hist_store.specs.Rows.{Row}
use Rattle.savi_access.specs.Marks.{Mark, Told, Asked, Met}
use Rattle.savi_access.specs.Rules.{AccessRules, AccessBase}
use Rattle.savi_access.specs.Judged.{Judged, judged, drops}
use Rattle.savi_access.specs.Plans.{rules_of}
use Rattle.checkpoint.specs.Bases.{Base, access_of}
use Rattle.savi_history.specs.Vlans.{vlan_of_frame}
use Rattle.savi_history.specs.ShutPorts.{is_shut}
use Rattle.savi_history.specs.Commands.{commanded}

-- what a frame comes to that has no VLAN at its port: it is dropped by a rule on its length or its Ethernet header, those
-- that hold at each port, else for that
abbrev pub untold : List Mark → Option Rule → Judged
untold told (Some rule) = drops rule told
untold told None = drops Tagged told

-- what a frame of this VLAN and this class at a port that is shut or not comes to at this moment, after these marks, by
-- these rules; the class is that of the frame without its tag
abbrev pub judged_at : AccessRules → AccessBase → Bool → List Mark → Port → ℕ → Option ℕ → Class → Judged
judged_at r base true told port moment vlan class = drops PortDown told
judged_at r base false told port moment (Some vlan) class = judged r base vlan port moment told class
judged_at r base false told port moment None class = untold told (guard_of Trusted r.drop_unknown class)

abbrev pub judged_after : Plan → Base → Bool → List Mark → Port → ℕ → Option ℕ → Class → Judged
judged_after plan base shut told port moment vlan class =
    judged_at (rules_of plan) (access_of base) shut told port moment vlan class

-- the marks after an entry, by those before it and by the past: a frame and a command add their own in front
abbrev pub marked : Plan → Base → List Row → Row → Act → List Mark → List Mark
marked plan base past r (Frame port stamp at len) told =
    (judged_after plan base (is_shut plan base (number_of port) past) told port r.entry.moment
    (vlan_of_frame plan (number_of port) r.octets) (class_of (inner r.octets))).marks
marked plan base past r (Long port stamp len) told = told
marked plan base past r (Tick stamp) told = told
marked plan base past r (Command stamp at len) told = commanded plan (access_of base) r.entry.moment (command_of r.octets) told
marked plan base past r (Drain port count) told = told
marked plan base past r (End who how) told = told

-- a mark of the operator's: an address is fixed to a port, or cleared
abbrev pub IsOfOperator : Mark → Type 0
IsOfOperator (Told named) = (named.event ≡ Clear) ⊎ ((port : Port) × (named.event ≡ Fix port))
IsOfOperator (Asked vlan request) = ⊥
IsOfOperator (Met vlan moment tid duid) = ⊥

-- all that was told in a history, the newest first
abbrev pub marks : Plan → Base → List Row → List Mark
marks plan base [] = []
marks plan base (r ∷ past) = marked plan base past r r.entry.act (marks plan base past)
