-- First come, first served, over whole histories (RFC 6620 section 3.2): who has an address in a VLAN loses it by three
-- causes alone.
use Rattle.std.specs.Prelude.{◌≡◌, ◌≢◌, ℕ, Some, List, [], ◌∷◌, ◌++◌}
use Rattle.savi_kinds.specs.declared.plan.Plan.{Plan}
use Rattle.savi_kinds.specs.declared.plan.Method.{Method}
use Rattle.savi_kinds.specs.declared.plan.Role.TheVariants.{Trusted}
use Rattle.savi_kinds.specs.declared.port.Port.{Port}
use Rattle.savi_kinds.specs.Ports.{number_of}
use Rattle.eth_frame.specs.Tags.{inner}
use Rattle.frame_class.specs.declared.classes.Class.{Class}
use Rattle.frame_class.specs.declared.classes.Class.TheVariants.{Ip6}
use Rattle.frame_class.specs.ClassOf.{class_of}
use Rattle.fcfs_states.specs.States.{Same}
use Rattle.mix_rules.specs.Next.{IsPass}
use Rattle.hist_store.specs.Rows.{Row}
use Rattle.savi_access.specs.States.{IsLiveAfter}
use Rattle.savi_access.specs.FirstCome.{IsKeptOn}
use Rattle.savi_access.specs.Marks.{Mark, told}
use Rattle.savi_access.specs.Plans.{rules_of, role_of}
use Rattle.checkpoint.specs.Bases.{Base, access_of}
use Rattle.savi_history.specs.Vlans.{vlan_of_frame}
use Rattle.savi_history.specs.Moments.{last_moment}
use Rattle.savi_history.specs.Marks.{marks}
use Rattle.savi_history.specs.Adverts.{IsFrameAt}

-- after this history the address of this VLAN is live at the port
abbrev pub IsLiveAtEnd : Plan → Base → List Row → ℕ → ℕ → Port → Type 0
IsLiveAtEnd plan base past vlan a port =
    IsLiveAfter (rules_of plan).addresses (access_of base).addresses (told (marks plan base past)) (last_moment base past)
    vlan a port

-- The port had an address of a VLAN at the end of `early`. By what was told in `late`, behind it, and up to moment t, it
-- lost the address: by its host's silence for as long as a test takes, by the operator, or by the end of a binding by DHCP
-- there
-- (`mix_rules/specs/FirstCome`).
pub record IsLostSince (plan : Plan) (base : Base) (early late : List Row) (t vlan a : ℕ) (port : Port) : Type 0 where
  -- how the address is assigned: it is on-link
  pub method : Method
  pub on_link : (rules_of plan).addresses.method_of vlan a ≡ Some method
  -- what was told in `late`
  pub new : List Mark
  pub told_so : marks plan base (late ++ early) ≡ new ++ marks plan base early
  pub lost : IsKeptOn (rules_of plan).addresses (access_of base).addresses method
      (told (marks plan base early)) (last_moment base early) (told new) t vlan a port

-- a packet of IPv6 with this source address
abbrev pub IsFrom : ℕ → Class → Type 0
IsFrom a (Ip6 eth ip read) = ip.src.0 ≡ a
IsFrom a _ = ⊥

-- the row is of a frame of this VLAN with this source address that passed at a port of a host or a server, and not at this
-- one
pub record PassedElsewhere (plan : Plan) (r : Row) (vlan a : ℕ) (port : Port) : Type 0 where
  pub other : Port
  pub frame : IsFrameAt other r
  pub host : role_of plan (number_of other) ≢ Trusted
  pub apart : ¬ Same other port
  pub vlan_is : vlan_of_frame plan (number_of other) r.octets ≡ Some vlan
  pub source : IsFrom a (class_of (inner r.octets))
  pub passed : IsPass r.entry.verdict

-- Where an address of a VLAN was live at a port after the first rows of this past, and the row is of a frame of that VLAN
-- with that source that passed at another port of a host or a server, the first port had lost the address since by one of
-- the three causes.
abbrev pub KeepsWhoCameFirst : Plan → Base → List Row → Row → Type 0
KeepsWhoCameFirst plan base past r =
    (early late : List Row) (vlan a : ℕ) (port : Port) → past ≡ late ++ early → IsLiveAtEnd plan base early vlan a port
    → PassedElsewhere plan r vlan a port → IsLostSince plan base early late r.entry.moment vlan a port

-- so does each row of a history
abbrev pub AllKeepWhoCameFirst : Plan → Base → List Row → Type 0
AllKeepWhoCameFirst plan base [] = Unit {0}
AllKeepWhoCameFirst plan base (r ∷ past) = KeepsWhoCameFirst plan base past r × AllKeepWhoCameFirst plan base past
