-- Two captures, of which a frame is judged, and the turns of lines beside those of frames, computed; and the VLANs of frames
-- at ports.
use Rattle.std.proofs.Common.{ℕ, ◌≡◌, List, [], ◌∷◌, refl, lit≤, true, false, Some, None}
use Rattle.savi_kinds.specs.declared.port.Port.{Port}
use Rattle.savi_kinds.specs.declared.plan.Plan.{Plan}
use Rattle.savi_kinds.specs.declared.plan.Role.TheVariants as roles
use Rattle.savi_kinds.specs.declared.plan.Format.TheVariants as formats
use Rattle.savi_kinds.specs.declared.plan.Vlan.{Vlan}
use Rattle.savi_kinds.specs.declared.plan.Vlan.TheVariants.{Access, Trunk}
use Rattle.savi_kinds.specs.declared.verdict.Verdict.{Verdict}
use Rattle.savi_kinds.specs.declared.verdict.Verdict.TheVariants as verdicts
use Rattle.savi_kinds.specs.declared.verdict.Rule.TheVariants as rules
use Rattle.savi_kinds.specs.declared.entry.Act.{Act}
use Rattle.savi_kinds.specs.declared.entry.Who.TheVariants as passes
use Rattle.savi_kinds.specs.declared.entry.How.TheVariants as hows
use Rattle.savi_kinds.specs.Arrivals.{Input}
use Rattle.savi_kinds.specs.Arrivals as arrivals
use Rattle.v6_chain.specs.Kinds.{kind_of}
use Rattle.nd_read.specs.Messages.{named}
use Rattle.nd_read.specs.NdOf.{nd_of, passes as message_passes}
use Rattle.eth_frame.specs.declared.vlan_tag.Tag.TheVariants as tags
use Rattle.eth_frame.specs.Tags.{tag_of}
use Rattle.frame_class.specs.ClassOf.{class_of}
use Rattle.ra_guard.specs.GuardOf.{guard_of}
use Rattle.cli_lang.specs.Arrivals as control
use Rattle.hist_store.specs.Rows.{Row}
use Rattle.checkpoint.specs.Bases.{empty}
use Rattle.savi_history.specs.Merges.{merged}
use Rattle.savi_history.specs.Turns.{Arrives, Commands, Ends, turn_at, all_turns}
use Rattle.savi_history.specs.Replay.{Stops}
use Rattle.savi_access.specs.Judged.{judged}
use Rattle.savi_history.specs.Vlans.{vlan_at, octets_at}
use Rattle.savi_history.specs.Judged.{verdict_of}

abbrev pub port_one : Port
port_one = record { number = 1; low = lit≤ tt; high = lit≤ tt }

abbrev pub port_two : Port
port_two = record { number = 2; low = lit≤ tt; high = lit≤ tt }

abbrev pub plan : Plan
plan = record {
  mac = record { 0 = 2 ∷ 0 ∷ 0 ∷ 0 ∷ 0 ∷ 1 ∷ [] };
  savi = false;
  drop_unknown = true;
  per_port = 32;
  depth = 256;
  entries = 262144;
  bytes = 67108864;
  gap = 250;
  test = 500;
  life = 300000;
  control = None;
  journal = [];
  ports = record { number = port_one; role = roles.Host; format = formats.Pcap; input = []; output = []; vlan = Access 1 }
      ∷ record { number = port_two; role = roles.Trusted; format = formats.Pcap; input = []; output = []; vlan = Access 1 } ∷ [];
  prefixes = [];
}

abbrev pub advert : List ℕ
advert = 51 ∷ 51 ∷ 0 ∷ 0 ∷ 0 ∷ 1 ∷ 2 ∷ 0 ∷ 0 ∷ 0 ∷ 0 ∷ 34 ∷ 134 ∷ 221 ∷ 96 ∷ 0 ∷ 0 ∷ 0 ∷ 0 ∷ 16 ∷ 58 ∷ 255 ∷ 254 ∷ 128 ∷ 0 ∷ 0 ∷ 0 ∷ 0 ∷ 0 ∷ 0 ∷ 0 ∷ 0 ∷ 0 ∷ 0 ∷ 0 ∷ 0 ∷ 0 ∷ 34 ∷ 255 ∷ 2 ∷ 0 ∷ 0 ∷ 0 ∷ 0 ∷ 0 ∷ 0 ∷ 0 ∷ 0 ∷ 0 ∷ 0 ∷ 0 ∷ 0 ∷ 0 ∷ 1 ∷ 134 ∷ 0 ∷ 53 ∷ 6 ∷ 64 ∷ 0 ∷ 7 ∷ 8 ∷ 0 ∷ 0 ∷ 0 ∷ 0 ∷ 0 ∷ 0 ∷ 0 ∷ 0 ∷ []

abbrev pub packet : List ℕ
packet = 2 ∷ 0 ∷ 0 ∷ 0 ∷ 0 ∷ 254 ∷ 2 ∷ 0 ∷ 0 ∷ 0 ∷ 0 ∷ 17 ∷ 134 ∷ 221 ∷ 96 ∷ 0 ∷ 0 ∷ 0 ∷ 0 ∷ 0 ∷ 59 ∷ 64 ∷ 254 ∷ 128 ∷ 0 ∷ 0 ∷ 0 ∷ 0 ∷ 0 ∷ 0 ∷ 0 ∷ 0 ∷ 0 ∷ 0 ∷ 0 ∷ 0 ∷ 0 ∷ 17 ∷ 254 ∷ 128 ∷ 0 ∷ 0 ∷ 0 ∷ 0 ∷ 0 ∷ 0 ∷ 0 ∷ 0 ∷ 0 ∷ 0 ∷ 0 ∷ 0 ∷ 0 ∷ 254 ∷ []

abbrev pub inputs : List Input
inputs = record { arrivals = arrivals.Frame 1000 advert ∷ arrivals.Frame 1001 packet ∷ []; ending = hows.End }
    ∷ record { arrivals = arrivals.Frame 1002 advert ∷ []; ending = hows.End } ∷ []

abbrev pub other : ℕ → ℕ → Act → Row
other by moment act = record { entry = record { by = by; moment = moment; act = act; verdict = None; outs = record { 0 = 0 }; cuts = record { 0 = 0 }; probes = 0; lost = 0 }; octets = [] }

abbrev pub frame : ℕ → ℕ → Act → Verdict → ℕ → List ℕ → Row
frame by moment act verdict outs octets = record { entry = record { by = by; moment = moment; act = act; verdict = Some verdict; outs = record { 0 = outs }; cuts = record { 0 = 0 }; probes = 0; lost = 0 }; octets = octets }

-- every write is taken
abbrev pub no_failure : Stops
no_failure = record { ports = λ port. None; control = None }

pub advert_dropped : verdict_of plan empty [] port_one 1000 advert ≡ verdicts.Drop rules.RouterAdvert
unfolding tag_of class_of nd_of named message_passes kind_of guard_of judged
advert_dropped = refl

abbrev line : ℕ → control.Line
line stamp = record { stamp = stamp; command = [] }

-- of equal stamps control's line comes first, and each ending behind the last of its input
pub control_first : merged turn_at (all_turns (Some (record { arrivals = line 1001 ∷ line 1002 ∷ []; ending = hows.End })) plan.ports inputs) ≡
    Arrives port_one (arrivals.Frame 1000 advert)
    ∷ Commands (line 1001)
    ∷ Arrives port_one (arrivals.Frame 1001 packet)
    ∷ Ends (passes.Ingress port_one) hows.End
    ∷ Commands (line 1002)
    ∷ Ends passes.Control hows.End
    ∷ Arrives port_two (arrivals.Frame 1002 advert)
    ∷ Ends (passes.Ingress port_two) hows.End
    ∷ []
control_first = refl

-- a trunk of two VLANs takes frames with the tag of one of them, and no others
abbrev trunk : Vlan
trunk = Trunk (record { items = 10 ∷ 20 ∷ [] })

pub trunk_lists : vlan_at trunk (tags.Vid 20) ≡ Some 20
trunk_lists = refl

pub trunk_lists_not : vlan_at trunk (tags.Vid 30) ≡ None
trunk_lists_not = refl

pub trunk_wants_tags : vlan_at trunk tags.None ≡ None
trunk_wants_tags = refl

-- an access port takes frames without a tag, and no others
pub access_is : vlan_at (Access 10) tags.None ≡ Some 10
access_is = refl

pub access_wants_no_tag : vlan_at (Access 10) (tags.Vid 10) ≡ None
access_wants_no_tag = refl

-- behind the two addresses a trunk's frame has the tag of its VLAN, and an access port's has none
pub tagged_out : octets_at trunk 10 (2 ∷ 0 ∷ 0 ∷ 0 ∷ 0 ∷ 254 ∷ 2 ∷ 0 ∷ 0 ∷ 0 ∷ 0 ∷ 17 ∷ 134 ∷ 221 ∷ 96 ∷ [])
    ≡ 2 ∷ 0 ∷ 0 ∷ 0 ∷ 0 ∷ 254 ∷ 2 ∷ 0 ∷ 0 ∷ 0 ∷ 0 ∷ 17 ∷ 129 ∷ 0 ∷ 0 ∷ 10 ∷ 134 ∷ 221 ∷ 96 ∷ []
tagged_out = refl

pub untagged_out : octets_at (Access 10) 10 packet ≡ packet
untagged_out = refl
