-- Which probes an entry calls for, neighbor solicitations for duplicate address detection that the switch sends (RFC 6620
-- section 3.2.3, RFC 7513 section 6.4): those that fell due since the entry before it, in the order in which they are due,
-- then of VLAN and then of address, and last the one with which its own frame is answered.
use Rattle.std.specs.Prelude.{ℕ, Option, Some, List, [], ◌∷◌, ◌++◌, map}
use Rattle.savi_kinds.specs.declared.plan.Plan.{Plan}
use Rattle.savi_kinds.specs.declared.address.Addr.{Addr}
use Rattle.savi_kinds.specs.declared.entry.Act.{Act}
use Rattle.savi_kinds.specs.declared.entry.Act.TheVariants.{Frame, Long, Tick, Command, Drain, End}
use Rattle.savi_kinds.specs.Ports.{number_of}
use Rattle.savi_kinds.specs.Vlans.{vlans_of}
use Rattle.fcfs_states.specs.declared.answer.Probe.{Probe}
use Rattle.savi_access.specs.declared.sent.SentProbe.{SentProbe}
use Rattle.savi_access.specs.Probes.{probes_between}
use Rattle.hist_store.specs.Rows.{Row}
use Rattle.savi_access.specs.Marks.{told}
use Rattle.savi_access.specs.Plans.{rules_of}
use Rattle.checkpoint.specs.Bases.{Base, access_of}
use Rattle.savi_history.specs.Moments.{last_moment, moment_at}
use Rattle.savi_history.specs.Vlans.{vlan_of_frame}
use Rattle.savi_history.specs.Merges.{merged}
use Rattle.savi_history.specs.Marks.{marks}
use Rattle.savi_history.specs.Judged.{judged_of}

-- a probe for an address in a VLAN, due at this moment, and where it goes: to the trusted ports or to one port
pub record Offer : Type 0 where
  pub vlan : ℕ
  pub due : ℕ
  pub address : Addr
  pub probe : Probe

abbrev pub offer_of : ℕ → SentProbe → Offer
offer_of vlan sent = record { vlan = vlan; due = sent.due; address = sent.address; probe = sent.probe }

-- the probes of a VLAN that fall due behind the last entry, up to this moment
abbrev pub due_in : Plan → Base → List Row → ℕ → ℕ → List SentProbe
due_in plan base past moment vlan =
    probes_between (rules_of plan).addresses (access_of base).addresses
    (told (marks plan base past)) (last_moment base past) moment vlan

-- those of all VLANs of the plan, by the moment at which they are due, then by VLAN, then by address
abbrev pub due_by : Plan → Base → List Row → ℕ → List Offer
due_by plan base past moment =
    merged (λ (offer : Offer). offer.due)
    (map (λ vlan. map (offer_of vlan) (due_in plan base past moment vlan)) (vlans_of plan))

-- the probe with which a frame of a VLAN is answered, if it is
abbrev pub in_answer : Option ℕ → Option SentProbe → List Offer
in_answer (Some vlan) (Some sent) = offer_of vlan sent ∷ []
in_answer vlan sent = []

-- the probes that an entry with this act and these octets offers to the queues of the ports, in order
unfoldable pub offers : Plan → Base → List Row → Act → List ℕ → List Offer
offers plan base past (Frame port stamp at len) octets =
    due_by plan base past (moment_at base past stamp)
    ++ in_answer (vlan_of_frame plan (number_of port) octets) (judged_of plan base past port stamp octets).probe
offers plan base past (Long port stamp len) octets = due_by plan base past (moment_at base past stamp)
offers plan base past (Tick stamp) octets = due_by plan base past (moment_at base past stamp)
offers plan base past (Command stamp at len) octets = due_by plan base past (moment_at base past stamp)
offers plan base past (Drain port count) octets = []
offers plan base past (End who how) octets = []
