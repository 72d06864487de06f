-- What waits at the ports of a switch, what was sent, and what was left out, recomputed from the entries of a history. An
-- entry with a stamp offers its probes, in order, and then its frame, each to the queues of the ports that it is for, as it
-- is in its VLAN there; a queue takes an item while it has room.
use Rattle.std.specs.Prelude.{ℕ, ◌+◌, ◌-◌, ◌==◌, ◌&&◌, not, nat_lt, nat_le, Bool, Option, Some, if◌then◌else◌, List, [], ◌∷◌, ◌++◌, length, map, take, drop}
use Rattle.std.specs.List.{filter}
use Rattle.savi_kinds.specs.declared.plan.Plan.{Plan}
use Rattle.savi_kinds.specs.declared.port.Port.{Port}
use Rattle.savi_kinds.specs.declared.port.PortSet.{PortSet}
use Rattle.savi_kinds.specs.declared.entry.Act.{Act}
use Rattle.savi_kinds.specs.declared.entry.Act.TheVariants.{Frame, Long, Tick, Command, Drain, End}
use Rattle.savi_kinds.specs.declared.entry.Who.TheVariants.{Egress}
use Rattle.savi_kinds.specs.declared.entry.How.TheVariants as hows
use Rattle.savi_kinds.specs.Ports.{number_of}
use Rattle.savi_kinds.specs.PortSets.{is_member, set_of}
use Rattle.savi_kinds.specs.ValidPlan.{numbers_of}
use Rattle.savi_kinds.specs.Vlans.{vlan_among}
use Rattle.eth_frame.specs.Tags.{inner}
use Rattle.fcfs_states.specs.declared.answer.Probe.{Probe}
use Rattle.fcfs_states.specs.declared.answer.Probe.TheVariants.{Trusted, To}
use Rattle.probe_write.specs.ProbeFrame.{probe_of}
use Rattle.hist_store.specs.Rows.{Row}
use Rattle.checkpoint.specs.Bases.{Base}
use Rattle.savi_history.specs.Passes.{egress_pass, has_ended, role_of, is_trusted}
use Rattle.savi_history.specs.Vlans.{vlan_of_frame, has_member, octets_out}
use Rattle.savi_history.specs.ShutPorts.{is_shut}
use Rattle.savi_history.specs.Offers.{Offer, offers}

-- a frame or a probe on its way out at a port, with the moment that it carries
pub record Item : Type 0 where
  pub moment : ℕ
  pub octets : List ℕ

-- the octets of a frame of a VLAN as it goes out at q
abbrev pub sent_octets : Plan → ℕ → Option ℕ → List ℕ → List ℕ
sent_octets plan q vlan octets = octets_out (vlan_among plan.ports q) vlan octets

-- the frame of an entry, which came in at this port, as it goes out at q: without the tag that it had, and with the entry's
-- moment
abbrev pub item_of : Plan → ℕ → Port → Row → Item
item_of plan q port r = record {
  moment = r.entry.moment;
  octets = sent_octets plan q (vlan_of_frame plan (number_of port) r.octets) (inner r.octets);
}

-- a probe carries the moment at which it was due
abbrev pub probe_item : Plan → ℕ → Offer → Item
probe_item plan q offer = record {
  moment = offer.due;
  octets = sent_octets plan q (Some offer.vlan) (probe_of plan.mac offer.address);
}

-- whether a probe in a VLAN is for the port of this number: one for the trusted ports, where that is a member
abbrev pub is_for : Plan → ℕ → ℕ → Probe → Bool
is_for plan q vlan Trusted = is_trusted (role_of plan q) && has_member vlan plan q
is_for plan q vlan (To port) = number_of port == q

-- whether it goes there: not where the port is shut
abbrev pub is_probed : Plan → Base → List Row → ℕ → Offer → Bool
is_probed plan base past q offer = is_for plan q offer.vlan offer.probe && not (is_shut plan base q past)

-- the probes that an entry with this act and these octets offers to q, in order
abbrev pub offered_at : Plan → Base → List Row → Act → List ℕ → ℕ → List Item
offered_at plan base past act octets q =
    map (probe_item plan q) (filter (is_probed plan base past q) (offers plan base past act octets))

-- how many items may wait at q: as many as the plan's depth, and none once its egress has ended
abbrev pub room_at : Plan → Base → List Row → ℕ → ℕ
room_at plan base past q = if has_ended base (egress_pass plan q) past then 0 else plan.depth

-- what waits once an item was offered: it joins where there is room
abbrev pub joined_queue : ℕ → List Item → Item → List Item
joined_queue room waiting item = if nat_lt (length waiting) room then waiting ++ item ∷ [] else waiting

-- the same of one item after the other
abbrev pub all_joined : ℕ → List Item → List Item → List Item
all_joined room waiting [] = waiting
all_joined room waiting (item ∷ items) = all_joined room (joined_queue room waiting item) items

-- what waits at q once the probes of an entry were offered, by what waited before
abbrev pub probed : Plan → Base → List Row → Act → List ℕ → ℕ → List Item → List Item
probed plan base past act octets q waiting = all_joined (room_at plan base past q) waiting (offered_at plan base past act octets q)

-- what waits once the frame of an entry, which came in at this port, was offered, where it goes to q
abbrev pub framed : Plan → ℕ → ℕ → Port → Row → List Item → List Item
framed plan room q port r waiting =
    if is_member r.entry.outs q then joined_queue room waiting (item_of plan q port r) else waiting

-- what waits at q after an entry, by what waited before
abbrev pub waiting_after : Plan → Base → List Row → ℕ → Row → Act → List Item → List Item
waiting_after plan base past q r (Frame port stamp at len) waiting =
    framed plan (room_at plan base past q) q port r (probed plan base past (Frame port stamp at len) r.octets q waiting)
waiting_after plan base past q r (Long port stamp len) waiting = probed plan base past (Long port stamp len) r.octets q waiting
waiting_after plan base past q r (Tick stamp) waiting = probed plan base past (Tick stamp) r.octets q waiting
waiting_after plan base past q r (Command stamp at len) waiting = probed plan base past (Command stamp at len) r.octets q waiting
waiting_after plan base past q r (Drain port count) waiting = if number_of port == q then drop count waiting else waiting
waiting_after plan base past q r (End (Egress port) hows.Failed) waiting = if number_of port == q then [] else waiting
waiting_after plan base past q r (End who how) waiting = waiting

-- the items that wait at q, the oldest first
abbrev pub queue : Plan → Base → ℕ → List Row → List Item
queue plan base q [] = []
queue plan base q (r ∷ past) = waiting_after plan base past q r r.entry.act (queue plan base q past)

-- what an entry takes from q, by what waited there before
abbrev pub taken_by : ℕ → Act → List Item → List Item
taken_by q (Frame port stamp at len) waiting = []
taken_by q (Long port stamp len) waiting = []
taken_by q (Tick stamp) waiting = []
taken_by q (Command stamp at len) waiting = []
taken_by q (Drain port count) waiting = if number_of port == q then take count waiting else []
taken_by q (End who how) waiting = []

-- the items that the drains of q took, the oldest first
abbrev pub sent : Plan → Base → ℕ → List Row → List Item
sent plan base q [] = []
sent plan base q (r ∷ past) = sent plan base q past ++ taken_by q r.entry.act (queue plan base q past)

-- how many probes of an entry join at q, and how many of those offered are left out there
abbrev pub queued_at : Plan → Base → List Row → Act → List ℕ → ℕ → ℕ
queued_at plan base past act octets q =
    length (probed plan base past act octets q (queue plan base q past)) - length (queue plan base q past)

abbrev pub lost_at : Plan → Base → List Row → Act → List ℕ → ℕ → ℕ
lost_at plan base past act octets q = length (offered_at plan base past act octets q) - queued_at plan base past act octets q

-- the sum of a number over ports
abbrev pub over_ports : List ℕ → (ℕ → ℕ) → ℕ
over_ports [] count = 0
over_ports (q ∷ qs) count = count q + over_ports qs count

-- the probes of an entry that were queued, over all ports, and those that were left out
unfoldable pub probes : Plan → Base → List Row → Act → List ℕ → ℕ
probes plan base past act octets = over_ports (numbers_of plan.ports) (queued_at plan base past act octets)

unfoldable pub lost : Plan → Base → List Row → Act → List ℕ → ℕ
lost plan base past act octets = over_ports (numbers_of plan.ports) (lost_at plan base past act octets)

-- q takes no frame behind the probes of its entry: its queue is as long as it may be, or its egress has ended
abbrev pub is_closed : Plan → Base → List Row → Act → List ℕ → ℕ → Bool
is_closed plan base past act octets q =
    nat_le (room_at plan base past q) (length (probed plan base past act octets q (queue plan base q past)))

-- the ports of outs where a frame is left out
abbrev pub cuts : Plan → Base → List Row → Act → List ℕ → PortSet → PortSet
cuts plan base past act octets outs =
    set_of (filter (λ q. is_member outs q && is_closed plan base past act octets q) (numbers_of plan.ports))
