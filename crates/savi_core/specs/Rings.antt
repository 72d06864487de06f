-- The queues of all ports, which of the ports are shut, and the probes that the queues took and left out since both were
-- last counted anew.
use Rattle.std.specs.Prelude.{ℕ, ◌+◌, ◌==◌, ◌&&◌, nat_le, min, Bool, if◌then◌else◌, List, map}
use Rattle.std.specs.List.{count_by}
use Rattle.savi_kinds.specs.declared.port.PortSet.{PortSet}
use Rattle.savi_kinds.specs.PortSets.{is_member}
use Rattle.egress_ring.specs.declared.item.Item.{Item as Queued}
use Rattle.egress_ring.specs.declared.item.Item.TheVariants as entries
use Rattle.savi_history.specs.Offers.{Offer}
use Rattle.savi_core.specs.Lanes.{Lane, with_probe, takes, leaves_out}

pub record Rings : Type 0 where
  pub lanes : List (Lane Queued)
  -- the ports that are shut
  pub shut : PortSet
  -- how many probes joined, and how many were left out, over all ports; a count stays at 4,294,967,295 once it is there
  pub queued : ℕ
  pub lost : ℕ

-- whether a set of shut ports has the port of a number
abbrev pub shut_in : PortSet → ℕ → Bool
shut_in set number = nat_le 1 number && is_member set number

-- the same once the port of this number was shut, or opened
abbrev pub with_shut : ℕ → Bool → (ℕ → Bool) → ℕ → Bool
with_shut number is_shut shut q = if number == q then is_shut else shut q

-- a count after so many more
abbrev pub counted : ℕ → ℕ → ℕ
counted count more = min (count + more) 4294967295

-- the same with both counts at 0
abbrev pub uncounted : Rings → Rings
uncounted rings = record rings { queued = 0; lost = 0 }

-- a probe as a ring keeps it
abbrev pub ring_item : Offer → Queued
ring_item offer = entries.Probe offer.due offer.address offer.vlan

-- the queues once a probe was offered to each port to which it goes
abbrev pub rings_after_probe : Rings → Offer → Rings
rings_after_probe rings offer = record {
  lanes = map (with_probe (shut_in rings.shut) (ring_item offer) offer) rings.lanes;
  shut = rings.shut;
  queued = counted rings.queued (count_by (takes (shut_in rings.shut) offer) rings.lanes);
  lost = counted rings.lost (count_by (leaves_out (shut_in rings.shut) offer) rings.lanes);
}
