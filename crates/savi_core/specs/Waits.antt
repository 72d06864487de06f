-- What the items of a lane stand for in a history whose rows are given with the oldest first.
use Rattle.std.specs.Prelude.{◌≡◌, ℕ, zero, suc, ◌<◌, ◌≤◌, Some, List, [], ◌∷◌, length, map, All, slice_get, IsSomeAnd}
use Rattle.savi_kinds.specs.declared.plan.Plan.{Plan}
use Rattle.savi_kinds.specs.declared.entry.Act.{Act}
use Rattle.savi_kinds.specs.declared.entry.Act.TheVariants as acts
use Rattle.savi_kinds.specs.ValidPlan.{numbers_of}
use Rattle.probe_write.specs.ProbeFrame.{probe_of}
use Rattle.egress_ring.specs.declared.item.Item.{Item as Queued}
use Rattle.egress_ring.specs.declared.item.Item.TheVariants as entries
use Rattle.hist_store.specs.Rows.{Row}
use Rattle.savi_history.specs.Queues.{Item, item_of, sent_octets}
use Rattle.savi_core.specs.Lanes.{Lane}

-- the frame of a row as it goes out at q: without the tag with which it came in, and with its VLAN's where q is a trunk
abbrev pub frame_item : Plan → ℕ → Row → Act → Item
frame_item plan q r (acts.Frame port stamp at len) = item_of plan q port r
frame_item plan q r act = record { moment = r.entry.moment; octets = [] }

-- that of the row with this number
abbrev pub frame_of : Plan → ℕ → List Row → ℕ → Item
frame_of plan q [] n = record { moment = 0; octets = [] }
frame_of plan q (r ∷ rows) zero = frame_item plan q r r.entry.act
frame_of plan q (r ∷ rows) (suc n) = frame_of plan q rows n

-- an item as it goes out at q: a frame carries the moment of its row; a probe, of which the switch is the source, the moment
-- at which it was due
abbrev pub queued_item : Plan → List Row → ℕ → Queued → Item
queued_item plan rows q (entries.Frame n) = frame_of plan q rows n
queued_item plan rows q (entries.Probe due target vid) = record {
  moment = due;
  octets = sent_octets plan q (Some vid) (probe_of plan.mac target);
}

-- the lane with what its items stand for
abbrev pub shown_lane : Plan → List Row → Lane Queued → Lane Item
shown_lane plan rows lane = record {
  number = lane.number;
  trusted = lane.trusted;
  vlans = lane.vlans;
  depth = lane.depth;
  room = lane.room;
  items = map (queued_item plan rows lane.number) lane.items;
}

-- the row of a frame that has a header, of a size that a frame has
abbrev pub IsFrameRow : Row → Act → Type 0
IsFrameRow r (acts.Frame port stamp at len) = (14 ≤ length r.octets) × (length r.octets ≤ 1518)
IsFrameRow r act = ⊥

-- a probe, or the frame of a row that is there
abbrev pub IsThere : List Row → Queued → Type 0
IsThere rows (entries.Frame n) = (n < length rows) × IsSomeAnd (slice_get rows n) (λ r. IsFrameRow r r.entry.act)
IsThere rows (entries.Probe due target vid) = Unit {0}

-- so is all that waits in the lane
abbrev pub AreThere : List Row → Lane Queued → Type 0
AreThere rows lane = All (IsThere rows) lane.items

-- The lanes of a plan's ports hold nothing but what is there, and show these lanes, which are given by the number of a port.
pub record Show (plan : Plan) (rows : List Row) (lanes : List (Lane Queued)) (by : ℕ → Lane Item) : Type 0 where
  pub there : All (AreThere rows) lanes
  pub same : map (shown_lane plan rows) lanes ≡ map by (numbers_of plan.ports)
