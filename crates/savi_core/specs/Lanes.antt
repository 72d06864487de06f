-- The queues of all ports: a lane for each, in the order of the plan. A lane's items are what its port keeps of them, or
-- what they stand for.
use Rattle.std.specs.Prelude.{◌≡◌, ℕ, ◌==◌, ◌&&◌, not, nat_lt, nat_le, Bool, false, if◌then◌else◌, Option, Some, None, List, [], ◌∷◌, ◌++◌, length, map, drop, slice_set, slice_index_or}
use Rattle.std.specs.List.{filter, list_any}
use Rattle.savi_kinds.specs.declared.port.PortSet.{PortSet}
use Rattle.savi_kinds.specs.declared.plan.Plan.{Plan}
use Rattle.savi_kinds.specs.declared.plan.PortPlan.{PortPlan}
use Rattle.savi_kinds.specs.declared.plan.Vlan.{Vlan}
use Rattle.savi_kinds.specs.declared.entry.Who.{Who}
use Rattle.savi_kinds.specs.declared.entry.Who.TheVariants.{Ingress, Control, Ticker, Egress}
use Rattle.savi_kinds.specs.declared.entry.How.{How}
use Rattle.savi_kinds.specs.declared.entry.How.TheVariants as hows
use Rattle.savi_kinds.specs.Ports.{number_of}
use Rattle.savi_kinds.specs.PortSets.{is_member, set_of}
use Rattle.savi_kinds.specs.Vlans.{numbers_of_vlan, vlan_among}
use Rattle.fcfs_states.specs.declared.answer.Probe.{Probe}
use Rattle.fcfs_states.specs.declared.answer.Probe.TheVariants.{Trusted, To}
use Rattle.hist_store.specs.Rows.{Row}
use Rattle.checkpoint.specs.Bases.{Base}
use Rattle.savi_history.specs.Passes.{place_of, role_of, is_trusted}
use Rattle.savi_history.specs.Offers.{Offer}
use Rattle.savi_history.specs.Queues.{Item, room_at, queue}

pub record Lane (A : Type 0) : Type 0 where
  -- of its port, whether that is trusted, and the VLANs of which it is a member
  pub number : ℕ
  pub trusted : Bool
  pub vlans : List ℕ
  -- how many items may wait as long as its egress hasn't ended, and how many may now
  pub depth : ℕ
  pub room : ℕ
  -- those that wait, the oldest first
  pub items : List A

-- the lane of a port at the start of a switch
abbrev pub empty_lane : {A : Type 0} → ℕ → PortPlan → Lane A
empty_lane depth p = record {
  number = number_of p.number;
  trusted = is_trusted p.role;
  vlans = numbers_of_vlan p.vlan;
  depth = depth;
  room = depth;
  items = [];
}

-- as many items wait as may
abbrev pub takes_none : {A : Type 0} → Lane A → Bool
takes_none lane = nat_le lane.room (length lane.items)

-- one more item may wait
abbrev pub takes_one : {A : Type 0} → Lane A → Bool
takes_one lane = nat_lt (length lane.items) lane.room

-- the lane once an item was offered: it joins where there is room
abbrev pub with_offered : {A : Type 0} → A → Lane A → Lane A
with_offered item lane = if takes_one lane then record lane { items = lane.items ++ item ∷ [] } else lane

-- a probe in a VLAN is for the port of this number: one for the trusted ports, where that is trusted and a member of the VLAN
abbrev pub goes_at : ℕ → Probe → ℕ → Bool → List ℕ → Bool
goes_at vlan Trusted number trusted vlans = trusted && list_any (λ v. v == vlan) vlans
goes_at vlan (To port) number trusted vlans = number_of port == number

-- a probe goes to the lane's port, where some ports are shut
abbrev pub goes_to : {A : Type 0} → (ℕ → Bool) → Offer → Lane A → Bool
goes_to shut offer lane = goes_at offer.vlan offer.probe lane.number lane.trusted lane.vlans && not (shut lane.number)

-- the lane once a probe was offered, which shows as this item
abbrev pub with_probe : {A : Type 0} → (ℕ → Bool) → A → Offer → Lane A → Lane A
with_probe shut item offer lane = if goes_to shut offer lane then with_offered item lane else lane

-- the lane takes a probe, or leaves it out
abbrev pub takes : {A : Type 0} → (ℕ → Bool) → Offer → Lane A → Bool
takes shut offer lane = goes_to shut offer lane && takes_one lane

abbrev pub leaves_out : {A : Type 0} → (ℕ → Bool) → Offer → Lane A → Bool
leaves_out shut offer lane = goes_to shut offer lane && not (takes_one lane)

-- the lane once a frame was offered to these ports
abbrev pub with_frame : {A : Type 0} → A → PortSet → Lane A → Lane A
with_frame item outs lane = if is_member outs lane.number then with_offered item lane else lane

-- a frame that goes to these ports is left out at the lane
abbrev pub is_cut : {A : Type 0} → PortSet → Lane A → Bool
is_cut outs lane = is_member outs lane.number && takes_none lane

-- the ports where it is left out
abbrev pub cut_at : {A : Type 0} → PortSet → List (Lane A) → PortSet
cut_at outs lanes = set_of (map (λ lane. lane.number) (filter (is_cut outs) lanes))

-- the lane once so many items were taken from its front
abbrev pub with_drained : {A : Type 0} → ℕ → Lane A → Lane A
with_drained count lane = record lane { items = drop count lane.items }

-- the lane once its egress has ended: nothing joins any more, and after a failed write nothing waits
abbrev pub with_ended : {A : Type 0} → How → Lane A → Lane A
with_ended hows.Failed lane = record lane { room = 0; items = [] }
with_ended how lane = record lane { room = 0 }

-- the lane once a new history begins: items join again, unless its egress has ended for good
abbrev pub with_reopened : {A : Type 0} → Bool → Lane A → Lane A
with_reopened is_over lane = record lane { room = if is_over then 0 else lane.depth }

-- the VLANs of which a port of a plan is a member
abbrev pub numbers_by : Option Vlan → List ℕ
numbers_by (Some vlan) = numbers_of_vlan vlan
numbers_by None = []

-- the lane of a port by the history
abbrev pub lane_of : Plan → Base → List Row → ℕ → Lane Item
lane_of plan base past q = record {
  number = q;
  trusted = is_trusted (role_of plan q);
  vlans = numbers_by (vlan_among plan.ports q);
  depth = plan.depth;
  room = room_at plan base past q;
  items = queue plan base q past;
}

-- a lane of no port, as what stands outside of a list of lanes
abbrev pub no_lane : {A : Type 0} → Lane A
no_lane = record { number = 0; trusted = false; vlans = []; depth = 0; room = 0; items = [] }

-- the lanes once a pass has ended for this reason: the lane of a port whose egress it is has ended
abbrev pub AreEnded : {A : Type 0} → Plan → Who → How → List (Lane A) → List (Lane A) → Type 0
AreEnded plan (Ingress port) how old new = new ≡ old
AreEnded plan Control how old new = new ≡ old
AreEnded plan Ticker how old new = new ≡ old
AreEnded plan (Egress port) how old new =
    let place = place_of plan (number_of port) in new ≡ slice_set old place (with_ended how (slice_index_or old place no_lane))
