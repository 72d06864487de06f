-- What lanes show once the probes of an entry were offered: what waits then by the history. The list of probes is any.
use Rattle.std.proofs.Common.{ℕ, suc, ◌≡◌, ◌+◌, ◌<◌, ◌==◌, ◌&&◌, ◌||◌, not, nat_lt, Bool, true, false, if◌then◌else◌, Some, List, [], ◌∷◌, ◌++◌, length, get_or, map, fold, refl, sym, ap, subst, ◌∙◌, arith}
use Rattle.std.proofs.Math.Bool.{or-false}
use Rattle.std.specs.Prelude.{All}
use Rattle.std.specs.List.{filter, list_any}
use Rattle.std.specs.List.Sorted.{IsStrictlyIncreasing}
use Rattle.std.proofs.lemmas.Bool.{eqb-true, ne_eqb}
use Rattle.std.proofs.lemmas.List.{map-append, length-map}
use Rattle.std.proofs.lemmas.List.Elements.{All-push, All-weaker, All-map}
use Rattle.savi_kinds.specs.declared.plan.Plan.{Plan}
use Rattle.savi_kinds.specs.declared.entry.Act.{Act}
use Rattle.savi_kinds.specs.ValidPlan.{IsValidPlan, numbers_of}
use Rattle.savi_kinds.specs.declared.plan.PortPlan.{PortPlan}
use Rattle.savi_kinds.specs.Ports.{number_of}
use Rattle.savi_kinds.specs.Vlans.{is_member_of, vlan_among}
use Rattle.fcfs_states.specs.declared.answer.Probe.{Probe}
use Rattle.fcfs_states.specs.declared.answer.Probe.TheVariants.{Trusted, To}
use Rattle.egress_ring.specs.declared.item.Item.{Item as Queued}
use Rattle.hist_store.specs.Rows.{Row}
use Rattle.checkpoint.specs.Bases.{Base}
use Rattle.savi_history.specs.ShutPorts.{is_shut}
use Rattle.savi_history.specs.Offers.{Offer, offers}
use Rattle.savi_history.specs.Passes.{role_of, is_trusted}
use Rattle.savi_history.specs.Vlans.{has_member}
use Rattle.savi_history.specs.Queues.{Item, probe_item, is_for, is_probed, room_at, queue, joined_queue, all_joined, offered_at}
use Rattle.savi_history.proofs.PassNumbers.{first_below, rising_tail}
use Rattle.savi_core.specs.Lanes.{Lane, goes_at, goes_to, takes_one, with_probe, lane_of, numbers_by}
use Rattle.savi_core.specs.Waits.{queued_item, shown_lane, IsThere, AreThere, Show}
use Rattle.savi_core.specs.Rings.{Rings, shut_in, ring_item, rings_after_probe}
use Rattle.savi_core.proofs.Lanes.{laned, map_twice, probed_lane}

pub map_across : {A B : Type 0} (show : A → B) (change : A → A) (change_shown : B → B) → ((x : A) → show (change x) ≡ change_shown (show x)) → (xs : List A) → map show (map change xs) ≡ map change_shown (map show xs)
map_across show change change_shown same [] = refl
map_across show change change_shown same (x ∷ xs) =
    ap (λ y. y ∷ map show (map change xs)) (same x) ∙ ap (λ ys. change_shown (show x) ∷ ys) (map_across show change change_shown same xs)

map_unchanged : {A : Type 0} (f : A → A) → ((x : A) → x ≡ f x) → (xs : List A) → xs ≡ map f xs
map_unchanged f same [] = refl
map_unchanged f same (x ∷ xs) = ap (λ y. y ∷ xs) (same x) ∙ ap (λ ys. f x ∷ ys) (map_unchanged f same xs)

-- those of the probes that go to the lane's port
abbrev pub sent_to : {A : Type 0} → (ℕ → Bool) → List Offer → Lane A → List Offer
sent_to shut sents lane = filter (λ sent. goes_to shut sent lane) sents

-- the lane once they were offered
abbrev pub with_probes : (ℕ → Bool) → Plan → List Offer → Lane Item → Lane Item
with_probes shut plan sents lane = laned lane.depth lane.number lane.trusted lane.vlans lane.room (all_joined lane.room lane.items (map (probe_item plan lane.number) (sent_to shut sents lane)))

-- the lane once a probe was offered as it goes out at its port
abbrev pub with_own : (ℕ → Bool) → Plan → Offer → Lane Item → Lane Item
with_own shut plan sent lane = with_probe shut (probe_item plan lane.number sent) sent lane

module _ (shut : ℕ → Bool) (plan : Plan) (sent : Offer) where
  module _ (sents : List Offer) (lane : Lane Item) where
    joined_at : (b c : Bool) → with_probes shut plan sents (if b then (if c then record lane { items = lane.items ++ probe_item plan lane.number sent ∷ [] } else lane) else lane)
        ≡ laned lane.depth lane.number lane.trusted lane.vlans lane.room (all_joined lane.room (if b then (if c then lane.items ++ probe_item plan lane.number sent ∷ [] else lane.items) else lane.items) (map (probe_item plan lane.number) (sent_to shut sents lane)))
    joined_at true true = refl
    joined_at true false = refl
    joined_at false c = refl

    front_at : (b : Bool) (rest : List Offer) → all_joined lane.room (if b then joined_queue lane.room lane.items (probe_item plan lane.number sent) else lane.items) (map (probe_item plan lane.number) rest) ≡ all_joined lane.room lane.items (map (probe_item plan lane.number) (if b then sent ∷ rest else rest))
    front_at true rest = refl
    front_at false rest = refl

    -- one probe and then the others are all of them
    one_more : with_probes shut plan sents (with_probe shut (probe_item plan lane.number sent) sent lane) ≡ with_probes shut plan (sent ∷ sents) lane
    one_more =
        joined_at (goes_to shut sent lane) (takes_one lane)
        ∙ ap (λ (items : List Item). laned lane.depth lane.number lane.trusted lane.vlans lane.room items) (front_at (goes_to shut sent lane) (sent_to shut sents lane))

  module _ (rows : List Row) (lane : Lane Queued) where
    shown_at : (b c : Bool) → shown_lane plan rows (if b then (if c then record lane { items = lane.items ++ ring_item sent ∷ [] } else lane) else lane)
        ≡ (if b then (if c then record (shown_lane plan rows lane) { items = map (queued_item plan rows lane.number) lane.items ++ probe_item plan lane.number sent ∷ [] } else shown_lane plan rows lane) else shown_lane plan rows lane)
    shown_at true true = ap (λ (items : List Item). laned lane.depth lane.number lane.trusted lane.vlans lane.room items) (map-append (queued_item plan rows lane.number) lane.items (ring_item sent ∷ []))
    shown_at true false = refl
    shown_at false c = refl

    -- a probe, offered, shows as its frame offered
    shown_probe : shown_lane plan rows (with_probe shut (ring_item sent) sent lane) ≡ with_probe shut (probe_item plan lane.number sent) sent (shown_lane plan rows lane)
    shown_probe =
        shown_at (goes_to shut sent lane) (takes_one lane)
        ∙ ap (λ (n : ℕ). if goes_to shut sent lane then (if nat_lt n lane.room then record (shown_lane plan rows lane) { items = map (queued_item plan rows lane.number) lane.items ++ probe_item plan lane.number sent ∷ [] } else shown_lane plan rows lane) else shown_lane plan rows lane)
        (sym (length-map lane.items (queued_item plan rows lane.number)))

there_at : (rows : List Row) (sent : Offer) (lane : Lane Queued) → AreThere rows lane → (b c : Bool) → AreThere rows (if b then (if c then record lane { items = lane.items ++ ring_item sent ∷ [] } else lane) else lane)
there_at rows sent lane there true true = All-push (IsThere rows) lane.items (ring_item sent) there tt
there_at rows sent lane there true false = there
there_at rows sent lane there false c = there

pub there_probed : (rows : List Row) (sents : List Offer) (rings : Rings) → All (AreThere rows) rings.lanes → All (AreThere rows) (fold rings_after_probe rings sents).lanes
there_probed rows [] rings there = there
there_probed rows (sent ∷ sents) rings there =
    there_probed rows sents (rings_after_probe rings sent)
    (All-map (AreThere rows) (with_probe (shut_in rings.shut) (ring_item sent) sent) rings.lanes
    (All-weaker (AreThere rows) (λ (lane : Lane Queued). AreThere rows (with_probe (shut_in rings.shut) (ring_item sent) sent lane)) (λ lane is. there_at rows sent lane is (goes_to (shut_in rings.shut) sent lane) (takes_one lane)) rings.lanes there))

-- the lanes are those of the same ports
number_at : (item : Queued) (lane : Lane Queued) (b c : Bool) → (if b then (if c then record lane { items = lane.items ++ item ∷ [] } else lane) else lane).number ≡ lane.number
number_at item lane true true = refl
number_at item lane true false = refl
number_at item lane false c = refl

pub numbers_probed : (shut : ℕ → Bool) (item : Queued) (probe : Offer) (lanes : List (Lane Queued)) → map (λ (lane : Lane Queued). lane.number) (map (with_probe shut item probe) lanes) ≡ map (λ (lane : Lane Queued). lane.number) lanes
numbers_probed shut item probe [] = refl
numbers_probed shut item probe (lane ∷ lanes) =
    ap (λ n. n ∷ map (λ (x : Lane Queued). x.number) (map (with_probe shut item probe) lanes)) (number_at item lane (goes_to shut probe lane) (takes_one lane))
    ∙ ap (λ ns. lane.number ∷ ns) (numbers_probed shut item probe lanes)

-- offered one after another, each to all lanes, they are offered to each lane one after another
pub by_lanes : (plan : Plan) (rows : List Row) (sents : List Offer) (rings : Rings) → map (shown_lane plan rows) (fold rings_after_probe rings sents).lanes ≡ map (with_probes (shut_in rings.shut) plan sents) (map (shown_lane plan rows) rings.lanes)
by_lanes plan rows [] rings = map_unchanged (with_probes (shut_in rings.shut) plan []) (λ lane. refl) (map (shown_lane plan rows) rings.lanes)
by_lanes plan rows (sent ∷ sents) rings =
    by_lanes plan rows sents (rings_after_probe rings sent)
    ∙ ap (map (with_probes (shut_in rings.shut) plan sents)) (map_across (shown_lane plan rows) (with_probe (shut_in rings.shut) (ring_item sent) sent) (with_own (shut_in rings.shut) plan sent) (shown_probe (shut_in rings.shut) plan sent rows) rings.lanes)
    ∙ map_twice (with_own (shut_in rings.shut) plan sent) (with_probes (shut_in rings.shut) plan sents) (with_probes (shut_in rings.shut) plan (sent ∷ sents)) (one_more (shut_in rings.shut) plan sent sents) (map (shown_lane plan rows) rings.lanes)

-- the ports that are shut by the history
abbrev pub shut_by : Plan → Base → List Row → ℕ → Bool
shut_by plan base past = λ number. is_shut plan base number past

-- numbers that rise: the others are above the first
abbrev has_own : ℕ → ℕ → List PortPlan → Bool
has_own q vlan ports = list_any (λ p. (number_of p.number == q) && is_member_of vlan p) ports

-- where all numbers are above, none of the ports is this one
no_member : (ports : List PortPlan) (q vlan : ℕ) → ((j : ℕ) → j < length (numbers_of ports) → q < get_or (numbers_of ports) j 0) → has_own q vlan ports ≡ false
no_member [] q vlan above = refl
no_member (p ∷ ports) q vlan above =
    let first : q < number_of p.number = above 0 (omega arith) in
    ap (λ (b : Bool). (b && is_member_of vlan p) || has_own q vlan ports) (ne_eqb (number_of p.number) q (λ same. omega (arith, first, same)))
    ∙ no_member ports q vlan (λ j inside. above (suc j) (omega (arith, inside)))

member_at : (p : PortPlan) (ports : List PortPlan) (q vlan : ℕ) (b : Bool) → list_any (λ v. v == vlan) (numbers_by (vlan_among ports q)) ≡ has_own q vlan ports → (b ≡ true → has_own q vlan ports ≡ false)
    → list_any (λ v. v == vlan) (numbers_by (if b then Some p.vlan else vlan_among ports q)) ≡ ((b && is_member_of vlan p) || has_own q vlan ports)
member_at p ports q vlan true rest none = sym (ap (λ (b : Bool). is_member_of vlan p || b) (none refl) ∙ or-false (is_member_of vlan p))
member_at p ports q vlan false rest none = rest

own_members : (ports : List PortPlan) (q vlan : ℕ) → IsStrictlyIncreasing (numbers_of ports) → list_any (λ v. v == vlan) (numbers_by (vlan_among ports q)) ≡ has_own q vlan ports
own_members [] q vlan rising = refl
own_members (p ∷ ports) q vlan rising =
    member_at p ports q vlan (number_of p.number == q) (own_members ports q vlan (rising_tail (number_of p.number) (numbers_of ports) rising))
    (λ here. no_member ports q vlan (λ j inside. subst (λ (n : ℕ). n < get_or (numbers_of ports) j 0) (eqb-true (number_of p.number) q here) (first_below (number_of p.number) (numbers_of ports) j rising inside)))

-- a port of a plan is a member of the VLANs of its own
member_is : (plan : Plan) (q vlan : ℕ) → IsValidPlan plan → list_any (λ v. v == vlan) (numbers_by (vlan_among plan.ports q)) ≡ has_member vlan plan q
member_is plan q vlan valid = own_members plan.ports q vlan valid.ports

module _ (plan : Plan) (valid : IsValidPlan plan) (base : Base) (past : List Row) (q : ℕ) where
  goes_is : (sent : Offer) (probe : Probe) → (goes_at sent.vlan probe q (is_trusted (role_of plan q)) (numbers_by (vlan_among plan.ports q)) && not (is_shut plan base q past)) ≡ (is_for plan q sent.vlan probe && not (is_shut plan base q past))
  goes_is sent Trusted = ap (λ (b : Bool). (is_trusted (role_of plan q) && b) && not (is_shut plan base q past)) (member_is plan q sent.vlan valid)
  goes_is sent (To port) = refl

  kept_at : (b : Bool) (sent : Offer) (rest offered : List Offer) → map (probe_item plan q) rest ≡ map (probe_item plan q) offered
      → map (probe_item plan q) (if b then sent ∷ rest else rest) ≡ map (probe_item plan q) (if b then sent ∷ offered else offered)
  kept_at true sent rest offered same = ap (λ (items : List Item). probe_item plan q sent ∷ items) same
  kept_at false sent rest offered same = same

  -- the probes that go to a port are those that the history offers it
  pub sent_is : (sents : List Offer) → map (probe_item plan q) (sent_to (shut_by plan base past) sents (lane_of plan base past q)) ≡ map (probe_item plan q) (filter (is_probed plan base past q) sents)
  sent_is [] = refl
  sent_is (sent ∷ sents) =
      let rest = filter (is_probed plan base past q) sents in
      kept_at (goes_to (shut_by plan base past) sent (lane_of plan base past q)) sent (sent_to (shut_by plan base past) sents (lane_of plan base past q)) rest (sent_is sents)
      ∙ ap (λ (b : Bool). map (probe_item plan q) (if b then sent ∷ rest else rest)) (goes_is sent sent.probe)

  module _ (act : Act) (octets : List ℕ) (sents : List Offer) (came : sents ≡ offers plan base past act octets) where
    pub offered_is : map (probe_item plan q) (sent_to (shut_by plan base past) sents (lane_of plan base past q)) ≡ offered_at plan base past act octets q
    offered_is = sent_is sents ∙ ap (λ (all : List Offer). map (probe_item plan q) (filter (is_probed plan base past q) all)) came

    probed_is : with_probes (shut_by plan base past) plan sents (lane_of plan base past q) ≡ probed_lane plan base past act octets q
    probed_is = ap (λ (items : List Item). laned plan.depth q (is_trusted (role_of plan q)) (numbers_by (vlan_among plan.ports q)) (room_at plan base past q) (all_joined (room_at plan base past q) (queue plan base q past) items)) offered_is

-- The lanes that show the history's show, once all probes of an entry were offered, what waits then.
pub show_probed : (plan : Plan) (base : Base) (past rows : List Row) (act : Act) (octets : List ℕ) (sents : List Offer) (rings : Rings) → IsValidPlan plan → shut_in rings.shut ≡ shut_by plan base past → sents ≡ offers plan base past act octets
    → Show plan rows rings.lanes (lane_of plan base past) → Show plan rows (fold rings_after_probe rings sents).lanes (probed_lane plan base past act octets)
show_probed plan base past rows act octets sents rings valid shut_is came was = record {
  there = there_probed rows sents rings was.there;
  same =
      by_lanes plan rows sents rings
      ∙ ap (λ (shut : ℕ → Bool). map (with_probes shut plan sents) (map (shown_lane plan rows) rings.lanes)) shut_is
      ∙ ap (map (with_probes (shut_by plan base past) plan sents)) was.same
      ∙ map_twice (lane_of plan base past) (with_probes (shut_by plan base past) plan sents) (probed_lane plan base past act octets) (λ q. probed_is plan valid base past q act octets sents came) (numbers_of plan.ports);
}
