-- How many probes joined and how many were left out, over all ports: what the history counts. The list of probes is any.
use Rattle.std.proofs.Common.{ℕ, ◌≡◌, ◌+◌, ◌-◌, ◌*◌, ◌<◌, ◌≤◌, min, cond, not, ◌&&◌, Bool, true, false, if◌then◌else◌, List, [], ◌∷◌, ◌++◌, length, map, fold, refl, sym, ap, ◌∙◌, arith, length-append}
use Rattle.std.specs.List.{filter, count_by}
use Rattle.std.proofs.lemmas.List.{length-map}
use Rattle.std.proofs.lemmas.List.Sums.{sum_by-cons, length-filter, count_by-le-length}
use Rattle.savi_kinds.specs.declared.plan.Plan.{Plan}
use Rattle.savi_kinds.specs.declared.entry.Act.{Act}
use Rattle.savi_kinds.specs.ValidPlan.{IsValidPlan, numbers_of}
use Rattle.egress_ring.specs.declared.item.Item.{Item as Queued}
use Rattle.hist_store.specs.Rows.{Row}
use Rattle.checkpoint.specs.Bases.{Base}
use Rattle.savi_history.specs.Offers.{Offer, offers}
use Rattle.savi_history.specs.Queues.{Item, probe_item, is_probed, room_at, queue, offered_at, probed, queued_at, lost_at, over_ports, probes, lost}
use Rattle.savi_history.proofs.Joining.{joined_more, joined_few, joined_within, room_low}
use Rattle.savi_history.proofs.Depth.{queue_within}
use Rattle.savi_core.specs.Lanes.{Lane, goes_to, takes_one, with_probe, takes, leaves_out, lane_of}
use Rattle.savi_core.specs.Waits.{queued_item, shown_lane, Show}
use Rattle.savi_core.specs.Rings.{Rings, shut_in, counted, ring_item, rings_after_probe}
use Rattle.savi_core.proofs.Places.{length-numbers}
use Rattle.savi_core.proofs.Lanes.{probed_lane}
use Rattle.savi_core.proofs.Probing.{sent_to, shut_by, offered_is, show_probed}

-- how many items wait in lanes
abbrev waiting : {A : Type 0} → List (Lane A) → ℕ
waiting [] = 0
waiting (lane ∷ lanes) = length lane.items + waiting lanes

-- to how many of the lanes each of the probes goes, in sum
abbrev offered : {A : Type 0} → (ℕ → Bool) → List Offer → List (Lane A) → ℕ
offered shut sents [] = 0
offered shut sents (lane ∷ lanes) = length (sent_to shut sents lane) + offered shut sents lanes

module _ (shut : ℕ → Bool) (item : Queued) (sent : Offer) where
  taken_at : (lane : Lane Queued) (b c : Bool) → length (if b then (if c then record lane { items = lane.items ++ item ∷ [] } else lane) else lane).items ≡ length lane.items + cond (b && c) 1 0
  taken_at lane true true = omega (arith, length-append lane.items (item ∷ []))
  taken_at lane true false = omega arith
  taken_at lane false c = omega arith

  -- as many items more wait as lanes take the probe
  taken : (lanes : List (Lane Queued)) → waiting (map (with_probe shut item sent) lanes) ≡ waiting lanes + count_by (takes shut sent) lanes
  taken [] = refl
  taken (lane ∷ lanes) =
      omega (
        arith,
        taken_at lane (goes_to shut sent lane) (takes_one lane),
        taken lanes,
        sum_by-cons (λ (x : Lane Queued). cond (takes shut sent x) 1 0) lane lanes,
      )

  left_at : (sents : List Offer) (lane : Lane Queued) (b c : Bool)
      → cond (b && not c) 1 0 + length (if b then (if c then record lane { items = lane.items ++ item ∷ [] } else lane) else lane).items + length (sent_to shut sents (if b then (if c then record lane { items = lane.items ++ item ∷ [] } else lane) else lane))
      ≡ length lane.items + length (if b then sent ∷ sent_to shut sents lane else sent_to shut sents lane)
  left_at sents lane true true = omega (arith, length-append lane.items (item ∷ []))
  left_at sents lane true false = omega arith
  left_at sents lane false c = omega arith

  -- each lane to which the probe goes takes it or leaves it out
  left : (sents : List Offer) (lanes : List (Lane Queued)) → count_by (leaves_out shut sent) lanes + waiting (map (with_probe shut item sent) lanes) + offered shut sents (map (with_probe shut item sent) lanes) ≡ waiting lanes + offered shut (sent ∷ sents) lanes
  left sents [] = refl
  left sents (lane ∷ lanes) =
      omega (
        arith,
        left_at sents lane (goes_to shut sent lane) (takes_one lane),
        left sents lanes,
        sum_by-cons (λ (x : Lane Queued). cond (leaves_out shut sent x) 1 0) lane lanes,
      )

nothing : (shut : ℕ → Bool) (lanes : List (Lane Queued)) → offered shut [] lanes ≡ 0
nothing shut [] = refl
nothing shut (lane ∷ lanes) = omega (arith, nothing shut lanes)

-- no fewer wait, and no more than are offered join
grows : (sents : List Offer) (rings : Rings) → waiting rings.lanes ≤ waiting (fold rings_after_probe rings sents).lanes
grows [] rings = omega arith
grows (sent ∷ sents) rings = omega (arith, grows sents (rings_after_probe rings sent), taken (shut_in rings.shut) (ring_item sent) sent rings.lanes)

few : (sents : List Offer) (rings : Rings) → waiting (fold rings_after_probe rings sents).lanes ≤ waiting rings.lanes + offered (shut_in rings.shut) sents rings.lanes
few [] rings = omega arith
few (sent ∷ sents) rings = omega (arith, few sents (rings_after_probe rings sent), left (shut_in rings.shut) (ring_item sent) sent sents rings.lanes)

-- what is counted is by how much the lanes grew, and how much of what was offered they did not

queued_by : (sents : List Offer) (rings : Rings) → rings.queued ≤ 4294967295 → (fold rings_after_probe rings sents).queued ≡ counted rings.queued (waiting (fold rings_after_probe rings sents).lanes - waiting rings.lanes)
queued_by [] rings fits = omega arith
queued_by (sent ∷ sents) rings fits =
    omega (
      arith,
      queued_by sents (rings_after_probe rings sent) (omega arith),
      grows sents (rings_after_probe rings sent),
      taken (shut_in rings.shut) (ring_item sent) sent rings.lanes,
    )

lost_by : (sents : List Offer) (rings : Rings) → rings.lost ≤ 4294967295 → (fold rings_after_probe rings sents).lost ≡ counted rings.lost (waiting rings.lanes + offered (shut_in rings.shut) sents rings.lanes - waiting (fold rings_after_probe rings sents).lanes)
lost_by [] rings fits =
    omega (arith, nothing (shut_in rings.shut) rings.lanes)
lost_by (sent ∷ sents) rings fits =
    omega (
      arith,
      lost_by sents (rings_after_probe rings sent) (omega arith),
      few sents (rings_after_probe rings sent),
      left (shut_in rings.shut) (ring_item sent) sent sents rings.lanes,
    )

-- the same by the lanes of a history

module _ (plan : Plan) (rows : List Row) where
  waiting_shown : (lanes : List (Lane Queued)) → waiting (map (shown_lane plan rows) lanes) ≡ waiting lanes
  waiting_shown [] = refl
  waiting_shown (lane ∷ lanes) = omega (arith, length-map lane.items (queued_item plan rows lane.number), waiting_shown lanes)

  offered_shown : (shut : ℕ → Bool) (sents : List Offer) (lanes : List (Lane Queued)) → offered shut sents (map (shown_lane plan rows) lanes) ≡ offered shut sents lanes
  offered_shown shut sents [] = refl
  offered_shown shut sents (lane ∷ lanes) = ap (λ (n : ℕ). length (sent_to shut sents lane) + n) (offered_shown shut sents lanes)

waiting_by : (by : ℕ → Lane Item) (ns : List ℕ) → waiting (map by ns) ≡ over_ports ns (λ q. length (by q).items)
waiting_by by [] = refl
waiting_by by (n ∷ ns) = ap (λ (m : ℕ). length (by n).items + m) (waiting_by by ns)

waiting_in : (plan : Plan) (rows : List Row) (lanes : List (Lane Queued)) (by : ℕ → Lane Item) → Show plan rows lanes by → waiting lanes ≡ over_ports (numbers_of plan.ports) (λ q. length (by q).items)
waiting_in plan rows lanes by shows = sym (waiting_shown plan rows lanes) ∙ ap (λ (all : List (Lane Item)). waiting all) shows.same ∙ waiting_by by (numbers_of plan.ports)

module _ (plan : Plan) (base : Base) (past : List Row) (act : Act) (octets : List ℕ) where
  abbrev joining : ℕ → ℕ
  joining q = length (probed plan base past act octets q (queue plan base q past))

  abbrev before : ℕ → ℕ
  before q = length (queue plan base q past)

  abbrev coming : ℕ → ℕ
  coming q = length (offered_at plan base past act octets q)

  queued_sum : (ns : List ℕ) → over_ports ns before + over_ports ns (queued_at plan base past act octets) ≡ over_ports ns joining
  queued_sum [] = refl
  queued_sum (n ∷ ns) = omega (arith, queued_sum ns, joined_more (room_at plan base past n) (queue plan base n past) (offered_at plan base past act octets n))

  lost_sum : (ns : List ℕ) → over_ports ns joining + over_ports ns (lost_at plan base past act octets) ≡ over_ports ns before + over_ports ns coming
  lost_sum [] = refl
  lost_sum (n ∷ ns) =
      omega (
        arith,
        lost_sum ns,
        joined_more (room_at plan base past n) (queue plan base n past) (offered_at plan base past act octets n),
        joined_few (room_at plan base past n) (queue plan base n past) (offered_at plan base past act octets n),
      )

  -- no port takes more than the plan's depth, and none is offered more than there is
  few_queued : plan.depth ≤ 256 → (ns : List ℕ) → over_ports ns (queued_at plan base past act octets) ≤ 256 * length ns
  few_queued low [] = omega arith
  few_queued low (n ∷ ns) =
      omega (
        arith,
        few_queued low ns,
        low,
        joined_within (room_at plan base past n) plan.depth (queue plan base n past) (offered_at plan base past act octets n) (room_low plan base past n) (queue_within plan base n past),
      )

  few_coming : (n : ℕ) → coming n ≤ length (offers plan base past act octets)
  few_coming n =
      omega (
        arith,
        length-map (filter (is_probed plan base past n) (offers plan base past act octets)) (probe_item plan n),
        length-filter (is_probed plan base past n) (offers plan base past act octets),
        count_by-le-length (is_probed plan base past n) (offers plan base past act octets),
      )

  few_lost : length (offers plan base past act octets) < 268435456 → (ns : List ℕ) → over_ports ns (lost_at plan base past act octets) ≤ 268435455 * length ns
  few_lost short [] = omega arith
  few_lost short (n ∷ ns) = omega (arith, few_lost short ns, short, few_coming n)

  module _ (rows : List Row) (sents : List Offer) (rings : Rings) (shut_is : shut_in rings.shut ≡ shut_by plan base past) (valid : IsValidPlan plan) (came : sents ≡ offers plan base past act octets) (was : Show plan rows rings.lanes (lane_of plan base past)) where
    coming_by : (ns : List ℕ) → offered (shut_by plan base past) sents (map (lane_of plan base past) ns) ≡ over_ports ns coming
    coming_by [] = refl
    coming_by (n ∷ ns) =
        let mine : length (map (probe_item plan n) (sent_to (shut_by plan base past) sents (lane_of plan base past n))) ≡ coming n = ap (λ (items : List Item). length items) (offered_is plan valid base past n act octets sents came) in
        omega (arith, coming_by ns, mine, length-map (sent_to (shut_by plan base past) sents (lane_of plan base past n)) (probe_item plan n))

    coming_is : offered (shut_in rings.shut) sents rings.lanes ≡ over_ports (numbers_of plan.ports) coming
    coming_is =
        sym (offered_shown plan rows (shut_in rings.shut) sents rings.lanes)
        ∙ ap (λ (all : List (Lane Item)). offered (shut_in rings.shut) sents all) was.same
        ∙ ap (λ (shut : ℕ → Bool). offered shut sents (map (lane_of plan base past) (numbers_of plan.ports))) shut_is
        ∙ coming_by (numbers_of plan.ports)

    before_is : waiting rings.lanes ≡ over_ports (numbers_of plan.ports) before
    before_is = waiting_in plan rows rings.lanes (lane_of plan base past) was

    joining_is : waiting (fold rings_after_probe rings sents).lanes ≡ over_ports (numbers_of plan.ports) joining
    joining_is = waiting_in plan rows (fold rings_after_probe rings sents).lanes (probed_lane plan base past act octets) (show_probed plan base past rows act octets sents rings valid shut_is came was)

    -- The probes that joined are those that the history counts, as far as there is a number for them.
    pub queued_is : rings.queued ≡ 0 → (fold rings_after_probe rings sents).queued ≡ min (probes plan base past act octets) 4294967295
    unfolding probes
    queued_is none = omega (arith, none, queued_by sents rings (omega (arith, none)), before_is, joining_is, queued_sum (numbers_of plan.ports))

    -- So are those that were left out.
    pub lost_is : rings.lost ≡ 0 → (fold rings_after_probe rings sents).lost ≡ min (lost plan base past act octets) 4294967295
    unfolding lost
    lost_is none = omega (arith, none, lost_by sents rings (omega (arith, none)), before_is, joining_is, coming_is, lost_sum (numbers_of plan.ports))

    -- There always is one for those that joined.
    pub queued_exact : rings.queued ≡ 0 → (fold rings_after_probe rings sents).queued ≡ probes plan base past act octets
    unfolding probes
    queued_exact none = omega (arith, queued_is none, few_queued valid.depth.1 (numbers_of plan.ports), length-numbers plan.ports, valid.port_count.1)

    -- There is one for those that were left out where fewer than 2 ^ 28 were offered.
    pub lost_exact : length sents < 268435456 → rings.lost ≡ 0 → (fold rings_after_probe rings sents).lost ≡ lost plan base past act octets
    unfolding lost
    lost_exact short none =
        let few_offers : length (offers plan base past act octets) < 268435456 = omega (arith, short, ap (λ (all : List Offer). length all) came) in
        omega (arith, lost_is none, few_lost few_offers (numbers_of plan.ports), length-numbers plan.ports, valid.port_count.1)
