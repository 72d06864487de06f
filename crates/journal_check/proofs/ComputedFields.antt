-- What is computed of an event in a legal history fits its field of a line.
use Rattle.std.proofs.Common.{◌≡◌, ℕ, ◌-◌, ◌*◌, ◌^◌, ◌<◌, ◌≤◌, if◌then◌else◌, Bool, true, false, List, [], ◌∷◌, length, map, arith, length-append}
use Rattle.std.specs.List.{filter}
use Rattle.std.proofs.lemmas.Nat.{or_of_16, pow_below}
use Rattle.std.proofs.lemmas.List.{length-map}
use Rattle.std.proofs.lemmas.List.Sums.{length-filter, count_by-le-length}
use Rattle.savi_kinds.specs.declared.plan.Plan.{Plan}
use Rattle.savi_kinds.specs.declared.plan.PortPlan.{PortPlan}
use Rattle.savi_kinds.specs.declared.entry.Act.{Act}
use Rattle.savi_kinds.specs.declared.entry.Act.TheVariants as acts
use Rattle.savi_kinds.specs.declared.entry.Who.{Who}
use Rattle.savi_kinds.specs.Ports.{number_of}
use Rattle.savi_kinds.specs.PortSets.{set_of}
use Rattle.savi_kinds.specs.ValidPlan.{IsValidPlan, numbers_of}
use Rattle.savi_kinds.specs.Vlans.{vlans_of}
use Rattle.savi_access.proofs.RowCounts.{few_rows}
use Rattle.savi_access.specs.Marks.{told}
use Rattle.savi_access.specs.Plans.{rules_of}
use Rattle.savi_access.proofs.States.{told_past, told_before}
use Rattle.hist_store.specs.Rows.{Row}
use Rattle.savi_history.specs.Accesses.{IsTold}
use Rattle.checkpoint.specs.Bases.{Base, access_of}
use Rattle.savi_history.specs.Passes.{has_pass, pass_of}
use Rattle.savi_history.specs.Moments.{last_moment, moment_at}
use Rattle.savi_history.specs.Vlans.{vlan_of_frame}
use Rattle.savi_history.specs.Merges.{merged}
use Rattle.savi_history.specs.Marks.{marks}
use Rattle.savi_history.specs.Judged.{judged_of}
use Rattle.savi_history.specs.Offers.{Offer, offer_of, offers, due_by, due_in, in_answer}
use Rattle.savi_history.specs.Queues.{is_probed, probe_item, room_at, queue, offered_at, queued_at, lost_at, over_ports, probes, lost}
use Rattle.savi_history.specs.Limits.{IsWithinLimits}
use Rattle.savi_history.specs.Legal.{IsLegal}
use Rattle.savi_history.proofs.Depth.{queue_within}
use Rattle.savi_history.proofs.Joining.{joined_within, room_low}
use Rattle.savi_history.proofs.Telling.{AreOctets, told_rightly}
use Rattle.savi_core.proofs.Places.{length-numbers, pass_within}
use Rattle.savi_segments.proofs.MergedLengths.{merged_length}
use Rattle.savi_core.proofs.Telling.{few_between, one_answer}

-- the number of a pass

pub pass_fits : (plan : Plan) (who : Who) → IsValidPlan plan → has_pass plan who ≡ true → pass_of plan who < 2 ^ 32
pass_fits plan who valid known = omega (arith, pass_within plan who known, valid.port_count.1)

-- a set of ports of a plan

set_more : (b : Bool) (n : ℕ) (ns : List ℕ) → n ≤ 16 → (set_of ns).0 < 2 ^ 16 → (set_of (if b then n ∷ ns else ns)).0 < 2 ^ 16
set_more true n ns high before = or_of_16 (set_of ns).0 (2 ^ (n - 1)) before (pow_below (n - 1) 16 (omega (arith, high)))
set_more false n ns high before = before

pub set_fits : (test : ℕ → Bool) (ports : List PortPlan) → (set_of (filter test (numbers_of ports))).0 < 2 ^ 16
set_fits test [] = omega arith
set_fits test (p ∷ ports) = set_more (test (number_of p.number)) (number_of p.number) (filter test (numbers_of ports)) p.number.high (set_fits test ports)

-- the probes that fall due, in each VLAN at most three for each address

module _ (plan : Plan) (valid : IsValidPlan plan) (base : Base) (within : IsWithinLimits plan base) (past : List Row) (legal : IsLegal plan base past) (octets_are : AreOctets past) where
  few_in : (moment : ℕ) → last_moment base past ≤ moment → (vlan : ℕ) → length (due_in plan base past moment vlan) ≤ 3072
  few_in moment later vlan =
      let r = rules_of plan in
      let access = access_of base in
      let all = marks plan base past in
      let from = last_moment base past in
      let told_is : IsTold plan base past = told_rightly plan valid base within past legal octets_are in
      omega (
        arith,
        few_between r.addresses access.addresses (told all) from moment vlan within.access.addresses later,
        few_rows r.addresses access.addresses (told all) from vlan within.access.addresses (told_past r access all told_is.right) (told_before r access all from told_is.right told_is.last),
        valid.per_port.1,
      )

  abbrev offers_in : ℕ → ℕ → List Offer
  offers_in moment vlan = map (offer_of vlan) (due_in plan base past moment vlan)

  few_all : (moment : ℕ) → last_moment base past ≤ moment → (vlans : List ℕ) → length (merged (λ (offer : Offer). offer.due) (map (offers_in moment) vlans)) ≤ 3072 * length vlans
  few_all moment later [] = omega arith
  few_all moment later (vlan ∷ vlans) =
      let due : Offer → ℕ = λ offer. offer.due in
      let first = offers_in moment vlan in
      let rest = merged due (map (offers_in moment) vlans) in
      omega (arith, merged_length due first rest, length-map (due_in plan base past moment vlan) (offer_of vlan), few_in moment later vlan, few_all moment later vlans)

  few_due : (moment : ℕ) → last_moment base past ≤ moment → length (due_by plan base past moment) ≤ 24576
  few_due moment later = omega (arith, few_all moment later (vlans_of plan), valid.vlan_count)

  few_offers : (act : Act) (octets : List ℕ) → length (offers plan base past act octets) ≤ 24577
  unfolding offers
  few_offers (acts.Frame port stamp at len) octets =
      let moment = moment_at base past stamp in
      let due : length (due_by plan base past moment) ≤ 24576 = few_due moment (omega arith) in
      let answer = in_answer (vlan_of_frame plan (number_of port) octets) (judged_of plan base past port stamp octets).probe in
      omega (arith, due, one_answer (vlan_of_frame plan (number_of port) octets) (judged_of plan base past port stamp octets).probe, length-append (due_by plan base past moment) answer)
  few_offers (acts.Long port stamp len) octets = omega (arith, few_due (moment_at base past stamp) (omega arith))
  few_offers (acts.Tick stamp) octets = omega (arith, few_due (moment_at base past stamp) (omega arith))
  few_offers (acts.Command stamp at len) octets = omega (arith, few_due (moment_at base past stamp) (omega arith))
  few_offers (acts.Drain port count) octets = omega arith
  few_offers (acts.End who how) octets = omega arith

  -- no port takes more than the plan's depth, and none is offered more than there is

  queued_few : (act : Act) (octets : List ℕ) (ns : List ℕ) → over_ports ns (queued_at plan base past act octets) ≤ 256 * length ns
  queued_few act octets [] = omega arith
  queued_few act octets (n ∷ ns) =
      omega (
        arith,
        queued_few act octets ns,
        valid.depth.1,
        joined_within (room_at plan base past n) plan.depth (queue plan base n past) (offered_at plan base past act octets n) (room_low plan base past n) (queue_within plan base n past),
      )

  few_offered : (act : Act) (octets : List ℕ) (n : ℕ) → length (offered_at plan base past act octets n) ≤ 24577
  few_offered act octets n =
      let is_for_it : Offer → Bool = is_probed plan base past n in
      let all = offers plan base past act octets in
      omega (arith, length-map (filter is_for_it all) (probe_item plan n), length-filter is_for_it all, count_by-le-length is_for_it all, few_offers act octets)

  lost_few : (act : Act) (octets : List ℕ) (ns : List ℕ) → over_ports ns (lost_at plan base past act octets) ≤ 24577 * length ns
  lost_few act octets [] = omega arith
  lost_few act octets (n ∷ ns) = omega (arith, lost_few act octets ns, few_offered act octets n)

  pub probes_fit : (act : Act) (octets : List ℕ) → probes plan base past act octets < 2 ^ 32
  unfolding probes
  probes_fit act octets = omega (arith, queued_few act octets (numbers_of plan.ports), length-numbers plan.ports, valid.port_count.1)

  pub lost_fits : (act : Act) (octets : List ℕ) → lost plan base past act octets < 2 ^ 32
  unfolding lost
  lost_fits act octets = omega (arith, lost_few act octets (numbers_of plan.ports), length-numbers plan.ports, valid.port_count.1)
