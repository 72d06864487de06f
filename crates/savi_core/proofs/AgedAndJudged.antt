-- What a judgement, or an ageing, leaves behind a history that a core remembers.
use Rattle.std.proofs.Common.{◌≡◌, ℕ, ◌≤◌, ◌^◌, Bool, ◌∙◌, Option, List, ◌++◌, fold, sym, ap, subst, arith}
use Rattle.std.specs.Prelude.{reverse}
use Rattle.std.proofs.lemmas.List.Elements.{All-weaker}
use Rattle.eth_frame.specs.Tags.{inner}
use Rattle.savi_kinds.specs.Vlans.{vlans_of}
use Rattle.savi_kinds.specs.declared.plan.Plan.{Plan}
use Rattle.savi_kinds.specs.declared.port.Port.{Port}
use Rattle.savi_kinds.specs.declared.verdict.Verdict.{Verdict}
use Rattle.savi_kinds.specs.declared.entry.Act.{Act}
use Rattle.frame_class.specs.declared.classes.Class.{Class}
use Rattle.frame_class.specs.Reading.{IsClassOf}
use Rattle.frame_class.specs.ClassOf.{class_of}
use Rattle.frame_class.proofs.ClassIs.{class_only}
use Rattle.savi_access.specs.Rules.{AccessBase}
use Rattle.savi_access.specs.Marks.{Mark}
use Rattle.savi_access.specs.Plans.{rules_of}
use Rattle.access_table.specs.Kept.{Represents}
use Rattle.checkpoint.specs.Bases.{access_of}
use Rattle.savi_history.specs.Moments.{last_moment, moment_at}
use Rattle.savi_history.specs.Marks.{marks}
use Rattle.savi_history.specs.Judged.{judged_of, verdict_of}
use Rattle.savi_history.specs.Offers.{Offer, due_by, in_answer, offers}
use Rattle.savi_history.specs.Vlans.{vlan_of_frame}
use Rattle.savi_history.specs.Queues.{probes, lost}
use Rattle.savi_history.specs.Events as events
use Rattle.savi_history.proofs.Teaching.{last_small}
use Rattle.savi_kinds.specs.declared.port.PortSet.{PortSet}
use Rattle.savi_kinds.specs.Ports.{number_of}
use Rattle.egress_ring.specs.declared.item.Item.{Item as Queued}
use Rattle.savi_history.specs.ShutPorts.{is_shut}
use Rattle.savi_core.specs.Lanes.{Lane}
use Rattle.savi_core.specs.Rings.{Rings, rings_after_probe, shut_in, uncounted}
use Rattle.savi_core.specs.declared.vlan_set.VlanSet.{VlanSet}
use Rattle.savi_core.specs.VlanSets.{AllRepresent, vlans_of_sets}
use Rattle.savi_core.specs.Waits.{Show}
use Rattle.savi_core.specs.Judges.{Judges, Ages, due_between}
use Rattle.savi_core.specs.Remembers.{CoreState, Remembers}
use Rattle.savi_core.specs.Tells.{Tells, TellOfAll}
use Rattle.savi_core.proofs.Lanes.{probed_lane}
use Rattle.savi_core.proofs.Probing.{shut_by}
use Rattle.savi_core.proofs.Stepping.{probed_now, probes_now}
use Rattle.savi_core.proofs.Telling.{frame_offers, few_frame, few_due_by}

-- the moment of an entry with a stamp is of 62 bits
pub early_now : {k : CoreState} (was : Remembers k) (stamp t : ℕ) → t ≡ moment_at k.base (reverse k.rows) stamp → t ≤ 2 ^ 62
early_now {k} was stamp t moment_is = omega (arith, moment_is, last_small k.plan k.base (reverse k.rows) was.within was.legal)

abbrev pub marks_now : CoreState → List Mark
marks_now k = marks k.plan k.base (reverse k.rows)

-- what is said of a plan that is lent is said of the core's
module _ {k : CoreState} (was : Remembers k) (sets : List VlanSet) (tells : TellOfAll k.plan k.base (reverse k.rows) k.moment sets) (lent : Plan) (same : lent ≡ k.plan) (t : ℕ) (order : k.moment ≤ t) where
  given : AllRepresent (rules_of lent) (access_of k.base) (marks_now k) k.moment sets
  given =
      subst (λ (p : Plan). AllRepresent (rules_of p) (access_of k.base) (marks_now k) k.moment sets) (sym same)
      (All-weaker (λ (set : VlanSet). Tells k.plan k.base (reverse k.rows) k.moment set.access) (λ (set : VlanSet). Represents (rules_of k.plan) (access_of k.base) (marks_now k) k.moment set.access)
      (λ set of. of.states) sets tells.tell)

  pub judged_here : (shut : Bool) (port : Port) (vlan : Option ℕ) (class : Class) (sets' : List VlanSet) (rings rings' : Rings) (verdict : Verdict)
      → ((base : AccessBase) (past : List Mark) → AllRepresent (rules_of lent) base past k.moment sets → k.moment ≤ t → Judges (rules_of lent) k.moment t shut port vlan class sets' rings rings' verdict base past)
      → Judges (rules_of k.plan) k.moment t shut port vlan class sets' rings rings' verdict (access_of k.base) (marks_now k)
  judged_here shut port vlan class sets' rings rings' verdict raw =
      subst (λ (p : Plan). Judges (rules_of p) k.moment t shut port vlan class sets' rings rings' verdict (access_of k.base) (marks_now k)) same (raw (access_of k.base) (marks_now k) given order)

  pub aged_here : (sets' : List VlanSet) (rings rings' : Rings)
      → ((base : AccessBase) (past : List Mark) → AllRepresent (rules_of lent) base past k.moment sets → k.moment ≤ t → Ages (rules_of lent) k.moment t sets' rings rings' base past)
      → Ages (rules_of k.plan) k.moment t sets' rings rings' (access_of k.base) (marks_now k)
  aged_here sets' rings rings' raw =
      subst (λ (p : Plan). Ages (rules_of p) k.moment t sets' rings rings' (access_of k.base) (marks_now k)) same (raw (access_of k.base) (marks_now k) given order)

module _ {k : CoreState} (was : Remembers k) (sets : List VlanSet) (tells : TellOfAll k.plan k.base (reverse k.rows) k.moment sets) (sets' : List VlanSet) (of_plan : vlans_of_sets sets' ≡ vlans_of k.plan) (rings rings' : Rings) (lanes_are : rings.lanes ≡ k.lanes) (shut_are : rings.shut ≡ k.shut) (t stamp : ℕ) (moment_is : t ≡ moment_at k.base (reverse k.rows) stamp) where
  abbrev moment_then : ℕ
  moment_then = moment_at k.base (reverse k.rows) stamp

  abbrev last_then : ℕ
  last_then = last_moment k.base (reverse k.rows)

  start : uncounted rings ≡ record { lanes = k.lanes; shut = k.shut; queued = 0; lost = 0 }
  start = ap (λ (lanes : List (Lane Queued)). record { lanes = lanes; shut = rings.shut; queued = 0; lost = 0 }) lanes_are ∙ ap (λ (shut : PortSet). record { lanes = k.lanes; shut = shut; queued = 0; lost = 0 }) shut_are

  shut_is : shut_in rings.shut ≡ shut_by k.plan k.base (reverse k.rows)
  shut_is = ap shut_in shut_are ∙ was.shut_ports

  later : last_moment k.base (reverse k.rows) ≤ moment_at k.base (reverse k.rows) stamp
  later = omega arith

  module _ (port : Port) (octets : List ℕ) (vlan : Option ℕ) (vlan_is : vlan ≡ vlan_of_frame k.plan (number_of port) octets) (class : Class) (class_is : IsClassOf (inner octets) class) (verdict : Verdict) (fact : Judges (rules_of k.plan) k.moment t (shut_in rings.shut (number_of port)) port vlan class sets' rings rings' verdict (access_of k.base) (marks_now k)) where
    exact : Judges (rules_of k.plan) last_then moment_then (is_shut k.plan k.base (number_of port) (reverse k.rows)) port (vlan_of_frame k.plan (number_of port) octets) (class_of (inner octets)) sets' rings rings' verdict (access_of k.base) (marks_now k)
    exact =
        subst (λ (v : Option ℕ). Judges (rules_of k.plan) last_then moment_then (is_shut k.plan k.base (number_of port) (reverse k.rows)) port v (class_of (inner octets)) sets' rings rings' verdict (access_of k.base) (marks_now k)) vlan_is
        (subst (λ (cl : Class). Judges (rules_of k.plan) last_then moment_then (is_shut k.plan k.base (number_of port) (reverse k.rows)) port vlan cl sets' rings rings' verdict (access_of k.base) (marks_now k)) (class_only (inner octets) class class_is)
        (subst (λ (shut : ℕ → Bool). Judges (rules_of k.plan) last_then moment_then (shut (number_of port)) port vlan class sets' rings rings' verdict (access_of k.base) (marks_now k)) shut_is
        (subst (λ (at : ℕ). Judges (rules_of k.plan) last_then at (shut_in rings.shut (number_of port)) port vlan class sets' rings rings' verdict (access_of k.base) (marks_now k)) moment_is
        (subst (λ (from : ℕ). Judges (rules_of k.plan) from t (shut_in rings.shut (number_of port)) port vlan class sets' rings rings' verdict (access_of k.base) (marks_now k)) was.last fact))))

    pub verdict_now : verdict ≡ verdict_of k.plan k.base (reverse k.rows) port stamp octets
    verdict_now = exact.verdict_is

    pub states_after : AllRepresent (rules_of k.plan) (access_of k.base) (judged_of k.plan k.base (reverse k.rows) port stamp octets).marks (moment_at k.base (reverse k.rows) stamp) sets'
    states_after = exact.states

    abbrev sents : List Offer
    sents = due_by k.plan k.base (reverse k.rows) moment_then ++ in_answer (vlan_of_frame k.plan (number_of port) octets) (judged_of k.plan k.base (reverse k.rows) port stamp octets).probe

    rings_are : rings' ≡ fold rings_after_probe (uncounted rings) sents
    rings_are =
        exact.probes
        ∙ ap (λ (vs : List ℕ). fold rings_after_probe (uncounted rings) (due_between (rules_of k.plan) (access_of k.base) (marks_now k) last_then moment_then vs ++ in_answer (vlan_of_frame k.plan (number_of port) octets) (judged_of k.plan k.base (reverse k.rows) port stamp octets).probe)) of_plan

    pub shows_framed : Show k.plan k.rows rings'.lanes (probed_lane k.plan k.base (reverse k.rows) (events.frame_act (reverse k.rows) port stamp octets) octets)
    shows_framed =
        let act = events.frame_act (reverse k.rows) port stamp octets in
        subst (λ (r : Rings). Show k.plan k.rows r.lanes (probed_lane k.plan k.base (reverse k.rows) (events.frame_act (reverse k.rows) port stamp octets) octets)) (sym rings_are)
        (probed_now was act octets sents (uncounted rings) shut_is (frame_offers k.plan k.base (reverse k.rows) port stamp _ _ octets) lanes_are)

    pub counts_framed : (rings'.queued ≡ probes k.plan k.base (reverse k.rows) (events.frame_act (reverse k.rows) port stamp octets) octets) × (rings'.lost ≡ lost k.plan k.base (reverse k.rows) (events.frame_act (reverse k.rows) port stamp octets) octets)
    counts_framed =
        let act = events.frame_act (reverse k.rows) port stamp octets in
        subst (λ (r : Rings). (r.queued ≡ probes k.plan k.base (reverse k.rows) (events.frame_act (reverse k.rows) port stamp octets) octets) × (r.lost ≡ lost k.plan k.base (reverse k.rows) (events.frame_act (reverse k.rows) port stamp octets) octets)) (sym rings_are)
        (probes_now was act octets sents (uncounted rings) (frame_offers k.plan k.base (reverse k.rows) port stamp _ _ octets) start
        (few_frame was sets tells (moment_at k.base (reverse k.rows) stamp) (vlan_of_frame k.plan (number_of port) octets) (judged_of k.plan k.base (reverse k.rows) port stamp octets).probe later))

  module _ (fact : Ages (rules_of k.plan) k.moment t sets' rings rings' (access_of k.base) (marks_now k)) where
    aged_exact : Ages (rules_of k.plan) last_then moment_then sets' rings rings' (access_of k.base) (marks_now k)
    aged_exact =
        subst (λ (at : ℕ). Ages (rules_of k.plan) last_then at sets' rings rings' (access_of k.base) (marks_now k)) moment_is
        (subst (λ (from : ℕ). Ages (rules_of k.plan) from t sets' rings rings' (access_of k.base) (marks_now k)) was.last fact)

    pub states_aged : AllRepresent (rules_of k.plan) (access_of k.base) (marks_now k) (moment_at k.base (reverse k.rows) stamp) sets'
    states_aged = aged_exact.states

    aged_rings : rings' ≡ fold rings_after_probe (uncounted rings) (due_by k.plan k.base (reverse k.rows) moment_then)
    aged_rings =
        aged_exact.probes
        ∙ ap (λ (vs : List ℕ). fold rings_after_probe (uncounted rings) (due_between (rules_of k.plan) (access_of k.base) (marks_now k) last_then moment_then vs)) of_plan

    -- an entry that calls for what is due and for nothing else
    module _ (act : Act) (octets : List ℕ) (came : due_by k.plan k.base (reverse k.rows) (moment_at k.base (reverse k.rows) stamp) ≡ offers k.plan k.base (reverse k.rows) act octets) where
      pub shows_aged : Show k.plan k.rows rings'.lanes (probed_lane k.plan k.base (reverse k.rows) act octets)
      shows_aged =
          subst (λ (r : Rings). Show k.plan k.rows r.lanes (probed_lane k.plan k.base (reverse k.rows) act octets)) (sym aged_rings)
          (probed_now was act octets (due_by k.plan k.base (reverse k.rows) (moment_at k.base (reverse k.rows) stamp)) (uncounted rings) shut_is came lanes_are)

      pub counts_aged : (rings'.queued ≡ probes k.plan k.base (reverse k.rows) act octets) × (rings'.lost ≡ lost k.plan k.base (reverse k.rows) act octets)
      counts_aged =
          subst (λ (r : Rings). (r.queued ≡ probes k.plan k.base (reverse k.rows) act octets) × (r.lost ≡ lost k.plan k.base (reverse k.rows) act octets)) (sym aged_rings)
          (probes_now was act octets (due_by k.plan k.base (reverse k.rows) (moment_at k.base (reverse k.rows) stamp)) (uncounted rings) came start
          (few_due_by was sets tells (moment_at k.base (reverse k.rows) stamp) later))
