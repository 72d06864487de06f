-- No station of a history has a group address.
use Rattle.std.proofs.Common.{◌≡◌, ℕ, ◌≤◌, Bool, true, false, List, [], ◌∷◌, length, All, Option, Some, None, is_none, refl, sym, ap, ◌∙◌, subst, inl, inr, arith}
use Rattle.std.specs.Prelude.{IsTrue}
use Rattle.std.proofs.lemmas.Bool.{cases_Bool, cases_lt, lt-ltb, le-ltb, false≢true}
use Rattle.std.proofs.lemmas.List.Elements.{All-filter}
use Rattle.savi_kinds.specs.declared.plan.Plan.{Plan}
use Rattle.savi_kinds.specs.declared.port.Port.{Port}
use Rattle.savi_kinds.specs.declared.plan.Role.{Role}
use Rattle.savi_kinds.specs.declared.plan.Role.TheVariants.{Trusted}
use Rattle.savi_kinds.specs.declared.verdict.Rule.{Rule}
use Rattle.savi_kinds.specs.declared.verdict.Rule.TheVariants.{SourceMac}
use Rattle.savi_kinds.specs.Ports.{number_of}
use Rattle.savi_kinds.specs.Macs.{is_group}
use Rattle.eth_frame.specs.declared.header.Eth.{Eth}
use Rattle.eth_frame.specs.Frame.{header_of}
use Rattle.eth_frame.specs.Tags.{inner}
use Rattle.frame_class.specs.declared.classes.Class.{Class}
use Rattle.frame_class.specs.declared.classes.Class.TheVariants.{Runt, Tagged, Other, BadIp, Ip6}
use Rattle.frame_class.specs.Reading.{IsClassOf}
use Rattle.frame_class.specs.Classes.{eth_of}
use Rattle.frame_class.specs.ClassOf.{class_of}
use Rattle.frame_class.proofs.ClassIs.{class_is}
use Rattle.ra_guard.specs.Guard.{HasEth, Applies, IsFirst}
use Rattle.ra_guard.specs.GuardOf.{guard_of}
use Rattle.ra_guard.proofs.RuleOf.{guard_is}
use Rattle.bridge_fdb.specs.Stations.{station_of, is_live, live_at}
use Rattle.hist_store.specs.Rows.{Row}
use Rattle.savi_access.specs.Rules.{AccessRules, AccessBase}
use Rattle.savi_access.specs.Marks.{Mark}
use Rattle.savi_access.specs.Judged.{judged}
use Rattle.savi_access.specs.Plans.{rules_of}
use Rattle.checkpoint.specs.Bases.{Base, access_of}
use Rattle.savi_history.specs.Vlans.{vlan_of_frame}
use Rattle.savi_history.specs.Moments.{moment_at}
use Rattle.savi_history.specs.ShutPorts.{is_shut}
use Rattle.savi_history.specs.Marks.{judged_after, marks}
use Rattle.savi_history.specs.Summary.{is_pass}
use Rattle.savi_history.specs.Stations.{ethernet_of, stations}
use Rattle.savi_history.specs.StationLaws.{IsIndividual}
use Rattle.savi_history.specs.Events as events
use Rattle.savi_history.specs.Events.{Event, row_of}
use Rattle.savi_history.specs.Legal.{IsLegal}
use Rattle.savi_history.proofs.FrameVlans.{untold_drops}
use Rattle.savi_history.proofs.Guarded.{long_drop, stopped-not_pass}
use Rattle.savi_history.proofs.Teaching.{after_stays, all_learned}

-- the header of a class is that of the octets
ethernet_at : (octets : List ℕ) (eth : Eth) → 14 ≤ length octets → eth ≡ header_of octets → Some eth ≡ ethernet_of octets
ethernet_at octets eth long is =
    elim (cases_lt (length octets) 14) [
      | inl short ↦ absurd (omega (arith, long, short))
      | inr not_short ↦ rw (le-ltb (length octets) 14 long) (ap (λ (e : Eth). Some e) is)
    ]

pub eth_is : (octets : List ℕ) (class : Class) → IsClassOf octets class → eth_of class ≡ ethernet_of octets
eth_is octets Runt is = rw (lt-ltb (length octets) 14 is) refl
eth_is octets (Tagged eth) is = ethernet_at octets eth is.0.long is.0.header
eth_is octets (Other eth) is = ethernet_at octets eth is.0.long is.0.header
eth_is octets (BadIp eth) is = ethernet_at octets eth is.0.long is.0.header
eth_is octets (Ip6 eth ip read) is = ethernet_at octets eth is.0.long is.0.header

-- where no rule stops a class, the source of its header has no group bit
not_group : (eth : Eth) → ¬ IsTrue (is_group eth.src) → is_group eth.src ≡ false
not_group eth none =
    elim (cases_Bool (is_group eth.src)) [
      | inl group ↦ absurd (none group)
      | inr individual ↦ individual
    ]

source_of : (class : Class) (eth : Eth) → eth_of class ≡ Some eth → ¬ HasEth (λ e. IsTrue (is_group e.src)) class → is_group eth.src ≡ false
source_of Runt eth is none = absurd cc
source_of (Tagged e) eth is none =
    let same : e ≡ eth = cc in subst (λ (x : Eth). is_group x.src ≡ false) same (not_group e none)
source_of (Other e) eth is none =
    let same : e ≡ eth = cc in subst (λ (x : Eth). is_group x.src ≡ false) same (not_group e none)
source_of (BadIp e) eth is none =
    let same : e ≡ eth = cc in subst (λ (x : Eth). is_group x.src ≡ false) same (not_group e none)
source_of (Ip6 e ip read) eth is none =
    let same : e ≡ eth = cc in subst (λ (x : Eth). is_group x.src ≡ false) same (not_group e none)

unstopped : (role : Role) (drop_unknown : Bool) (class : Class) (rule : Option Rule) → is_none rule ≡ true → IsFirst (Applies role drop_unknown class) rule → ¬ HasEth (λ e. IsTrue (is_group e.src)) class
unstopped role drop_unknown class None none first = first SourceMac
unstopped role drop_unknown class (Some rule) none first = absurd (false≢true none)

passed_source : (r : AccessRules) (base : AccessBase) (vlan : ℕ) (port : Port) (t : ℕ) (told : List Mark) (class : Class) (eth : Eth) → is_pass (Some (judged r base vlan port t told class).verdict) ≡ true → eth_of class ≡ Some eth → is_group eth.src ≡ false
passed_source r base vlan port t told class eth passed is =
    let role = r.role_of (number_of port) in
    let rule = guard_of role r.drop_unknown class in
    elim (cases_Bool (is_none rule)) [
      | inl none ↦ source_of class eth is (unstopped role r.drop_unknown class rule none (guard_is role r.drop_unknown class))
      | inr some ↦ absurd (false≢true (sym (stopped-not_pass r base vlan port t told class some) ∙ passed))
    ]

-- a frame that passes does so at a port that isn't shut, in a VLAN
source_in : (plan : Plan) (base : Base) (shut : Bool) (told : List Mark) (port : Port) (t : ℕ) (vlan : Option ℕ) (class : Class) (eth : Eth) → is_pass (Some (judged_after plan base shut told port t vlan class).verdict) ≡ true
    → eth_of class ≡ Some eth → is_group eth.src ≡ false
source_in plan base false told port t (Some vlan) class eth passed is = passed_source (rules_of plan) (access_of base) vlan port t told class eth passed is
source_in plan base false told port t None class eth passed is = absurd (false≢true (sym (untold_drops told (guard_of Trusted plan.drop_unknown class)) ∙ passed))
source_in plan base true told port t vlan class eth passed is = absurd (false≢true passed)

-- the source of a frame that passed has no group bit
event_source : (plan : Plan) (base : Base) (past : List Row) (event : Event) (eth : Eth) → is_pass (row_of plan base past event).entry.verdict ≡ true → ethernet_of (inner (row_of plan base past event).octets) ≡ Some eth → is_group eth.src ≡ false
event_source plan base past (events.Frame port stamp octets) eth passed is =
    source_in plan base (is_shut plan base (number_of port) past) (marks plan base past) port (moment_at base past stamp) (vlan_of_frame plan (number_of port) octets) (class_of (inner octets)) eth passed
    (eth_is (inner octets) (class_of (inner octets)) (class_is (inner octets)) ∙ is)
event_source plan base past (events.Command stamp line) eth passed is = absurd (false≢true passed)
event_source plan base past (events.Long port stamp len) eth passed is = absurd (false≢true (sym (long_drop (is_shut plan base (number_of port) past)) ∙ passed))
event_source plan base past (events.Tick stamp) eth passed is = absurd (false≢true passed)
event_source plan base past (events.Drain port count) eth passed is = absurd (false≢true passed)
event_source plan base past (events.End who how) eth passed is = absurd (false≢true passed)

pub all_individual : (plan : Plan) (base : Base) (past : List Row) (vlan : ℕ) → IsLegal plan base past → All IsIndividual (base.stations vlan) → All IsIndividual (stations vlan plan base past)
all_individual plan base [] vlan legal before = before
all_individual plan base (r ∷ past) vlan legal before =
    let live = live_at r.entry.moment (stations vlan plan base past) in
    let was : All IsIndividual live = All-filter (is_live r.entry.moment) IsIndividual (stations vlan plan base past) (all_individual plan base past vlan legal.1 before) in
    let source : (eth : Eth) → is_pass r.entry.verdict ≡ true → ethernet_of (inner r.octets) ≡ Some eth → is_group eth.src ≡ false =
    subst (λ (x : Row). (eth : Eth) → is_pass x.entry.verdict ≡ true → ethernet_of (inner x.octets) ≡ Some eth → is_group eth.src ≡ false) (sym legal.0.2) (event_source plan base past legal.0.0) in
    after_stays (All IsIndividual) vlan plan r r.entry.act live was
    (λ port eth passed header. all_learned IsIndividual (station_of eth.src port r.entry.moment) live (source eth passed header) was)
