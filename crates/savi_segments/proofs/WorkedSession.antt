-- A worked session of two segments, computed: a history has room for one line, and two come.
use Rattle.std.proofs.Common.{◌≡◌, ℕ, zero, suc, ◌&&◌, Bool, true, List, [], ◌∷◌, All, codes, refl, sym, subst, lit≤, Some, inl, inr, arith}
use Rattle.std.specs.List.Sorted.{IsStrictlyIncreasing}
use Rattle.std.proofs.lemmas.Bool.{and_parts, cases_eq, false≢true}
use Rattle.std.proofs.lemmas.List.Elements.{All-nil, All-cons}
use Rattle.hex.specs.Hex.{IsBytes}
use Rattle.savi_kinds.specs.declared.port.Port.{Port}
use Rattle.savi_kinds.specs.declared.plan.Role.{Role}
use Rattle.savi_kinds.specs.declared.plan.Format.{Format}
use Rattle.savi_kinds.specs.declared.plan.Plan.{Plan}
use Rattle.savi_kinds.specs.declared.plan.PrefixPlan.{PrefixPlan}
use Rattle.savi_kinds.specs.declared.plan.Role.TheVariants as roles
use Rattle.savi_kinds.specs.declared.plan.Format.TheVariants as formats
use Rattle.savi_kinds.specs.declared.plan.Vlan.TheVariants.{Access}
use Rattle.savi_kinds.specs.declared.entry.Who.TheVariants as passes
use Rattle.savi_kinds.specs.declared.entry.How.{How}
use Rattle.savi_kinds.specs.declared.entry.How.TheVariants as hows
use Rattle.savi_kinds.specs.ValidPlan.{HasPlanVlans, IsPlanPrefix, IsValidPlan}
use Rattle.savi_kinds.specs.Vlans.{IsVlan}
use Rattle.cli_lang.specs.CommandOf.{command_of}
use Rattle.hist_store.specs.Rows.{Row}
use Rattle.checkpoint.specs.Bases.{Base, empty}
use Rattle.savi_history.specs.Passes.{has_ended, AllEnded}
use Rattle.savi_history.specs.Events.{Event, Command, End}
use Rattle.savi_history.specs.Offers.{offers}
use Rattle.savi_history.specs.Queues.{probes, lost}
use Rattle.savi_history.specs.Legal.{IsLegal}
use Rattle.savi_history.specs.Replay.{with_event}
use Rattle.savi_history.proofs.Example.{port_one}
use Rattle.savi_segments.specs.Checkpoints.{after}
use Rattle.savi_segments.specs.Segments.{IsWholeSession}
use Rattle.savi_segments.proofs.Worked.{all_octets}

-- a port, and control; no more than one entry may come before there is no room
abbrev plan : Plan
plan = record {
  mac = record { 0 = 2 ∷ 0 ∷ 0 ∷ 0 ∷ 0 ∷ 1 ∷ [] };
  savi = true;
  drop_unknown = true;
  per_port = 32;
  depth = 256;
  entries = 4131;
  bytes = 67108864;
  gap = 250;
  test = 500;
  life = 300000;
  control = Some ([], []);
  journal = [];
  ports = record { number = port_one; role = roles.Host; format = formats.Stream; input = []; output = []; vlan = Access 1 } ∷ [];
  prefixes = [];
}

-- a port of VLAN 1 alone
of_one : {number : Port} {role : Role} {format : Format} → HasPlanVlans (record { number = number; role = role; format = format; input = []; output = []; vlan = Access 1 })
of_one = record {
  numbers = All-cons IsVlan 1 [] (lit≤ tt, lit≤ tt) (All-nil IsVlan);
  some = lit≤ tt;
  rising = λ k inside. absurd (omega (arith, inside));
  trusted = λ trunk. absurd (false≢true trunk);
}

pub plan_is_valid : IsValidPlan plan
plan_is_valid = record {
  unicast = refl;
  per_port = (lit≤ tt, lit≤ tt);
  depth = (lit≤ tt, lit≤ tt);
  entries = (lit≤ tt, lit≤ tt);
  bytes = (lit≤ tt, lit≤ tt);
  gap = (lit≤ tt, lit≤ tt);
  test = (lit≤ tt, lit≤ tt);
  gap_first = lit≤ tt;
  life = (300, refl, (lit≤ tt, lit≤ tt));
  port_count = (lit≤ tt, lit≤ tt);
  ports = one_rises;
  port_vlans = All-cons HasPlanVlans (record { number = port_one; role = roles.Host; format = formats.Stream; input = []; output = []; vlan = Access 1 }) [] of_one (All-nil HasPlanVlans);
  vlan_count = lit≤ tt;
  prefix_count = lit≤ tt;
  plan_prefixes = All-nil IsPlanPrefix;
  prefix_vlans = All-nil (λ (p : PrefixPlan). IsVlan p.vlan);
  prefixes = λ i j d lower inside. absurd (omega (arith, inside));
}
  where
    one_rises : IsStrictlyIncreasing (1 ∷ [])
    one_rises place inside = absurd (omega (arith, inside))

-- the rows of events from a base, the newest first
abbrev made : Base → List Event → List Row
made base [] = []
made base (event ∷ events) = with_event plan base (made base events) event

-- a line
abbrev line : List Event
line = Command 0 (codes "show ports") ∷ []

-- both inputs end so behind it
abbrev answered : How → List Event
answered how = End passes.Control how ∷ line

abbrev heard : How → List Event
heard how = End (passes.Ingress port_one) how ∷ answered how

-- then the ticker and the output
abbrev ticked : How → List Event
ticked how = End passes.Ticker how ∷ heard how

abbrev whole : How → List Event
whole how = End (passes.Egress port_one) how ∷ ticked how

abbrev first : List Row
first = made empty (whole hows.Paused)

abbrev mid : Base
mid = after plan empty first

abbrev second : List Row
second = made mid (whole hows.End)

abbrev all_ended_below : Base → List Row → ℕ → Bool
all_ended_below base past zero = true
all_ended_below base past (suc n) = has_ended base n past && all_ended_below base past n

all_ended : (base : Base) (past : List Row) (count : ℕ) → all_ended_below base past count ≡ true → AllEnded base count past
all_ended base past zero are pass low = absurd (omega (arith, low))
all_ended base past (suc n) are pass low =
    elim (cases_eq pass n) [
      | inl same ↦ subst (λ (m : ℕ). has_ended base m past ≡ true) (sym same) (and_parts (has_ended base n past) (all_ended_below base past n) are).0
      | inr other ↦ all_ended base past n (and_parts (has_ended base n past) (all_ended_below base past n) are).1 pass (omega (arith, low, other))
    ]

-- the first is paused for want of room
first_is_legal : IsLegal plan empty first
unfolding command_of offers probes lost
first_is_legal =
    let came : IsLegal plan empty (made empty line) = ((Command 0 (codes "show ports"), (record { open_pass = record { known = refl; running = refl }; room = refl; fits = lit≤ tt }, lit≤ tt), refl), tt) in
    let control : IsLegal plan empty (made empty (answered hows.Paused)) = ((End passes.Control hows.Paused, (record { known = refl; running = refl }, refl), refl), came) in
    let inputs : IsLegal plan empty (made empty (heard hows.Paused)) = ((End (passes.Ingress port_one) hows.Paused, (record { known = refl; running = refl }, refl), refl), control) in
    let ticker : IsLegal plan empty (made empty (ticked hows.Paused)) =
    ((End passes.Ticker hows.Paused, (record { known = refl; running = refl }, (all_ended empty (made empty (heard hows.Paused)) 2 refl, refl)), refl), inputs) in
    ((End (passes.Egress port_one) hows.Paused, (record { known = refl; running = refl }, ((all_ended empty (made empty (ticked hows.Paused)) 3 refl, refl), refl)), refl), ticker)

-- in the second there is none either, and the inputs end
second_is_legal : IsLegal plan mid second
unfolding command_of offers probes lost
second_is_legal =
    let came : IsLegal plan mid (made mid line) = ((Command 0 (codes "show ports"), (record { open_pass = record { known = refl; running = refl }; room = refl; fits = lit≤ tt }, lit≤ tt), refl), tt) in
    let control : IsLegal plan mid (made mid (answered hows.End)) = ((End passes.Control hows.End, (record { known = refl; running = refl }, tt), refl), came) in
    let inputs : IsLegal plan mid (made mid (heard hows.End)) = ((End (passes.Ingress port_one) hows.End, (record { known = refl; running = refl }, tt), refl), control) in
    let ticker : IsLegal plan mid (made mid (ticked hows.End)) =
    ((End passes.Ticker hows.End, (record { known = refl; running = refl }, (all_ended mid (made mid (heard hows.End)) 2 refl, refl)), refl), inputs) in
    ((End (passes.Egress port_one) hows.End, (record { known = refl; running = refl }, ((all_ended mid (made mid (ticked hows.End)) 3 refl, refl), refl)), refl), ticker)

abbrev HasOctets : Row → Type 0
HasOctets r = IsBytes r.octets

-- the line of ASCII, and no octets of ends
octets_of : (base : Base) (how : How) → All HasOctets (made base (whole how))
octets_of base how =
    All-cons HasOctets _ (made base (ticked how)) (all_octets [] refl)
    (All-cons HasOctets _ (made base (heard how)) (all_octets [] refl)
    (All-cons HasOctets _ (made base (answered how)) (all_octets [] refl)
    (All-cons HasOctets _ (made base line) (all_octets [] refl)
    (All-cons HasOctets _ [] (all_octets (codes "show ports") refl) (All-nil HasOctets)))))

pub session_is_one : IsWholeSession plan (second ∷ first ∷ [])
unfolding command_of offers probes lost
session_is_one = record {
  legal = (second_is_legal, octets_of mid hows.End, (first_is_legal, octets_of empty hows.Paused, tt));
  turned = ((all_ended empty first 4 refl, refl), (tt, tt));
  closed = (all_ended mid second 4 refl, refl);
}
