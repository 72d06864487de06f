-- A worked history in two segments, computed: a host claims an address in the first, and falls silent; another host's
-- packets come in the second. No premise of the laws is empty.
use Rattle.std.proofs.Common.{◌≡◌, ℕ, zero, suc, nat_lt, true, List, [], ◌∷◌, refl, lit≤, None, arith}
use Rattle.std.specs.List.{list_all}
use Rattle.std.specs.List.Sorted.{IsStrictlyIncreasing}
use Rattle.std.proofs.lemmas.Bool.{and_parts, ltb-true, false≢true}
use Rattle.std.proofs.lemmas.List.Elements.{All-nil, All-cons}
use Rattle.hex.specs.Hex.{IsBytes}
use Rattle.savi_kinds.specs.declared.port.Port.{Port}
use Rattle.savi_kinds.specs.declared.plan.Role.{Role}
use Rattle.savi_kinds.specs.declared.plan.Format.{Format}
use Rattle.savi_kinds.specs.declared.plan.Plan.{Plan}
use Rattle.savi_kinds.specs.declared.plan.PrefixPlan.{PrefixPlan}
use Rattle.savi_kinds.specs.declared.plan.Role.TheVariants as roles
use Rattle.savi_kinds.specs.declared.plan.Format.TheVariants as formats
use Rattle.savi_kinds.specs.declared.plan.Vlan.TheVariants.{Access}
use Rattle.savi_kinds.specs.declared.verdict.Verdict.TheVariants as verdicts
use Rattle.savi_kinds.specs.declared.verdict.Rule.TheVariants as rules
use Rattle.savi_kinds.specs.declared.verdict.Scope.TheVariants as scopes
use Rattle.savi_kinds.specs.ValidPlan.{HasPlanVlans, IsPlanPrefix, IsValidPlan}
use Rattle.savi_kinds.specs.Vlans.{IsVlan}
use Rattle.v6_chain.specs.Kinds.{kind_of}
use Rattle.nd_read.specs.Messages.{named}
use Rattle.nd_read.specs.NdOf.{nd_of, passes as message_passes}
use Rattle.eth_frame.specs.Tags.{tag_of}
use Rattle.frame_class.specs.ClassOf.{class_of}
use Rattle.ra_guard.specs.GuardOf.{guard_of}
use Rattle.fcfs_states.specs.Aged.{aged, aged_by}
use Rattle.hist_store.specs.Rows.{Row}
use Rattle.savi_access.specs.Judged.{judged}
use Rattle.checkpoint.specs.Bases.{empty}
use Rattle.savi_history.specs.Judged.{verdict_of}
use Rattle.savi_history.specs.CameFirst.{IsLiveAtEnd}
use Rattle.savi_history.specs.Events.{Frame, row_of}
use Rattle.savi_history.proofs.Example.{port_one, port_two, packet}
use Rattle.savi_segments.specs.Segments.{AreOctets, base_after, joined, AreLegal}
use Rattle.savi_segments.specs.Steps.{Step, Enters, Turns, gone, newest_rows, newest_base}

-- port 1 and port 2 are hosts'; sources are validated
abbrev pub plan : Plan
plan = record {
  mac = record { 0 = 2 ∷ 0 ∷ 0 ∷ 0 ∷ 0 ∷ 1 ∷ [] };
  savi = true;
  drop_unknown = true;
  per_port = 32;
  depth = 256;
  entries = 262144;
  bytes = 67108864;
  gap = 250;
  test = 500;
  life = 300000;
  control = None;
  journal = [];
  ports = record { number = port_one; role = roles.Host; format = formats.Pcap; input = []; output = []; vlan = Access 1 }
      ∷ record { number = port_two; role = roles.Host; format = formats.Pcap; input = []; output = []; vlan = Access 1 } ∷ [];
  prefixes = [];
}

-- a port of VLAN 1 alone
of_one : {number : Port} {role : Role} {format : Format} → HasPlanVlans (record { number = number; role = role; format = format; input = []; output = []; vlan = Access 1 })
of_one = record {
  numbers = All-cons IsVlan 1 [] (lit≤ tt, lit≤ tt) (All-nil IsVlan);
  some = lit≤ tt;
  rising = λ k inside. absurd (omega (arith, inside));
  trusted = λ trunk. absurd (false≢true trunk);
}

pub plan_is_valid : IsValidPlan plan
plan_is_valid = record {
  unicast = refl;
  per_port = (lit≤ tt, lit≤ tt);
  depth = (lit≤ tt, lit≤ tt);
  entries = (lit≤ tt, lit≤ tt);
  bytes = (lit≤ tt, lit≤ tt);
  gap = (lit≤ tt, lit≤ tt);
  test = (lit≤ tt, lit≤ tt);
  gap_first = lit≤ tt;
  life = (300, refl, (lit≤ tt, lit≤ tt));
  port_count = (lit≤ tt, lit≤ tt);
  ports = two_rise;
  port_vlans = All-cons HasPlanVlans (record { number = port_one; role = roles.Host; format = formats.Pcap; input = []; output = []; vlan = Access 1 }) (record { number = port_two; role = roles.Host; format = formats.Pcap; input = []; output = []; vlan = Access 1 } ∷ []) of_one (All-cons HasPlanVlans (record { number = port_two; role = roles.Host; format = formats.Pcap; input = []; output = []; vlan = Access 1 }) [] of_one (All-nil HasPlanVlans));
  vlan_count = lit≤ tt;
  prefix_count = lit≤ tt;
  plan_prefixes = All-nil IsPlanPrefix;
  prefix_vlans = All-nil (λ (p : PrefixPlan). IsVlan p.vlan);
  prefixes = λ i j d lower inside. absurd (omega (arith, inside));
}
  where
    two_rise : IsStrictlyIncreasing (1 ∷ 2 ∷ [])
    two_rise zero inside = lit≤ tt
    two_rise (suc k) inside = absurd (omega (arith, inside))

-- fe80::11 as a number
abbrev pub first_address : ℕ
first_address = 338288524927261089654018896841347694609

-- a packet from fe80::11 at port 1 claims the address at 1000, and one at 2000 comes behind the test
abbrev claim : Row
claim = row_of plan empty [] (Frame port_one 1000 packet)

abbrev stay : Row
stay = row_of plan empty (claim ∷ []) (Frame port_one 2000 packet)

abbrev pub first : List (List Row)
first = (stay ∷ claim ∷ []) ∷ []

-- a packet from it at port 2 comes in the second segment, at 400000
abbrev other : Row
other = row_of plan (base_after plan first) [] (Frame port_two 400000 packet)

abbrev pub steps : List Step
steps = Enters other ∷ Turns ∷ []

-- the address is live at port 1 at the turn
pub first_is_live : IsLiveAtEnd plan empty (joined first) 1 first_address port_one
unfolding tag_of class_of nd_of named message_passes kind_of guard_of judged aged aged_by
first_is_live = refl

-- so a packet from it at port 2 is dropped there, which only what the first segment left can tell
pub other_is_dropped : verdict_of plan (base_after plan first) [] port_two 2500 packet ≡ verdicts.Drop rules.WrongPort
unfolding tag_of class_of nd_of named message_passes kind_of guard_of judged aged aged_by
other_is_dropped = refl

-- once the first host was silent for longer than a lifetime and a test, the second claims the address, and its next packet
-- passes: read from the turn and read from the start
pub other_passes : verdict_of plan (newest_base plan (gone first steps)) (newest_rows (gone first steps)) port_two 401000 packet ≡ verdicts.Pass scopes.All
unfolding tag_of class_of nd_of named message_passes kind_of guard_of judged aged aged_by
other_passes = refl

pub other_passes_behind_all : verdict_of plan empty (joined (gone first steps)) port_two 401000 packet ≡ verdicts.Pass scopes.All
unfolding tag_of class_of nd_of named message_passes kind_of guard_of judged aged aged_by
other_passes_behind_all = refl

pub all_octets : (xs : List ℕ) → list_all (λ x. nat_lt x 256) xs ≡ true → IsBytes xs
all_octets [] low i = lit≤ tt
all_octets (x ∷ xs) low zero = ltb-true x 256 (and_parts (nat_lt x 256) (list_all (λ y. nat_lt y 256) xs) low).0
all_octets (x ∷ xs) low (suc i) = all_octets xs (and_parts (nat_lt x 256) (list_all (λ y. nat_lt y 256) xs) low).1 i

packet_octets : IsBytes packet
packet_octets = all_octets packet refl

-- rows whose octets are below 256 are rows of octets
pub rows_of_octets : (past : List Row) → list_all (λ r. list_all (λ x. nat_lt x 256) r.octets) past ≡ true → AreOctets past
rows_of_octets [] low = All-nil (λ (r : Row). IsBytes r.octets)
rows_of_octets (r ∷ past) low =
    let parts = and_parts (list_all (λ x. nat_lt x 256) r.octets) (list_all (λ (other : Row). list_all (λ x. nat_lt x 256) other.octets) past) low in
    All-cons (λ (other : Row). IsBytes other.octets) r past (all_octets r.octets parts.0) (rows_of_octets past parts.1)

-- the segments are legal
pub first_is_legal : AreLegal plan first
unfolding tag_of class_of nd_of named message_passes kind_of guard_of judged aged aged_by
first_is_legal = (
  (
    (Frame port_one 2000 packet, (record { open_pass = record { known = refl; running = refl }; room = refl; fits = lit≤ tt }, lit≤ tt), refl),
    ((Frame port_one 1000 packet, (record { open_pass = record { known = refl; running = refl }; room = refl; fits = lit≤ tt }, lit≤ tt), refl), tt),
  ),
  All-cons (λ (r : Row). IsBytes r.octets) stay (claim ∷ []) packet_octets (All-cons (λ (r : Row). IsBytes r.octets) claim [] packet_octets (All-nil (λ (r : Row). IsBytes r.octets))),
  tt,
)

pub both_are_legal : AreLegal plan (gone first steps)
unfolding tag_of class_of nd_of named message_passes kind_of guard_of judged aged aged_by
both_are_legal = (
  ((Frame port_two 400000 packet, (record { open_pass = record { known = refl; running = refl }; room = refl; fits = lit≤ tt }, lit≤ tt), refl), tt),
  All-cons (λ (r : Row). IsBytes r.octets) other [] packet_octets (All-nil (λ (r : Row). IsBytes r.octets)),
  first_is_legal,
)
