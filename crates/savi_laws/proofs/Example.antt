-- Worked histories, computed: no premise is empty, and a tick that comes late changes a verdict.
use Rattle.std.proofs.Common.{◌≡◌, ◌≢◌, ℕ, zero, suc, ◌<◌, ◌≤◌, ◌^◌, List, [], ◌∷◌, refl, sym, ap, ◌∙◌, lit≤, Bool, true, false, Some, None, arith}
use Rattle.std.specs.List.Sorted.{IsStrictlyIncreasing}
use Rattle.std.proofs.lemmas.Bool.{false≢true}
use Rattle.std.proofs.lemmas.List.Elements.{All-cons, All-nil}
use Rattle.savi_kinds.specs.declared.port.Port.{Port}
use Rattle.savi_kinds.specs.declared.plan.Role.{Role}
use Rattle.savi_kinds.specs.declared.plan.Format.{Format}
use Rattle.savi_kinds.specs.declared.plan.Plan.{Plan}
use Rattle.savi_kinds.specs.declared.plan.PrefixPlan.{PrefixPlan}
use Rattle.savi_kinds.specs.declared.plan.Role.TheVariants as roles
use Rattle.savi_kinds.specs.declared.plan.Format.TheVariants as formats
use Rattle.savi_kinds.specs.declared.plan.Vlan.TheVariants.{Access}
use Rattle.savi_kinds.specs.declared.verdict.Verdict.{Verdict}
use Rattle.savi_kinds.specs.declared.verdict.Verdict.TheVariants as verdicts
use Rattle.savi_kinds.specs.declared.verdict.Rule.TheVariants as rules
use Rattle.savi_kinds.specs.declared.verdict.Scope.TheVariants as scopes
use Rattle.savi_kinds.specs.ValidPlan.{HasPlanVlans, IsPlanPrefix, IsValidPlan}
use Rattle.savi_kinds.specs.Vlans.{IsVlan}
use Rattle.v6_chain.specs.Kinds.{kind_of}
use Rattle.nd_read.specs.Messages.{named}
use Rattle.nd_read.specs.NdOf.{nd_of, passes as message_passes}
use Rattle.eth_frame.specs.Tags.{tag_of}
use Rattle.frame_class.specs.ClassOf.{class_of}
use Rattle.ra_guard.specs.GuardOf.{guard_of}
use Rattle.fcfs_states.specs.Aged.{aged, aged_by}
use Rattle.fcfs_states.proofs.AgeingLemmas.{rank}
use Rattle.mix_rules.specs.declared.state.AddrState.{AddrState}
use Rattle.hist_store.specs.Rows.{Row}
use Rattle.savi_access.specs.Judged.{judged}
use Rattle.checkpoint.specs.Bases.{empty}
use Rattle.savi_history.specs.Judged.{verdict_of}
use Rattle.savi_history.specs.Limits.{has_room}
use Rattle.savi_history.specs.Passes.{has_ended}
use Rattle.savi_history.specs.Summary.{is_pass}
use Rattle.savi_history.specs.Legal.{IsLegal, MayCome}
use Rattle.savi_history.specs.Events.{Frame, Tick}
use Rattle.savi_history.proofs.Example.{port_one, port_two, packet}
use Rattle.savi_laws.specs.Rebuilt.{rows_by, ComesFirst, with_tick}
use Rattle.savi_laws.specs.Answered.{Answered, came}
use Rattle.savi_laws.specs.LateTicks.{LateTick}

-- port 1 is a host's and port 2 is trusted; sources are validated
abbrev pub plan : Plan
plan = record {
  mac = record { 0 = 2 ∷ 0 ∷ 0 ∷ 0 ∷ 0 ∷ 1 ∷ [] };
  savi = true;
  drop_unknown = true;
  per_port = 32;
  depth = 256;
  entries = 262144;
  bytes = 67108864;
  gap = 250;
  test = 500;
  life = 300000;
  control = None;
  journal = [];
  ports = record { number = port_one; role = roles.Host; format = formats.Pcap; input = []; output = []; vlan = Access 1 }
      ∷ record { number = port_two; role = roles.Trusted; format = formats.Pcap; input = []; output = []; vlan = Access 1 } ∷ [];
  prefixes = [];
}

-- a port of VLAN 1 alone
of_one : {number : Port} {role : Role} {format : Format} → HasPlanVlans (record { number = number; role = role; format = format; input = []; output = []; vlan = Access 1 })
of_one = record {
  numbers = All-cons IsVlan 1 [] (lit≤ tt, lit≤ tt) (All-nil IsVlan);
  some = lit≤ tt;
  rising = λ k inside. absurd (omega (arith, inside));
  trusted = λ trunk. absurd (false≢true trunk);
}

pub plan_is_valid : IsValidPlan plan
plan_is_valid = record {
  unicast = refl;
  per_port = (lit≤ tt, lit≤ tt);
  depth = (lit≤ tt, lit≤ tt);
  entries = (lit≤ tt, lit≤ tt);
  bytes = (lit≤ tt, lit≤ tt);
  gap = (lit≤ tt, lit≤ tt);
  test = (lit≤ tt, lit≤ tt);
  gap_first = lit≤ tt;
  life = (300, refl, (lit≤ tt, lit≤ tt));
  port_count = (lit≤ tt, lit≤ tt);
  ports = two_rise;
  port_vlans = All-cons HasPlanVlans (record { number = port_one; role = roles.Host; format = formats.Pcap; input = []; output = []; vlan = Access 1 }) (record { number = port_two; role = roles.Trusted; format = formats.Pcap; input = []; output = []; vlan = Access 1 } ∷ []) of_one (All-cons HasPlanVlans (record { number = port_two; role = roles.Trusted; format = formats.Pcap; input = []; output = []; vlan = Access 1 }) [] of_one (All-nil HasPlanVlans));
  vlan_count = lit≤ tt;
  prefix_count = lit≤ tt;
  plan_prefixes = All-nil IsPlanPrefix;
  prefix_vlans = All-nil (λ (p : PrefixPlan). IsVlan p.vlan);
  prefixes = λ i j d lower inside. absurd (omega (arith, inside));
}
  where
    two_rise : IsStrictlyIncreasing (1 ∷ 2 ∷ [])
    two_rise zero inside = lit≤ tt
    two_rise (suc k) inside = absurd (omega (arith, inside))

-- fe80::11 as a number
abbrev pub first_address : ℕ
first_address = 338288524927261089654018896841347694609

-- a packet from fe80::11 claims the address at 1000
abbrev pub claimed : List Row
claimed = rows_by plan empty [] (Frame port_one 1000 packet ∷ [])

-- once its test has ended the next packet passes
pub packet_passes : verdict_of plan empty claimed port_one 301999 packet ≡ verdicts.Pass scopes.All
unfolding tag_of class_of nd_of named message_passes kind_of guard_of judged aged aged_by
packet_passes = refl

-- a tick at 1500 comes first, and the packet passes with it too
pub early_tick : ComesFirst empty claimed 1500 (Frame port_one 301999 packet ∷ [])
early_tick = lit≤ tt

-- with it the same came in
pub same_came : came (with_tick plan empty claimed 1500 []) ≡ came claimed
unfolding tag_of class_of nd_of named message_passes kind_of guard_of judged aged aged_by
same_came = refl

pub packet_passes_behind_it : verdict_of plan empty (with_tick plan empty claimed 1500 []) port_one 301999 packet ≡ verdicts.Pass scopes.All
unfolding tag_of class_of nd_of named message_passes kind_of guard_of judged aged aged_by
packet_passes_behind_it = refl

-- a tick at 302000 doesn't come first: the address is lost by then, and the packet is dropped behind it
pub late_tick : ¬ ComesFirst empty claimed 302000 (Frame port_one 301999 packet ∷ [])
late_tick first = let low : 302000 ≤ 301999 = first in omega (arith, low)

-- whether the newest answer lets a frame pass
abbrev passed_last : List Answered → Bool
passed_last [] = false
passed_last (a ∷ others) = is_pass a.verdict

pub packet_is_dropped_behind_it : verdict_of plan empty (with_tick plan empty claimed 302000 []) port_one 301999 packet ≡ verdicts.Drop rules.Unverified
unfolding tag_of class_of nd_of named message_passes kind_of guard_of judged aged aged_by
packet_is_dropped_behind_it = refl

-- a frame of at most 1,518 octets may come in at port 1
may_arrive : (past : List Row) (stamp : ℕ) → has_ended empty 0 past ≡ false → has_room plan past ≡ true → stamp < 2 ^ 64 → MayCome plan empty past (Frame port_one stamp packet)
may_arrive past stamp running room fits = (record { open_pass = record { known = refl; running = running }; room = room; fits = fits }, lit≤ tt)

pub claimed_is_legal : IsLegal plan empty claimed
claimed_is_legal = ((Frame port_one 1000 packet, may_arrive [] 1000 refl refl (lit≤ tt), refl), tt)

-- the states of an address of these ranks are two
tick_changes : {s t : AddrState} (n m : ℕ) → (n ≡ m → ⊥) → rank s.fcfs ≡ n → rank t.fcfs ≡ m → s ≢ t
tick_changes n m apart one two same = apart (sym one ∙ ap (λ (x : AddrState). rank x.fcfs) same ∙ two)

-- with the tick and without it the history is legal
pub late_tick_is_legal : IsLegal plan empty (with_tick plan empty claimed 302000 [])
unfolding tag_of class_of nd_of named message_passes kind_of guard_of judged aged aged_by
late_tick_is_legal = (
  (
    Tick 302000,
    record {
      open_pass = record { known = refl; running = refl };
      room = refl;
      fits = lit≤ tt;
      changed = (1, (first_address, tick_changes 0 5 (λ same. omega (arith, same)) refl refl));
    },
    refl,
  ),
  claimed_is_legal,
)

pub late_tick_matters : LateTick
late_tick_matters = record {
  plan = plan;
  past = claimed;
  stamp = 302000;
  events = Frame port_one 301999 packet ∷ [];
  valid = plan_is_valid;
  legal = ((Frame port_one 301999 packet, may_arrive claimed 301999 refl refl (lit≤ tt), refl), claimed_is_legal);
  legal_behind = ((Frame port_one 301999 packet, may_arrive (with_tick plan empty claimed 302000 []) 301999 refl refl (lit≤ tt), refl), late_tick_is_legal);
  late = late_tick;
  other = λ same.
      false≢true
      (sym (ap (λ (v : Verdict). is_pass (Some v)) packet_is_dropped_behind_it)
      ∙ ap passed_last same
      ∙ ap (λ (v : Verdict). is_pass (Some v)) packet_passes);
}
