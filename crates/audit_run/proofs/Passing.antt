-- A frame that passed in a legal history has a whole header and a VLAN at its port, and is no earlier than those before it.
use Rattle.std.proofs.Common.{◌≡◌, ℕ, ◌^◌, ◌<◌, ◌≤◌, inl, inr, Bool, true, false, if◌then◌else◌, List, [], ◌∷◌, length, Option, Some, None, IfSome, is_none, is_some, refl, sym, ap, ◌∙◌, subst, arith}
use Rattle.std.proofs.lemmas.Bool.{cases_lt, false≢true, lt-ltb}
use Rattle.savi_kinds.specs.declared.plan.Plan.{Plan}
use Rattle.savi_kinds.specs.declared.plan.Role.{Role}
use Rattle.savi_kinds.specs.declared.plan.Role.TheVariants as roles
use Rattle.savi_kinds.specs.declared.port.Port.{Port}
use Rattle.savi_kinds.specs.Ports.{number_of}
use Rattle.eth_frame.specs.Frame.{header_of, payload_of}
use Rattle.eth_frame.specs.Tags.{inner}
use Rattle.eth_frame.proofs.Untagged.{inner_short}
use Rattle.frame_class.specs.declared.classes.Class.{Class}
use Rattle.frame_class.specs.declared.classes.Class.TheVariants.{Runt}
use Rattle.frame_class.specs.ClassOf.{class_of, typed_class_of}
use Rattle.ra_guard.specs.GuardOf.{guard_of}
use Rattle.hist_store.specs.Rows.{Row}
use Rattle.checkpoint.specs.Bases.{Base, access_of}
use Rattle.savi_access.specs.Marks.{Mark}
use Rattle.savi_access.specs.Plans.{role_of, rules_of}
use Rattle.savi_history.specs.Events as events
use Rattle.savi_history.specs.Events.{Event, row_of, verdict_of}
use Rattle.savi_history.specs.Legal.{IsLegal, MayCome, Stands}
use Rattle.savi_history.specs.Marks.{judged_after, marks}
use Rattle.savi_history.specs.Moments.{last_moment, moment_at}
use Rattle.savi_history.specs.ShutPorts.{is_shut}
use Rattle.savi_history.specs.Summary.{is_pass}
use Rattle.savi_history.specs.Vlans.{vlan_of_frame}
use Rattle.savi_history.proofs.FrameVlans.{untold_drops, without_vlan}
use Rattle.savi_history.proofs.Guarded.{stopped-not_pass}
use Rattle.savi_history.proofs.Teaching.{row_moment}
use Rattle.savi_segments.specs.Segments.{AreLegal, base_after}
use Rattle.savi_core.proofs.Going.{runt_stopped}
use Rattle.v4_snoop.specs.Reasons.{HasVlanAtPort, PassedFrame, passed_at}
use Rattle.audit_run.specs.PassedFrames.{frame_passed}

-- a frame of fewer than 14 octets is dropped

short_class : (octets : List ℕ) → length octets < 14 → class_of octets ≡ Runt
unfolding class_of
short_class octets short = ap (λ (is : Bool). if is then Runt else typed_class_of (header_of octets) (payload_of octets)) (lt-ltb (length octets) 14 short)

-- so is each frame whose class the guard stops at a port of any role
class_drops : (plan : Plan) (base : Base) (told : List Mark) (port : Port) (t : ℕ) (class : Class) → ((role : Role) (drop_unknown : Bool) → is_none (guard_of role drop_unknown class) ≡ false) → (shut : Bool) (vlan : Option ℕ)
    → is_pass (Some (judged_after plan base shut told port t vlan class).verdict) ≡ false
class_drops plan base told port t class stopped true vlan = refl
class_drops plan base told port t class stopped false (Some vlan) = stopped-not_pass (rules_of plan) (access_of base) vlan port t told class (stopped (role_of plan (number_of port)) plan.drop_unknown)
class_drops plan base told port t class stopped false None = untold_drops told (guard_of roles.Trusted plan.drop_unknown class)

module _ (plan : Plan) (base : Base) (past : List Row) (port : Port) (stamp : ℕ) (octets : List ℕ) where
  short_drops : length octets < 14 → is_pass (Some (verdict_of plan base past port stamp octets)) ≡ false
  short_drops short =
      let runt : class_of (inner octets) ≡ Runt = short_class (inner octets) (omega (arith, inner_short octets, short)) in
      ap (λ (class : Class). is_pass (Some (judged_after plan base (is_shut plan base (number_of port) past) (marks plan base past) port (moment_at base past stamp) (vlan_of_frame plan (number_of port) octets) class).verdict)) runt
      ∙ class_drops plan base (marks plan base past) port (moment_at base past stamp) Runt runt_stopped (is_shut plan base (number_of port) past) (vlan_of_frame plan (number_of port) octets)

  module _ (passes : is_pass (Some (verdict_of plan base past port stamp octets)) ≡ true) where
    whole_by : 14 ≤ length octets
    whole_by = elim (cases_lt (length octets) 14) [
      | inl short ↦ absurd (false≢true (sym (short_drops short) ∙ passes))
      | inr long ↦ omega (arith, long)
    ]

    vlan_by : (vlan : Option ℕ) → vlan_of_frame plan (number_of port) octets ≡ vlan → is_some (vlan_of_frame plan (number_of port) octets) ≡ true
    vlan_by None none = absurd (false≢true (sym (without_vlan plan base past port stamp octets none).0 ∙ passes))
    vlan_by (Some vlan) is = ap is_some is

-- what a frame that passed at a moment t or later is
pub record IsWhole (plan : Plan) (t : ℕ) (frame : PassedFrame) : Type 0 where
  pub least : 14 ≤ length frame.octets
  pub most : length frame.octets ≤ 1518
  pub vlan : HasVlanAtPort plan frame
  pub early : frame.moment ≤ 2 ^ 62
  pub later : t ≤ frame.moment

some_if : (is : Bool) (frame : PassedFrame) (P : PassedFrame → Type 0) → (is ≡ true → P frame) → IfSome (if is then Some frame else None) P
some_if true frame P so = so refl
some_if false frame P so = tt

event_whole : (plan : Plan) (base : Base) (past : List Row) (event : Event) → last_moment base past ≤ 2 ^ 62 → MayCome plan base past event → IfSome (frame_passed (row_of plan base past event)) (IsWhole plan (last_moment base past))
event_whole plan base past (events.Frame port stamp octets) early may =
    let moments = row_moment plan base past (events.Frame port stamp octets) early in
    some_if (is_pass (Some (verdict_of plan base past port stamp octets))) (passed_at port (moment_at base past stamp) octets) (IsWhole plan (last_moment base past)) (λ passes. record {
      least = whole_by plan base past port stamp octets passes;
      most = may.1;
      vlan = vlan_by plan base past port stamp octets passes (vlan_of_frame plan (number_of port) octets) refl;
      early = moments.1;
      later = moments.0;
    })
event_whole plan base past (events.Long port stamp len) early may = tt
event_whole plan base past (events.Command stamp line) early may = tt
event_whole plan base past (events.Tick stamp) early may = tt
event_whole plan base past (events.Drain port count) early may = tt
event_whole plan base past (events.End who how) early may = tt

-- the frame of a row that stands, if it passed
pub row_whole : (plan : Plan) (base : Base) (past : List Row) (row : Row) → last_moment base past ≤ 2 ^ 62 → Stands plan base past row → IfSome (frame_passed row) (IsWhole plan (last_moment base past))
row_whole plan base past row early stands =
    subst (λ (r : Row). IfSome (frame_passed r) (IsWhole plan (last_moment base past))) (sym stands.2) (event_whole plan base past stands.0 early stands.1)

-- no moment is later than 2^62

pub last_early : (plan : Plan) (base : Base) (past : List Row) → base.moment ≤ 2 ^ 62 → IsLegal plan base past → last_moment base past ≤ 2 ^ 62
last_early plan base [] early legal = early
last_early plan base (row ∷ past) early legal =
    subst (λ (r : Row). r.entry.moment ≤ 2 ^ 62) (sym legal.0.2) (row_moment plan base past legal.0.0 (last_early plan base past early legal.1)).1

pub base_early : (plan : Plan) (segments : List (List Row)) → AreLegal plan segments → (base_after plan segments).moment ≤ 2 ^ 62
base_early plan [] legal = omega arith
base_early plan (segment ∷ before) legal = last_early plan (base_after plan before) segment (base_early plan before legal.2) legal.0

-- the row's moment is no earlier than that of the rows before it
pub row_later : (plan : Plan) (base : Base) (past : List Row) (row : Row) → last_moment base past ≤ 2 ^ 62 → Stands plan base past row → last_moment base past ≤ row.entry.moment
row_later plan base past row early stands = subst (λ (r : Row). last_moment base past ≤ r.entry.moment) (sym stands.2) (row_moment plan base past stands.0 early).0

-- a frame that passed in the newest entry of legal segments
pub whole_frame : (plan : Plan) (closed : List (List Row)) (past : List Row) (row : Row) (frame : PassedFrame) → AreLegal plan ((row ∷ past) ∷ closed) → frame_passed row ≡ Some frame → IsWhole plan (last_moment (base_after plan closed) past) frame
whole_frame plan closed past row frame legal is =
    let base : Base = base_after plan closed in
    let early : last_moment base past ≤ 2 ^ 62 = last_early plan base past (base_early plan closed legal.2) legal.0.1 in
    subst (λ (o : Option PassedFrame). IfSome o (IsWhole plan (last_moment base past))) is (row_whole plan base past row early legal.0.0)
