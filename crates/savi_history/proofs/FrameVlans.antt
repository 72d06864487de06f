-- The VLAN of a frame at a port, and the frame without its tag.
use Rattle.std.proofs.Common.{◌≡◌, ◌≢◌, ℕ, suc, Bool, true, false, Option, Some, None, is_some, List, [], ◌∷◌, ◌++◌, take, drop, refl, ap, sym, subst}
use Rattle.std.specs.Prelude.{IsSomeAnd}
use Rattle.std.proofs.lemmas.Bool.{false≢true}
use Rattle.hex.specs.Hex.{IsBytes}
use Rattle.savi_kinds.specs.declared.plan.Plan.{Plan}
use Rattle.savi_kinds.specs.declared.port.Port.{Port}
use Rattle.savi_kinds.specs.declared.plan.Vlan.{Vlan}
use Rattle.savi_kinds.specs.declared.plan.Vlan.TheVariants.{Access}
use Rattle.savi_kinds.specs.declared.plan.Role.TheVariants as roles
use Rattle.savi_kinds.specs.declared.verdict.Rule.{Rule}
use Rattle.savi_kinds.specs.Ports.{number_of}
use Rattle.savi_kinds.specs.PortSets.{no_ports}
use Rattle.savi_kinds.specs.ValidPlan.{IsValidPlan}
use Rattle.savi_kinds.specs.Vlans.{vlan_among, access_vlan}
use Rattle.eth_frame.specs.declared.vlan_tag.Tag.{Tag}
use Rattle.eth_frame.specs.declared.vlan_tag.Tag.TheVariants as tags
use Rattle.eth_frame.specs.Tags.{tag_of, untagged, inner}
use Rattle.frame_class.specs.declared.classes.Class.{Class}
use Rattle.frame_class.specs.ClassOf.{class_of}
use Rattle.ra_guard.specs.GuardOf.{guard_of}
use Rattle.hist_store.specs.Rows.{Row}
use Rattle.savi_access.specs.Marks.{Mark}
use Rattle.savi_access.specs.Plans.{has_port, role_of}
use Rattle.savi_access.proofs.Lifetimes.{bytes_drop, bytes_cons, bytes_take}
use Rattle.savi_access.proofs.PlanRules.{own_ports}
use Rattle.savi_history.specs.Vlans.{vlan_at, vlan_at_port, vlan_of_frame}
use Rattle.checkpoint.specs.Bases.{Base}
use Rattle.savi_history.specs.Moments.{moment_at}
use Rattle.savi_history.specs.ShutPorts.{is_shut}
use Rattle.savi_history.specs.Marks.{untold, judged_after, marks}
use Rattle.savi_history.specs.Judged.{judged_of, verdict_of}
use Rattle.savi_history.specs.Outs.{outs}
use Rattle.savi_history.specs.Events.{outs_of}
use Rattle.savi_history.specs.Summary.{is_pass}

-- at an access port a frame has the VLAN of the port, or none
own_by_tag : (own vlan : ℕ) (tag : Tag) → vlan_at (Access own) tag ≡ Some vlan → Some own ≡ Some vlan
own_by_tag own vlan tags.None is = is
own_by_tag own vlan (tags.Vid v) is = absurd (false≢true (ap is_some is))
own_by_tag own vlan tags.Bad is = absurd (false≢true (ap is_some is))

pub own_by : (own : Option ℕ) (port : Option Vlan) (tag : Tag) (vlan : ℕ) → IsSomeAnd own (λ v. port ≡ Some (Access v)) → vlan_at_port port tag ≡ Some vlan → own ≡ Some vlan
own_by None port tag vlan access is = absurd access
own_by (Some v) port tag vlan access is = own_by_tag v vlan tag (subst (λ (o : Option Vlan). vlan_at_port o tag ≡ Some vlan) access is)

-- a frame at a port whose sources are validated is of the VLAN of the port, where it has one
pub own_of_frame : (plan : Plan) → IsValidPlan plan → (number vlan : ℕ) (octets : List ℕ) → vlan_of_frame plan number octets ≡ Some vlan → has_port plan number ≡ true → role_of plan number ≢ roles.Trusted
    → access_vlan plan number ≡ Some vlan
own_of_frame plan valid number vlan octets is known host =
    own_by (access_vlan plan number) (vlan_among plan.ports number) (tag_of octets) vlan (own_ports plan valid number known host) is

-- octets stay octets

bytes_append : (xs ys : List ℕ) → IsBytes xs → IsBytes ys → IsBytes (xs ++ ys)
bytes_append [] ys one other = other
bytes_append (x ∷ xs) ys one other = bytes_cons x (xs ++ ys) (one 0) (bytes_append xs ys (λ i. one (suc i)) other)

untagged_bytes : (tag : Tag) (octets : List ℕ) → IsBytes octets → IsBytes (untagged tag octets)
untagged_bytes tags.None octets bytes = bytes
untagged_bytes (tags.Vid vid) octets bytes = bytes_append (take 12 octets) (drop 16 octets) (bytes_take 12 octets bytes) (bytes_drop 16 octets bytes)
untagged_bytes tags.Bad octets bytes = bytes

pub inner_bytes : (octets : List ℕ) → IsBytes octets → IsBytes (inner octets)
inner_bytes octets bytes = untagged_bytes (tag_of octets) octets bytes

-- a frame that has no VLAN at its port tells nothing, asks for no probe and doesn't pass

pub untold_marks : (told : List Mark) (rule : Option Rule) → (untold told rule).marks ≡ told
untold_marks told None = refl
untold_marks told (Some rule) = refl

pub untold_probe : (told : List Mark) (rule : Option Rule) → (untold told rule).probe ≡ None
untold_probe told None = refl
untold_probe told (Some rule) = refl

pub untold_drops : (told : List Mark) (rule : Option Rule) → is_pass (Some (untold told rule).verdict) ≡ false
untold_drops told None = refl
untold_drops told (Some rule) = refl

untold_at : (plan : Plan) (base : Base) (shut : Bool) (told : List Mark) (port : Port) (t : ℕ) (class : Class)
    → (is_pass (Some (judged_after plan base shut told port t None class).verdict) ≡ false) × ((judged_after plan base shut told port t None class).marks ≡ told)
untold_at plan base true told port t class = (refl, refl)
untold_at plan base false told port t class =
    (untold_drops told (guard_of roles.Trusted plan.drop_unknown class), untold_marks told (guard_of roles.Trusted plan.drop_unknown class))

pub without_vlan : (plan : Plan) (base : Base) (past : List Row) (port : Port) (stamp : ℕ) (octets : List ℕ) → vlan_of_frame plan (number_of port) octets ≡ None
    → (is_pass (Some (verdict_of plan base past port stamp octets)) ≡ false) × ((judged_of plan base past port stamp octets).marks ≡ marks plan base past)
without_vlan plan base past port stamp octets none =
    subst (λ (o : Option ℕ). (is_pass (Some (judged_after plan base (is_shut plan base (number_of port) past) (marks plan base past) port (moment_at base past stamp) o (class_of (inner octets))).verdict) ≡ false)
    × ((judged_after plan base (is_shut plan base (number_of port) past) (marks plan base past) port (moment_at base past stamp) o (class_of (inner octets))).marks ≡ marks plan base past)) (sym none)
    (untold_at plan base (is_shut plan base (number_of port) past) (marks plan base past) port (moment_at base past stamp) (class_of (inner octets)))

pub no_outs : (plan : Plan) (base : Base) (past : List Row) (port : Port) (stamp : ℕ) (octets : List ℕ) → vlan_of_frame plan (number_of port) octets ≡ None → outs_of plan base past port stamp octets ≡ no_ports
no_outs plan base past port stamp octets none =
    ap (λ (o : Option ℕ). outs o plan base past (number_of port) (moment_at base past stamp) octets (verdict_of plan base past port stamp octets)) none
