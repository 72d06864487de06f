-- No advertisement and no hidden fragment passes a port whose sources are validated.
use Rattle.std.proofs.Common.{◌≡◌, ◌≢◌, ℕ, Bool, true, false, List, [], ◌∷◌, refl, ap, sym, Option, Some, None, is_none, subst}
use Rattle.std.specs.Option.{IsSomeAnd}
use Rattle.std.proofs.lemmas.Bool.{false≢true}
use Rattle.std.proofs.lemmas.List.Elements.{All-nil, All-cons}
use Rattle.savi_kinds.specs.declared.plan.Plan.{Plan}
use Rattle.savi_kinds.specs.declared.plan.Role.{Role}
use Rattle.savi_kinds.specs.declared.plan.Role.TheVariants as roles
use Rattle.savi_kinds.specs.declared.port.Port.{Port}
use Rattle.savi_kinds.specs.declared.verdict.Rule.{Rule}
use Rattle.savi_kinds.specs.declared.entry.Act.{Act}
use Rattle.savi_kinds.specs.declared.entry.Act.TheVariants as acts
use Rattle.savi_kinds.specs.Ports.{number_of}
use Rattle.frame_class.specs.declared.classes.Class.{Class}
use Rattle.eth_frame.specs.Tags.{inner}
use Rattle.frame_class.specs.ClassOf.{class_of}
use Rattle.frame_class.proofs.ClassIs.{class_is}
use Rattle.ra_guard.specs.GuardOf.{guard_of}
use Rattle.ra_guard.specs.Refused.{IsAdvertFrame, IsHiddenFrame, GuardStops as IsStoppedByClass}
use Rattle.ra_guard.proofs.RuleOf.{guard_is}
use Rattle.ra_guard.proofs.Stopping.{advert_frames, hidden_frames}
use Rattle.hist_store.specs.Rows.{Row}
use Rattle.savi_access.specs.Rules.{AccessRules, AccessBase}
use Rattle.savi_access.specs.Marks.{Mark}
use Rattle.savi_access.specs.Judged.{judged, judged_by}
use Rattle.savi_access.specs.Plans.{rules_of}
use Rattle.checkpoint.specs.Bases.{Base, access_of}
use Rattle.savi_history.specs.Passes.{role_of, is_trusted}
use Rattle.savi_history.specs.Moments.{moment_at}
use Rattle.savi_history.specs.Vlans.{vlan_of_frame}
use Rattle.savi_history.specs.ShutPorts.{is_shut}
use Rattle.savi_history.specs.Marks.{judged_after, marks}
use Rattle.savi_history.specs.Judged.{long_by}
use Rattle.savi_history.specs.Adverts.{NotPassed, NonePasses, IsGuarded}
use Rattle.savi_history.specs.Summary.{is_pass}
use Rattle.savi_history.specs.Events.{Event, row_of}
use Rattle.savi_history.specs.Events as events
use Rattle.savi_history.specs.Legal.{Stands, IsLegal}
use Rattle.savi_history.proofs.FrameVlans.{untold_drops}

-- a rule that stops a frame leaves it no pass
stopped_by : (r : AccessRules) (base : AccessBase) (vlan : ℕ) (port : Port) (t : ℕ) (told : List Mark) (class : Class) (rule : Option Rule) → is_none rule ≡ false → is_pass (Some (judged_by r base vlan port t told class rule).verdict) ≡ false
stopped_by r base vlan port t told class None some = absurd (false≢true (sym some))
stopped_by r base vlan port t told class (Some rule) some = refl

pub stopped-not_pass : (r : AccessRules) (base : AccessBase) (vlan : ℕ) (port : Port) (t : ℕ) (told : List Mark) (class : Class) → is_none (guard_of (r.role_of (number_of port)) r.drop_unknown class) ≡ false → is_pass (Some (judged r base vlan port t told class).verdict) ≡ false
unfolding judged
stopped-not_pass r base vlan port t told class some = stopped_by r base vlan port t told class (guard_of (r.role_of (number_of port)) r.drop_unknown class) some

-- a rule with this property is one
given : (P : Rule → Type 0) (rule : Option Rule) → IsSomeAnd rule P → is_none rule ≡ false
given P None holds = absurd holds
given P (Some rule) holds = refl

validating : (role : Role) → is_trusted role ≡ false → role ≢ roles.Trusted
validating roles.Host host = λ same. absurd cc
validating roles.Server host = λ same. absurd cc
validating roles.Trusted host = absurd (false≢true (sym host))

-- frames with this property are stopped at each validating port
abbrev pub IsStopped : (List ℕ → Type 0) → Type 0
IsStopped Has = (frame : List ℕ) (role : Role) (drop_unknown : Bool) → Has frame → is_trusted role ≡ false → is_none (guard_of role drop_unknown (class_of frame)) ≡ false

-- what the guard stops of every class is stopped
by_class : (Has : List ℕ → Type 0) (most : ℕ) → IsStoppedByClass Has most → IsStopped Has
by_class Has most stopped frame role drop_unknown has host =
    let rule = guard_of role drop_unknown (class_of frame) in
    given _ rule (stopped frame (class_of frame) role drop_unknown rule has (class_is frame) (validating role host) (guard_is role drop_unknown (class_of frame)))

hidden_fragments : IsStopped IsHiddenFrame
hidden_fragments = by_class IsHiddenFrame 7 hidden_frames

adverts : IsStopped IsAdvertFrame
adverts = by_class IsAdvertFrame 9 advert_frames

-- the port of a frame's entry
abbrev port_in : Port → Act → Port
port_in other (acts.Frame port stamp at len) = port
port_in other (acts.Long port stamp len) = other
port_in other (acts.Tick stamp) = other
port_in other (acts.Command stamp at len) = other
port_in other (acts.Drain port count) = other
port_in other (acts.End who how) = other

-- a frame that is too long never passes
pub long_drop : (shut : Bool) → is_pass (Some (long_by shut)) ≡ false
long_drop true = refl
long_drop false = refl

-- nor does a frame pass at a shut port
unless_shut : (plan : Plan) (base : Base) (shut : Bool) (told : List Mark) (port : Port) (t : ℕ) (vlan : Option ℕ) (class : Class) → is_pass (Some (judged_after plan base false told port t vlan class).verdict) ≡ false
    → is_pass (Some (judged_after plan base shut told port t vlan class).verdict) ≡ false
unless_shut plan base false told port t vlan class stopped = stopped
unless_shut plan base true told port t vlan class stopped = refl

-- nor where the guard stops its class, in whatever VLAN, or in none
stopped_in : (plan : Plan) (base : Base) (told : List Mark) (port : Port) (t : ℕ) (class : Class) → is_none (guard_of (role_of plan (number_of port)) plan.drop_unknown class) ≡ false → (vlan : Option ℕ)
    → is_pass (Some (judged_after plan base false told port t vlan class).verdict) ≡ false
stopped_in plan base told port t class some (Some vlan) = stopped-not_pass (rules_of plan) (access_of base) vlan port t told class some
stopped_in plan base told port t class some None = untold_drops told (guard_of roles.Trusted plan.drop_unknown class)

-- the row of an event keeps them out
event_stopped : (Has : List ℕ → Type 0) → IsStopped Has → (plan : Plan) (base : Base) (past : List Row) (event : Event) → NotPassed Has plan (row_of plan base past event)
event_stopped Has stopped plan base past (events.Frame port stamp octets) = λ at_port frame host has.
    let same : port ≡ at_port = ap (port_in port) frame.frame in
    let here : is_trusted (role_of plan (number_of port)) ≡ false = subst (λ (p : Port). is_trusted (role_of plan (number_of p)) ≡ false) (sym same) host in
    unless_shut plan base (is_shut plan base (number_of port) past) (marks plan base past) port (moment_at base past stamp) (vlan_of_frame plan (number_of port) octets) (class_of (inner octets))
    (stopped_in plan base (marks plan base past) port (moment_at base past stamp) (class_of (inner octets)) (stopped (inner octets) (role_of plan (number_of port)) plan.drop_unknown has here) (vlan_of_frame plan (number_of port) octets))
event_stopped Has stopped plan base past (events.Command stamp line) = λ at_port frame host has. refl
event_stopped Has stopped plan base past (events.Long port stamp len) = λ at_port frame host has. long_drop (is_shut plan base (number_of port) past)
event_stopped Has stopped plan base past (events.Tick stamp) = λ at_port frame host has. refl
event_stopped Has stopped plan base past (events.Drain port count) = λ at_port frame host has. refl
event_stopped Has stopped plan base past (events.End who how) = λ at_port frame host has. refl

none_passes : (Has : List ℕ → Type 0) → IsStopped Has → (plan : Plan) (base : Base) (past : List Row) → IsLegal plan base past → NonePasses Has plan past
none_passes Has stopped plan base [] legal = All-nil (NotPassed Has plan)
none_passes Has stopped plan base (r ∷ past) legal =
    let stands : Stands plan base past r = legal.0 in
    let here : NotPassed Has plan r = subst (λ (x : Row). NotPassed Has plan x) (sym stands.2) (event_stopped Has stopped plan base past stands.0) in
    All-cons (NotPassed Has plan) r past here (none_passes Has stopped plan base past legal.1)

-- every legal history is guarded
pub guarded : (plan : Plan) (base : Base) (past : List Row) → IsLegal plan base past → IsGuarded plan past
guarded plan base past legal = record {
  no_advert = none_passes IsAdvertFrame adverts plan base past legal;
  no_hidden = none_passes IsHiddenFrame hidden_fragments plan base past legal;
}
