-- What commands tell may come after what was told before.
use Rattle.std.proofs.Common.{◌≡◌, ◌≢◌, ℕ, ◌≤◌, ◌^◌, Bool, true, false, not, if◌then◌else◌, Option, Some, None, IsSome, is_some, List, [], ◌∷◌, Result, Ok, Err, refl, sym, ap, subst, ◌∙◌, inl, inr, arith, lit≤}
use Rattle.std.proofs.lemmas.Bool.{or_cases, false≢true}
use Rattle.std.proofs.lemmas.List.Elements.{All-nil, All-cons}
use Rattle.savi_kinds.specs.declared.plan.Plan.{Plan}
use Rattle.savi_kinds.specs.declared.plan.Method.{Method}
use Rattle.savi_kinds.specs.declared.plan.Role.{Role}
use Rattle.savi_kinds.specs.declared.plan.Role.TheVariants as roles
use Rattle.savi_kinds.specs.declared.port.Port.{Port}
use Rattle.savi_kinds.specs.Ports.{number_of}
use Rattle.savi_kinds.specs.ValidPlan.{IsValidPlan}
use Rattle.savi_kinds.specs.Vlans.{access_vlan}
use Rattle.fcfs_states.specs.declared.event.Ev.{Ev}
use Rattle.fcfs_states.specs.declared.event.Ev.TheVariants.{Fix, Clear}
use Rattle.mix_rules.specs.declared.state.AddrState.{AddrState}
use Rattle.mix_rules.specs.States.{has_state, is_held_at}
use Rattle.mix_rules.specs.Premises.{IsLeaseInRange}
use Rattle.savi_access.specs.declared.row.Row.{Row}
use Rattle.savi_access.specs.Rows.{state_in}
use Rattle.savi_access.specs.Keeps.{IsSoundBy}
use Rattle.savi_access.specs.Rooms.{port_of, IsFixable}
use Rattle.savi_access.specs.Limits.{IsOfVlan}
use Rattle.savi_access.proofs.Holding.{held-told}
use Rattle.savi_access.proofs.StatesKept.{base_times, base_tables, states_kept}
use Rattle.savi_access.proofs.TablesOf.{states_at}
use Rattle.cli_lang.specs.declared.kinds.Command.{Command}
use Rattle.cli_lang.specs.declared.kinds.Command.TheVariants as orders
use Rattle.cli_lang.specs.declared.kinds.CmdFault.{CmdFault}
use Rattle.control_replies.specs.declared.refusal.Refusal.{Refusal}
use Rattle.savi_access.specs.Marks.{Mark, Told, told, event_told, moment_of, newest_moment}
use Rattle.savi_access.specs.Legal.{AreMarks, HasFront}
use Rattle.savi_access.specs.Plans.{rules_of, has_port, method_in}
use Rattle.savi_access.proofs.States.{told_past, told_before}
use Rattle.savi_access.proofs.Keeping.{told_follows}
use Rattle.checkpoint.specs.Bases.{Base, access_of}
use Rattle.checkpoint.specs.BaseLines.{has_vlan}
use Rattle.savi_history.specs.Limits.{IsWithinLimits}
use Rattle.savi_history.specs.Passes.{is_trusted}
use Rattle.savi_history.specs.Commands.{rows_told, may_hold, static_refusal_in, static_refusal, clear_refusal, refusal_of, fixed_in, ordered_unless, commanded}

-- what holds where a static address isn't refused
pub record IsGranted (plan : Plan) (rows : ℕ → List Row) (a : ℕ) (port : Port) : Type 0 where
  pub known : has_port plan (number_of port) ≡ true
  pub vlan : ℕ
  pub vlan_is : access_vlan plan (number_of port) ≡ Some vlan
  pub on_link : is_some (method_in plan vlan a) ≡ true
  pub fits : may_hold plan (rows vlan) port a ≡ true

granted_known : (known : Bool) (a : Refusal) (rest : Option Refusal) → (if not known then Some a else rest) ≡ None → (known ≡ true) × (rest ≡ None)
granted_known true a rest none = (refl, none)
granted_known false a rest none = absurd cc

granted_in : (on_link fits : Bool) (c d : Refusal) → (if not on_link then Some c else if not fits then Some d else None) ≡ None → (on_link ≡ true) × (fits ≡ true)
granted_in true true c d none = (refl, refl)
granted_in true false c d none = absurd cc
granted_in false fits c d none = absurd cc

granted_by : (plan : Plan) (rows : ℕ → List Row) (a : ℕ) (port : Port) → has_port plan (number_of port) ≡ true → (own : Option ℕ) → access_vlan plan (number_of port) ≡ own → static_refusal_in plan rows a port own ≡ None → IsGranted plan rows a port
granted_by plan rows a port known None is none = absurd cc
granted_by plan rows a port known (Some vlan) is none =
    let both = granted_in (is_some (method_in plan vlan a)) (may_hold plan (rows vlan) port a) _ _ none in
    record { known = known; vlan = vlan; vlan_is = is; on_link = both.0; fits = both.1 }

pub granted : (plan : Plan) (rows : ℕ → List Row) (a : ℕ) (port : Port) → static_refusal plan rows a port ≡ None → IsGranted plan rows a port
granted plan rows a port none =
    let parts = granted_known (has_port plan (number_of port)) _ (static_refusal_in plan rows a port (access_vlan plan (number_of port))) none in
    granted_by plan rows a port parts.0 (access_vlan plan (number_of port)) refl parts.1

-- an address that is cleared has a state
pub cleared : (plan : Plan) (rows : ℕ → List Row) (vlan a : ℕ) → clear_refusal plan rows vlan a ≡ None → has_state (state_in (rows vlan) a) ≡ true
cleared plan rows vlan a none = by (has_vlan plan vlan) (has_state (state_in (rows vlan) a)) _ _ none
  where
    by : (known b : Bool) (x y : Refusal) → (if not known then Some x else if b then None else Some y) ≡ None → b ≡ true
    by true true x y none = refl
    by true false x y none = absurd cc
    by false b x y none = absurd cc

pub not_trusted : (role : Role) → is_trusted role ≡ false → role ≢ roles.Trusted
not_trusted roles.Host is = λ same. absurd cc
not_trusted roles.Server is = λ same. absurd cc
not_trusted roles.Trusted is = absurd (false≢true (sym is))

some_method : (o : Option Method) → is_some o ≡ true → IsSome o
some_method (Some m) is = search
some_method None is = absurd (false≢true is)

pub fixable : (plan : Plan) (rows : List Row) (a : ℕ) (port : Port) → may_hold plan rows port a ≡ true → IsFixable plan.per_port rows a (Fix port)
fixable plan rows a port may =
    elim (or_cases _ (is_held_at (number_of port) (state_in rows a)) may) [
      | inl room ↦ inl room
      | inr held ↦ inr (held-told (state_in rows a) port held)
    ]

-- any port
pub some_port : Port
some_port = record { number = 1; low = lit≤ tt; high = lit≤ tt }

-- an address with a state is on-link
on_link_by : (o : Option Method) (s : AddrState) → IsSoundBy o s → has_state s ≡ true → IsSome o
on_link_by (Some m) s sound has = search
on_link_by None s sound has = absurd (false≢true (sym (ap has_state sound) ∙ has))

module _ (plan : Plan) (valid : IsValidPlan plan) (base : Base) (within : IsWithinLimits plan base) (t : ℕ) (early : t ≤ 2 ^ 62) (marks : List Mark) (right : AreMarks (rules_of plan) (access_of base) marks) (after : newest_moment (access_of base) marks ≤ t) where
  -- what is told by a command
  pub record IsOrdered (new : List Mark) : Type 0 where
    pub legal : AreMarks (rules_of plan) (access_of base) new
    pub last : newest_moment (access_of base) new ≤ t
    pub front : HasFront t marks new

  unchanged : IsOrdered marks
  unchanged = record { legal = right; last = after; front = record { new = []; is = refl; moments = All-nil (λ (m : Mark). moment_of m ≡ t) } }

  marked : (vlan a : ℕ) (event : Ev) → IsSome (method_in plan vlan a) → IsLeaseInRange event → IsOfVlan (rules_of plan).addresses vlan (port_of event) → IsFixable plan.per_port (rows_told plan (access_of base) marks t vlan) a event
      → (port : Port) → IsOrdered (event_told (rules_of plan) (access_of base) vlan t marks a event)
  marked vlan a event on lease of_vlan fix port = record {
    legal = (told_follows (rules_of plan) (access_of base) within.access vlan port t early marks right after a event on lease of_vlan fix, right);
    last = omega arith;
    front = record { new = Told (record { vlan = vlan; address = a; moment = t; event = event; room = _ }) ∷ []; is = refl; moments = All-cons (λ (m : Mark). moment_of m ≡ t) _ [] refl (All-nil (λ (m : Mark). moment_of m ≡ t)) };
  }

  state_there : (vlan a : ℕ) → IsSoundBy (method_in plan vlan a) (state_in (rows_told plan (access_of base) marks t vlan) a)
  state_there vlan a =
      let base_is = within.access.addresses in
      let rules = (rules_of plan).addresses in
      subst (λ (s : AddrState). IsSoundBy (method_in plan vlan a) s) (sym (states_at rules (access_of base).addresses (base_tables rules (access_of base).addresses base_is) (base_times rules (access_of base).addresses base_is) (told marks) t vlan a))
      (states_kept rules (access_of base).addresses base_is (told marks) t vlan a (told_past (rules_of plan) (access_of base) marks right) (told_before (rules_of plan) (access_of base) marks t right after) early).sound

  ordered_right : (order : Result Command CmdFault) (refusal : Option Refusal) → refusal_of plan (rows_told plan (access_of base) marks t) order ≡ refusal → IsOrdered (ordered_unless plan (access_of base) t order refusal marks)
  ordered_right order (Some refusal) is = unchanged
  ordered_right (Err fault) None is = unchanged
  ordered_right (Ok (orders.Static address port)) None is =
      let given = granted plan (rows_told plan (access_of base) marks t) address.0 port is in
      subst (λ (own : Option ℕ). IsOrdered (fixed_in plan (access_of base) t own address.0 port marks)) (sym given.vlan_is)
      (marked given.vlan address.0 (Fix port) (some_method (method_in plan given.vlan address.0) given.on_link) tt given.vlan_is
      (fixable plan (rows_told plan (access_of base) marks t given.vlan) address.0 port given.fits) port)
  ordered_right (Ok (orders.Clear vlan address)) None is =
      marked vlan address.0 Clear (on_link_by (method_in plan vlan address.0) (state_in (rows_told plan (access_of base) marks t vlan) address.0) (state_there vlan address.0) (cleared plan (rows_told plan (access_of base) marks t) vlan address.0 is)) tt tt tt some_port
  ordered_right (Ok (orders.Shut port)) None is = unchanged
  ordered_right (Ok (orders.Reopen port)) None is = unchanged
  ordered_right (Ok orders.ShowBindings) None is = unchanged
  ordered_right (Ok orders.ShowPorts) None is = unchanged
  ordered_right (Ok orders.ShowCounters) None is = unchanged
  ordered_right (Ok orders.ShowStations) None is = unchanged
  ordered_right (Ok orders.Quit) None is = unchanged

  pub commanded_right : (order : Result Command CmdFault) → IsOrdered (commanded plan (access_of base) t order marks)
  commanded_right order = ordered_right order (refusal_of plan (rows_told plan (access_of base) marks t) order) refl
