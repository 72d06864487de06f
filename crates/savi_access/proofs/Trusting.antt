-- Frames whose sources aren't validated: those at trusted ports, and all where validation is off.
use Rattle.std.proofs.Common.{◌≡◌, ℕ, Bool, true, false, Option, Some, None, IsSome, is_some, if◌then◌else◌, List, refl, sym, ap, ◌∙◌, subst, rules, unwrap_or}
use Rattle.savi_kinds.specs.declared.port.Port.{Port}
use Rattle.savi_kinds.specs.declared.plan.Method.{Method}
use Rattle.savi_kinds.specs.declared.plan.Role.{Role}
use Rattle.savi_kinds.specs.declared.plan.Role.TheVariants as roles
use Rattle.savi_kinds.specs.declared.verdict.Rule.{Rule}
use Rattle.savi_kinds.specs.declared.verdict.Rule.TheVariants.{Unverified}
use Rattle.savi_kinds.specs.declared.verdict.Verdict.TheVariants.{Drop}
use Rattle.savi_kinds.specs.Ports.{number_of}
use Rattle.dhcp6_read.specs.declared.message.Dhcp.{Dhcp}
use Rattle.frame_class.specs.declared.classes.Class.{Class}
use Rattle.frame_class.specs.declared.classes.Class.TheVariants.{Runt, Tagged, Other, BadIp, Ip6}
use Rattle.ra_guard.specs.GuardOf.{guard_of}
use Rattle.fcfs_states.specs.declared.event.Ev.{Ev}
use Rattle.fcfs_states.specs.declared.event.Ev.TheVariants.{TpDad, TpNa}
use Rattle.fcfs_states.specs.declared.times.Times.{Times}
use Rattle.mix_rules.specs.declared.state.AddrState.{AddrState}
use Rattle.mix_rules.specs.Next.{next_state, IsPass}
use Rattle.mix_rules.specs.Ageing.{aged_state}
use Rattle.savi_access.specs.NamedMarks.{mark_of}
use Rattle.savi_access.specs.States.{outcome_by, state_of}
use Rattle.savi_access.specs.Rules.{AccessRules, AccessBase}
use Rattle.savi_access.specs.Marks.{Mark, told, named_for}
use Rattle.savi_access.specs.Frames.{dad_target, advertised, dhcp_to}
use Rattle.savi_access.specs.Judged.{Judged, judged, judged_by, judged_for, judged_without, trusted, heard_or, to_client_or_other, answered, is_on_link, passes}
use Rattle.savi_access.proofs.States.{true_not_false, none_some}

dad-row : (m : Method) (k : Times) (t : ℕ) (room : Bool) (s : AddrState) → IsPass (Some (unwrap_or (next_state m k t room s TpDad).0.verdict (Drop Unverified)))
dad-row m k t room s = search rules

na-row : (m : Method) (k : Times) (t : ℕ) (room : Bool) (s : AddrState) → IsPass (Some (unwrap_or (next_state m k t room s TpNa).0.verdict (Drop Unverified)))
na-row m k t room s = search rules

module _ (r : AccessRules) (base : AccessBase) (vlan : ℕ) (port : Port) (t : ℕ) (past : List Mark) where
  without_by : (b : Bool) (class : Class) (g : Option Rule) → b ≡ false → r.validates ≡ b → judged_by r base vlan port t past class g ≡ judged_without past g
  without_by b class (Some rule) off is = refl
  without_by b class None off is = ap (λ on. if on then judged_for r base vlan port t past class (r.role_of (number_of port)) else passes past) (is ∙ off)

  pub without : (class : Class) → r.validates ≡ false → judged r base vlan port t past class ≡ judged_without past (guard_of (r.role_of (number_of port)) r.drop_unknown class)
  unfolding judged
  without class off = without_by r.validates class (guard_of (r.role_of (number_of port)) r.drop_unknown class) off refl

  abbrev Passes : Judged → Type 0
  Passes judged = IsPass (Some judged.verdict)

  -- an event at a trusted port that passes by its row passes at an on-link address
  answered_passes : (event : Ev) → ((m : Method) (k : Times) (t : ℕ) (room : Bool) (s : AddrState) → IsPass (Some (unwrap_or (next_state m k t room s event).0.verdict (Drop Unverified)))) → (a : ℕ) → IsSome (r.addresses.method_of vlan a) → Passes (answered r base vlan port t past a event)
  answered_passes event row a on = by_method (r.addresses.method_of vlan a) on
    where
      by_method : (o : Option Method) → IsSome o → IsPass (Some (unwrap_or (outcome_by o r.addresses.times (mark_of (named_for r base vlan t past a event)) (state_of r.addresses base.addresses (told past) vlan a)).0.verdict (Drop Unverified)))
      by_method None on = absurd (none_some on)
      by_method (Some m) on = row m r.addresses.times t (named_for r base vlan t past a event).room (aged_state r.addresses.times t (state_of r.addresses base.addresses (told past) vlan a)).state

  if_passes : (b : Bool) (x : Judged) → (b ≡ true → Passes x) → Passes (if b then x else passes past)
  if_passes true x passed = passed refl
  if_passes false x passed = tt

  heard_passes : (s : Option ℕ) (event : Ev) → ((a : ℕ) → IsSome (r.addresses.method_of vlan a) → Passes (answered r base vlan port t past a event)) → (other : Judged) → Passes other → Passes (heard_or r base vlan port t past s event other)
  heard_passes None event each other passed = passed
  heard_passes (Some a) event each other passed = if_passes (is_on_link r base vlan port t a) (answered r base vlan port t past a event) (λ on. each a on)

  client_passes : (s : Option Dhcp) → Passes (to_client_or_other r base vlan port t past s)
  client_passes None = tt
  client_passes (Some dhcp) = tt

  trusted_passes : (class : Class) → Passes (trusted r base vlan port t past class)
  trusted_passes Runt = tt
  trusted_passes (Tagged eth) = tt
  trusted_passes (Other eth) = tt
  trusted_passes (BadIp eth) = tt
  trusted_passes (Ip6 eth ip read) =
      let client : Judged = to_client_or_other r base vlan port t past (dhcp_to 546 read) in
      heard_passes (dad_target read) TpDad (answered_passes TpDad dad-row) (heard_or r base vlan port t past (advertised read) TpNa client)
      (heard_passes (advertised read) TpNa (answered_passes TpNa na-row) client (client_passes (dhcp_to 546 read)))

  for_trusted : (role : Role) (class : Class) → role ≡ roles.Trusted → Passes (judged_for r base vlan port t past class role)
  for_trusted role class is = subst (λ role. Passes (judged_for r base vlan port t past class role)) (sym is) (trusted_passes class)

  trusts_by : (class : Class) (g : Option Rule) → r.role_of (number_of port) ≡ roles.Trusted → g ≡ None → Passes (judged_by r base vlan port t past class g)
  trusts_by class (Some rule) role none = absurd (true_not_false true refl (ap is_some none))
  trusts_by class None role none = if_passes r.validates (judged_for r base vlan port t past class (r.role_of (number_of port))) (λ on. for_trusted (r.role_of (number_of port)) class role)

  pub trusts : (class : Class) → r.role_of (number_of port) ≡ roles.Trusted → guard_of (r.role_of (number_of port)) r.drop_unknown class ≡ None → Passes (judged r base vlan port t past class)
  unfolding judged
  trusts class role none = trusts_by class (guard_of (r.role_of (number_of port)) r.drop_unknown class) role none
