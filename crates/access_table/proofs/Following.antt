-- What a judgement comes to, from the first rule on.
use Rattle.std.proofs.Common.{◌≡◌, ◌≢◌, ℕ, true, false, Option, None, if◌then◌else◌, List, refl, sym, ap, ◌∙◌, subst}
use Rattle.savi_kinds.specs.declared.port.Port.{Port}
use Rattle.savi_kinds.specs.declared.plan.Role.{Role}
use Rattle.savi_kinds.specs.declared.plan.Role.TheVariants as roles
use Rattle.savi_access.proofs.States.{none_some, true_not_false}
use Rattle.savi_kinds.specs.declared.verdict.Rule.{Rule}
use Rattle.savi_kinds.specs.declared.verdict.Scope.TheVariants.{All}
use Rattle.savi_kinds.specs.declared.verdict.Verdict.TheVariants.{Pass}
use Rattle.savi_kinds.specs.Ports.{number_of}
use Rattle.frame_class.specs.declared.classes.Class.{Class}
use Rattle.frame_class.specs.declared.classes.Read.{Read}
use Rattle.ra_guard.specs.Guard.{Applies, IsFirst}
use Rattle.ra_guard.specs.GuardOf.{guard_of, is_validating}
use Rattle.ra_guard.proofs.RuleOf.{guard_is}
use Rattle.savi_access.specs.Rules.{AccessRules, AccessBase}
use Rattle.savi_access.specs.Marks.{Mark}
use Rattle.savi_access.specs.Judged.{Judged, judged, judged_by, judged_for, validated, message, followed, is_passed, passes}
use Rattle.access_table.specs.declared.judgement.Judgement.{Judgement}
use Rattle.access_table.specs.Kept.{Kept}
use Rattle.access_table.specs.Steps.{ComesTo, FollowsStep}

module _ (r : AccessRules) (vlan t : ℕ) (port : Port) where
  -- a packet whose source may pass
  pub passes_on : (old between new : Kept) (read : Read) (sent result : Judgement) (step : AccessBase → List Mark → Judged) → is_passed sent.verdict ≡ true → FollowsStep r t old between sent step → FollowsStep r t between new result (λ base past. message r base vlan port t past read)
      → FollowsStep r t old new result (λ base past. followed r base vlan port t (step base past) read)
  passes_on old between new read sent result step passed first after = λ base past is.
      let here : ComesTo r base t between sent (step base past) = first base past is in
      subst (λ b. ComesTo r base t new result (if b then message r base vlan port t (step base past).marks read else step base past)) (sym (ap is_passed (sym here.verdict) ∙ passed))
      (after base (step base past).marks here.kept)

  -- one whose source may not
  pub stops_here : (old new : Kept) (read : Read) (sent : Judgement) (step : AccessBase → List Mark → Judged) → is_passed sent.verdict ≡ false → FollowsStep r t old new sent step
      → FollowsStep r t old new sent (λ base past. followed r base vlan port t (step base past) read)
  stops_here old new read sent step not first = λ base past is.
      let here : ComesTo r base t new sent (step base past) = first base past is in
      subst (λ b. ComesTo r base t new sent (if b then message r base vlan port t (step base past).marks read else step base past)) (sym (ap is_passed (sym here.verdict) ∙ not))
      here

  -- this verdict, and nothing is told
  pub comes_plainly : (kept : Kept) (result : Judgement) (step : AccessBase → List Mark → Judged) → ((base : AccessBase) (past : List Mark) → step base past ≡ record { verdict = result.verdict; marks = past; probe = result.probe }) → FollowsStep r t kept kept result step
  comes_plainly kept result step is = λ base past here. subst (λ (j : Judged). ComesTo r base t kept result j) (sym (is base past)) (record { verdict = refl; probe = refl; kept = here })

  module _ (class : Class) (g : Option Rule) (first : (other : Option Rule) → IsFirst (Applies (r.role_of (number_of port)) r.drop_unknown class) other → other ≡ g) where
    by_guard : guard_of (r.role_of (number_of port)) r.drop_unknown class ≡ g
    by_guard = first (guard_of (r.role_of (number_of port)) r.drop_unknown class) (guard_is (r.role_of (number_of port)) r.drop_unknown class)

    -- the rules on messages decide first
    pub judged_first : (old new : Kept) (result : Judgement) → FollowsStep r t old new result (λ base past. judged_by r base vlan port t past class g) → FollowsStep r t old new result (λ base past. judged r base vlan port t past class)
    unfolding judged
    judged_first old new result follows = λ base past is. subst (λ (o : Option Rule). ComesTo r base t new result (judged_by r base vlan port t past class o)) (sym by_guard) (follows base past is)

  -- then the role of the port
  pub judged_next : (class : Class) (role : Role) (old new : Kept) (result : Judgement) → r.validates ≡ true → r.role_of (number_of port) ≡ role → FollowsStep r t old new result (λ base past. judged_for r base vlan port t past class role) → FollowsStep r t old new result (λ base past. judged_by r base vlan port t past class None)
  judged_next class role old new result on here follows = λ base past is.
      subst (λ b. ComesTo r base t new result (if b then judged_for r base vlan port t past class (r.role_of (number_of port)) else passes past)) (sym on)
      (subst (λ (o : Role). ComesTo r base t new result (judged_for r base vlan port t past class o)) (sym here) (follows base past is))

  -- or all pass
  pub judged_off : (class : Class) (kept : Kept) (result : Judgement) → r.validates ≡ false → result ≡ record { verdict = Pass All; probe = None } → FollowsStep r t kept kept result (λ base past. judged_by r base vlan port t past class None)
  judged_off class kept result off passed = λ base past is.
      subst (λ b. ComesTo r base t kept result (if b then judged_for r base vlan port t past class (r.role_of (number_of port)) else passes past)) (sym off)
      (record { verdict = ap (λ (j : Judgement). j.verdict) passed; probe = ap (λ (j : Judgement). j.probe) passed; kept = is })

-- the roles whose ports' sources are validated
pub trusted_role : (role : Role) → is_validating role ≡ false → role ≡ roles.Trusted
trusted_role roles.Host not = absurd (true_not_false true refl not)
trusted_role roles.Server not = absurd (true_not_false true refl not)
trusted_role roles.Trusted not = refl

-- a role whose ports' sources are validated isn't that of a trusted port
pub validating_role : (role : Role) → is_validating role ≡ true → role ≢ roles.Trusted
validating_role role is trusted = true_not_false (is_validating role) is (ap is_validating trusted)

pub judged_host : (r : AccessRules) (vlan t : ℕ) (port : Port) (class : Class) (role : Role) (old new : Kept) (result : Judgement) → is_validating role ≡ true → FollowsStep r t old new result (λ base past. validated r base vlan port t past class) → FollowsStep r t old new result (λ base past. judged_for r base vlan port t past class role)
judged_host r vlan t port class roles.Host old new result is follows = follows
judged_host r vlan t port class roles.Server old new result is follows = follows
judged_host r vlan t port class roles.Trusted old new result is follows = absurd (none_some is)
