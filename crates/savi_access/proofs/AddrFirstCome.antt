-- First come, first served: what holds of one address over its own marks holds of each.
use Rattle.std.proofs.Common.{◌≡◌, ℕ, Some, List, ◌++◌, ◌∙◌, ap, subst}
use Rattle.savi_kinds.specs.declared.port.Port.{Port}
use Rattle.savi_kinds.specs.declared.plan.Method.{Method}
use Rattle.fcfs_states.specs.declared.event.Ev.TheVariants.{Sent}
use Rattle.fcfs_states.specs.Premises.{AreTimes}
use Rattle.fcfs_states.specs.States.{Same}
use Rattle.fcfs_states.specs.FirstCome.{TimedEvent}
use Rattle.mix_rules.specs.States.{IsSoundFor, IsLiveAt}
use Rattle.mix_rules.specs.Next.{IsPassing}
use Rattle.mix_rules.specs.Ageing.{aged_state}
use Rattle.mix_rules.specs.FirstCome.{outcome, state_at as run_at, answer_at as run_answer}
use Rattle.mix_rules.proofs.FirstComeLemmas.{kept, first_come}
use Rattle.savi_access.specs.Rows.{state_in}
use Rattle.savi_access.specs.Bases.{AddrRules, AddrBase}
use Rattle.savi_kinds.specs.Orders.{AreInTurn}
use Rattle.savi_access.specs.NamedMarks.{Named, marks_on, named_moment}
use Rattle.savi_access.specs.States.{outcome_by, state_of, state_at}
use Rattle.savi_access.specs.FirstCome.{IsKeptOn}
use Rattle.savi_access.proofs.MarksOn.{marks_on-append, run_on, own_run}

module _ (r : AddrRules) (base : AddrBase) (times : AreTimes r.times) (vlan a : ℕ) (m : Method) (is : r.method_of vlan a ≡ Some m) (sound : IsSoundFor m (state_in (base.rows vlan) a)) where
  own_at : (past : List Named) (t : ℕ) → state_at r base past t vlan a ≡ run_at m r.times (state_in (base.rows vlan) a) (marks_on vlan a past) t
  own_at past t = ap (λ s. (aged_state r.times t s).state) (own_run r base vlan a m past is)

  own_joined : (late early : List Named) (t : ℕ) → state_at r base (late ++ early) t vlan a ≡ run_at m r.times (state_in (base.rows vlan) a) (marks_on vlan a late ++ marks_on vlan a early) t
  own_joined late early t = own_at (late ++ early) t ∙ ap (λ marks. run_at m r.times (state_in (base.rows vlan) a) marks t) (marks_on-append vlan a late early)

  module _ (from t0 : ℕ) (early late : List Named) (before : AreInTurn named_moment from t0 early) (port : Port) (live : IsLiveAt (state_at r base early t0 vlan a) port) where
    own_live : IsLiveAt (run_at m r.times (state_in (base.rows vlan) a) (marks_on vlan a early) t0) port
    own_live = subst (λ s. IsLiveAt s port) (own_at early t0) live

    pub keeps : (t : ℕ) → AreInTurn named_moment t0 t late → ¬ IsLiveAt (state_at r base (late ++ early) t vlan a) port → IsKeptOn r base m early t0 late t vlan a port
    keeps t run over =
        kept m r.times times (state_in (base.rows vlan) a) sound from t0 (marks_on vlan a early) (run_on vlan a from t0 early before) port t (marks_on vlan a late) (run_on vlan a t0 t late run) own_live
        (subst (λ s. ¬ IsLiveAt s port) (own_joined late early t) over)

    -- a packet of the address at another port that passes
    pub keeps_from : (mark : TimedEvent) (q : Port) → AreInTurn named_moment t0 mark.moment late → mark.event ≡ Sent q → ¬ Same q port → IsPassing (outcome_by (r.method_of vlan a) r.times mark (state_of r base (late ++ early) vlan a)).0 → IsKeptOn r base m early t0 late mark.moment vlan a port
    keeps_from mark q run sent differ passing =
        let own : (outcome_by (r.method_of vlan a) r.times mark (state_of r base (late ++ early) vlan a)).0 ≡ run_answer m r.times (state_in (base.rows vlan) a) (marks_on vlan a late ++ marks_on vlan a early) mark =
        ap (λ method. (outcome_by method r.times mark (state_of r base (late ++ early) vlan a)).0) is
        ∙ ap (λ s. (outcome m r.times mark s).0) (own_run r base vlan a m (late ++ early) is)
        ∙ ap (λ marks. run_answer m r.times (state_in (base.rows vlan) a) marks mark) (marks_on-append vlan a late early) in
        first_come m r.times times (state_in (base.rows vlan) a) sound from t0 (marks_on vlan a early) (run_on vlan a from t0 early before) port mark (marks_on vlan a late) q sent differ (run_on vlan a t0 mark.moment late run) own_live
        (subst IsPassing own passing)
