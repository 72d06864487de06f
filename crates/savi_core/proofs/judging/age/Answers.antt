use Rattle.std.proofs.Common.{List, All, length, sym, ap, subst, ◌∙◌, arith}
use Rattle.savi_access.specs.Plans.{rules_of}
use Rattle.savi_core.specs.declared.vlan_set.VlanSet.{VlanSet}
use Rattle.savi_core.specs.Judges.{AgesUntil}
use Rattle.savi_core.specs.Rings.{Rings, uncounted}
use Rattle.savi_core.specs.VlanSets.{AllRepresent, AreAgedTo, IsQuietAt, stations_of_sets}
use Rattle.savi_core.proofs.AgedTo.{MakesRound, round_alone, round_ended}
use Rattle.savi_core.proofs.judging.age.Goals.{then-sets-gt1, else-sets-gt1}
use Rattle.savi_core.proofs.judging.age.Goals as goal

pub returns-clause-ready : goal.returns-clause-ready
returns-clause-ready c =
    elim c.if-sets-gt1.branch [
      | then-sets-gt1 w ↦
          let before = w.age_in_rounds.ensures.ready c.args.from c.requires.ready in
          c.age_each.ensures.ready before.0 (subst (AreAgedTo (rules_of c.args.plan.now) before.0) (sym w.sets-is) before.1)
      | else-sets-gt1 w ↦ c.age_each.ensures.ready c.args.from (subst (AreAgedTo (rules_of c.args.plan.now) c.args.from) (sym w.sets-is) c.requires.ready)
    ]

pub returns-clause-rest : goal.returns-clause-rest
returns-clause-rest c =
    c.age_each.ensures.rest
    ∙ elim c.if-sets-gt1.branch [
      | then-sets-gt1 w ↦ ap stations_of_sets w.sets-is ∙ w.age_in_rounds.ensures.rest
      | else-sets-gt1 w ↦ ap stations_of_sets w.sets-is
    ]

pub returns-clause-aged : goal.returns-clause-aged
returns-clause-aged c = λ base past stands order.
    let r = rules_of c.args.plan.now in
    let from = c.args.from in
    let t = c.args.t in
    let first = c.args.queues.now in
    let sets = c.if-sets-gt1.sets in
    let rings = c.if-sets-gt1.queues in
    let made : MakesRound (rules_of c.args.plan.now) c.args.t c.if-sets-gt1.sets c.age_each.new.sets c.if-sets-gt1.queues c.age_each.new.queues =
    record { ready = c.age_each.ensures.ready; rest = c.age_each.ensures.rest; kept = c.age_each.ensures.kept; sent = c.age_each.ensures.sent } in
    elim c.if-sets-gt1.branch [
      | then-sets-gt1 w ↦
          round_ended r t sets c.age_each.new.sets base past from first rings c.age_each.new.queues (subst (All (IsQuietAt c.args.t)) (sym w.sets-is) w.age_in_rounds.ensures.quiet) made
          (subst (λ (s : List VlanSet). AgesUntil (rules_of c.args.plan.now) c.args.from c.args.t s (uncounted c.args.queues.now) c.if-sets-gt1.queues base past) (sym w.sets-is)
          (subst (λ (q : Rings). AgesUntil (rules_of c.args.plan.now) c.args.from c.args.t w.age_in_rounds.new.sets (uncounted c.args.queues.now) q base past) (sym w.queues-is)
          (subst (λ (q : Rings). AgesUntil (rules_of c.args.plan.now) c.args.from c.args.t w.age_in_rounds.new.sets q w.age_in_rounds.new.queues base past) c.reset_counts.ensures
          (w.age_in_rounds.ensures.aged from base past c.requires.ready stands order))))
      | else-sets-gt1 w ↦
          round_alone r t sets c.age_each.new.sets base past from first rings c.age_each.new.queues (omega (arith, w.if-sets-gt1.false, ap length w.sets-is)) (w.queues-is ∙ c.reset_counts.ensures) order made
          (subst (AllRepresent (rules_of c.args.plan.now) base past c.args.from) (sym w.sets-is) stands)
    ]
