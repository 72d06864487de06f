use Rattle.std.proofs.Common.{◌≡◌, ◌<◌, ◌≤◌, ℕ, Option, IfSome, List, All, sym, ap, subst, ◌∙◌, arith}
use Rattle.savi_access.specs.Plans.{rules_of}
use Rattle.addr_table.specs.Dues.{IsUndue, due_until}
use Rattle.savi_core.specs.declared.vlan_set.VlanSet.{VlanSet}
use Rattle.savi_core.specs.VlanSets.{AreAgedTo, IsQuietAt, IsStillAt, first_due_of, stations_of_sets}
use Rattle.savi_core.proofs.AgedTo.{HasAged, MakesRound, aged_none, has_aged, round_made, until_within}
use Rattle.savi_core.proofs.judging.age_in_rounds.Goals as goal

-- a moment that is due isn't behind the last one
by_last : (t : ℕ) (sets : List VlanSet) (first : Option ℕ) → first ≡ due_until t (first_due_of sets) → IfSome first (λ due. due ≤ t)
by_last t sets first is = subst (λ (o : Option ℕ). IfSome o (λ due. due ≤ t)) (sym is) (until_within t (first_due_of sets))

pub loop-next-init : goal.loop-next-init
loop-next-init c =
    let t = c.args.t in
    let sets = c.args.sets.now in
    let same = c.first_due-next.ensures.same in
    record {
      rest = ap stations_of_sets same;
      within = by_last t sets c.first_due-next.result c.first_due-next.ensures.due;
      quiet = λ u undue. subst (All (IsQuietAt u)) (sym same) (c.first_due-next.ensures.quiet u undue);
      later = subst (λ (s : List VlanSet). IfSome c.first_due-next.result (λ due. (u : ℕ) → All (IsStillAt u) s → u < due)) (sym same) c.first_due-next.ensures.later;
      ready = λ from ready. (from, subst (AreAgedTo (rules_of c.args.plan.now) from) (sym same) ready);
      aged = λ from base past ready stands order.
          subst (λ (s : List VlanSet). HasAged (rules_of c.args.plan.now) from c.args.t s c.args.queues.now c.args.queues.now base past) (sym same)
          (aged_none (rules_of c.args.plan.now) from t sets c.args.queues.now base past order ready stands);
    }

pub loop-next-preserved : goal.loop-next-preserved
loop-next-preserved c =
    let r = rules_of c.args.plan.now in
    let t = c.args.t in
    let was = c.loop-next.invariant in
    let due = c.in-Some.due in
    let aged = c.age_each.new.sets in
    let same = c.first_due-next-in-Some.ensures.same in
    let within : c.in-Some.due ≤ c.args.t = subst (λ (o : Option ℕ). IfSome o (λ n. n ≤ c.args.t)) c.in-Some.is was.within in
    let quiet : (u : ℕ) → u < c.in-Some.due → All (IsQuietAt u) c.loop-next.sets = λ u less. was.quiet u (subst (λ (o : Option ℕ). IsUndue o c.args.t u) (sym c.in-Some.is) less) in
    let later : (u : ℕ) → All (IsStillAt u) c.loop-next.sets → u < c.in-Some.due = subst (λ (o : Option ℕ). IfSome o (λ n. (u : ℕ) → All (IsStillAt u) c.loop-next.sets → u < n)) c.in-Some.is was.later in
    let made : MakesRound (rules_of c.args.plan.now) c.in-Some.due c.loop-next.sets c.age_each.new.sets c.loop-next.queues c.age_each.new.queues =
    record { ready = c.age_each.ensures.ready; rest = c.age_each.ensures.rest; kept = c.age_each.ensures.kept; sent = c.age_each.ensures.sent } in
    record {
      rest = ap stations_of_sets same ∙ c.age_each.ensures.rest ∙ was.rest;
      within = by_last t aged c.first_due-next-in-Some.result c.first_due-next-in-Some.ensures.due;
      quiet = λ u undue. subst (All (IsQuietAt u)) (sym same) (c.first_due-next-in-Some.ensures.quiet u undue);
      later = subst (λ (s : List VlanSet). IfSome c.first_due-next-in-Some.result (λ n. (u : ℕ) → All (IsStillAt u) s → u < n)) (sym same) c.first_due-next-in-Some.ensures.later;
      ready = λ from ready. let before = was.ready from ready in (due, subst (AreAgedTo (rules_of c.args.plan.now) c.in-Some.due) (sym same) (c.age_each.ensures.ready before.0 before.1));
      aged = λ from base past ready stands order.
          subst (λ (s : List VlanSet). HasAged (rules_of c.args.plan.now) from c.args.t s c.args.queues.now c.age_each.new.queues base past) (sym same)
          (round_made r t c.loop-next.sets aged base past due from c.args.queues.now c.loop-next.queues c.age_each.new.queues within quiet later made (was.aged from base past ready stands order));
    }

pub returns-clause-quiet : goal.returns-clause-quiet
returns-clause-quiet c = c.loop-next.invariant.quiet c.args.t (subst (λ (o : Option ℕ). IsUndue o c.args.t c.args.t) (sym c.in_default.is) (omega arith))

pub returns-clause-aged : goal.returns-clause-aged
returns-clause-aged c = λ from base past ready stands order.
    has_aged (rules_of c.args.plan.now) from c.args.t c.loop-next.sets c.args.queues.now c.loop-next.queues base past (c.loop-next.invariant.aged from base past ready stands order)
