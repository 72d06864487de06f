use Rattle.std.proofs.Common.{◌≡◌, ◌+◌, ◌<◌, ℕ, Option, List, get_or, length, sym, ap, subst, ◌∙◌, arith}
use Rattle.std.proofs.lemmas.List.{get_or_default}
use Rattle.addr_table.specs.Dues.{IsUndue, due_until, first_due}
use Rattle.savi_core.specs.declared.vlan_set.VlanSet.{VlanSet}
use Rattle.savi_core.proofs.AgedTo.{IsFirstBefore, first_more, taken_if}
use Rattle.savi_core.proofs.SetLoops.{kept_there}
use Rattle.savi_core.proofs.judging.first_due.Goals.{in-Some, in_default}
use Rattle.savi_core.proofs.judging.first_due.Goals as goal

pub loop-place-preserved : goal.loop-place-preserved
loop-place-preserved c =
    let t = c.args.t in
    let sets = c.args.sets.now in
    let i = c.loop-place.place in
    let first = c.loop-place.first in
    let answer = c.first_due.result in
    let one : VlanSet = get_or c.loop-place.sets c.loop-place.place c.index-sets-place.result in
    let was = c.loop-place.invariant in
    let inside : c.loop-place.place < length c.args.sets.now = c.loop-place-test.true in
    let looped : c.loop-place.place < length c.loop-place.sets = omega (arith, c.loop-place-test.true, ap length was.same) in
    let here : one ≡ get_or c.loop-place.sets c.loop-place.place one = get_or_default c.loop-place.sets i c.index-sets-place.result one looped in
    let there : one ≡ get_or c.args.sets.now c.loop-place.place one = here ∙ ap (λ (l : List VlanSet). get_or l c.loop-place.place one) was.same in
    let before : IsFirstBefore c.args.t c.loop-place.place c.args.sets.now c.loop-place.first = record { within = was.within; due = was.due; quiet = was.quiet; later = was.later } in
    let now : IsFirstBefore c.args.t (c.loop-place.place + 1) c.args.sets.now (taken_if c.loop-place.first c.first_due.result) =
    first_more t i sets first answer one inside there
    (c.first_due.ensures.due ∙ ap (λ (u : ℕ). due_until u (first_due one.access.addresses.times one.access.addresses.rows)) c.unwrap_or.ensures)
    (λ u undue. c.first_due.ensures.quiet u (subst (λ (n : ℕ). IsUndue c.first_due.result n u) (sym c.unwrap_or.ensures) undue)) c.first_due.ensures.later before in
    let after : IsFirstBefore c.args.t (c.loop-place.place + 1) c.args.sets.now c.match-first_due.first =
    elim c.match-first_due.branch [
      | in-Some w ↦ subst (λ (o : Option ℕ). IsFirstBefore c.args.t (c.loop-place.place + 1) c.args.sets.now o) (ap (taken_if c.loop-place.first) w.in-Some.is ∙ sym w.first-is) now
      | in_default w ↦ subst (λ (o : Option ℕ). IsFirstBefore c.args.t (c.loop-place.place + 1) c.args.sets.now o) (ap (taken_if c.loop-place.first) w.in_default.is ∙ sym w.first-is) now
    ] in
    record {
      same = kept_there c.loop-place.sets i one c.first_due.new.self here c.first_due.ensures.same ∙ was.same;
      within = after.within;
      due = after.due;
      quiet = after.quiet;
      later = after.later;
    }

pub returns-clause-quiet : goal.returns-clause-quiet
returns-clause-quiet c = λ u undue. λ k d inside.
    c.loop-place.invariant.quiet u undue k d (omega (arith, inside, c.loop-place-test.false, ap length c.loop-place.invariant.same))
