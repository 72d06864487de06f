use Rattle.std.proofs.Common.{◌≡◌, ◌<◌, ◌+◌, ℕ, Some, None, length, sym, ◌∙◌, subst, arith}
use Rattle.addr_index.specs.Homes.{home_of}
use Rattle.addr_index.specs.Ways.{IsOnWay, IsOffWay, IsRound}
use Rattle.addr_index.specs.Places.{in_place}
use Rattle.addr_index.proofs.Gaps.{ClosesGap}
use Rattle.addr_index.proofs.Closing.{closing_begun, closing_done, closing_kept, closing_moved, none_unless}
use Rattle.addr_index.proofs.Table.{read_place}
use Rattle.addr_index.proofs.places.close_gap.Goals as goal
use Rattle.addr_index.proofs.places.close_gap.Goals.{then-is_on_way, else-is_on_way}

pub loop-steps-init : goal.loop-steps-init
loop-steps-init c = closing_begun c.args.places.now c.args.emptied c.requires.within c.requires.empty c.requires.distinct c.requires.reached c.requires.sparse

pub returns-in_default-clause-reached : goal.returns-in_default-clause-reached
returns-in_default-clause-reached c =
    let size : length c.args.places.now ≡ length c.loop-steps.places = sym c.loop-steps.auto.places in
    let closes : ClosesGap (length c.loop-steps.places) c.args.places.now c.loop-steps.places c.args.emptied c.loop-steps.steps c.loop-steps.gap = subst (λ (n : ℕ). ClosesGap n c.args.places.now c.loop-steps.places c.args.emptied c.loop-steps.steps c.loop-steps.gap) size c.loop-steps.invariant in
    let none : in_place c.loop-steps.places c.round-at.result ≡ None = sym (read_place c.loop-steps.places c.round-at.result c.index-places-at.result c.round-at.ensures.within c.index-places-at.is) ∙ c.index-places-at.is ∙ sym c.entry.ensures ∙ none_unless c.entry.result c.in_default.not-Some in
    closing_done (length c.loop-steps.places) c.args.places.now c.loop-steps.places c.args.emptied c.loop-steps.steps c.loop-steps.gap c.round-at.result closes (omega (arith, size, c.requires.within)) (omega (arith, size, c.loop-steps-test.true, c.requires.sparse)) c.round-at.ensures none

pub loop-steps-preserved : goal.loop-steps-preserved
loop-steps-preserved c =
    let size : length c.loop-steps.places ≡ length c.args.places.now = c.loop-steps.auto.places in
    let round : IsRound (length c.args.places.now) (c.args.emptied + c.loop-steps.steps) c.round-at.result = subst (λ (n : ℕ). IsRound n (c.args.emptied + c.loop-steps.steps) c.round-at.result) size c.round-at.ensures in
    let home : c.home.result ≡ home_of c.in-Some.entry.address (length c.args.places.now) = subst (λ (n : ℕ). c.home.result ≡ home_of c.in-Some.entry.address n) size c.home.ensures.home in
    let within : c.loop-steps.steps < length c.args.places.now = omega (arith, c.loop-steps-test.true, c.requires.sparse) in
    let there : in_place c.loop-steps.places c.round-at.result ≡ Some c.in-Some.entry = sym (read_place c.loop-steps.places c.round-at.result c.index-places-at.result c.round-at.ensures.within c.index-places-at.is) ∙ c.index-places-at.is ∙ sym c.entry.ensures ∙ c.in-Some.is in
    elim c.if-is_on_way.branch [
      | then-is_on_way w ↦
          let on : IsOnWay (home_of c.in-Some.entry.address (length c.args.places.now)) c.round-at.result c.loop-steps.gap = subst (λ (h : ℕ). IsOnWay h c.round-at.result c.loop-steps.gap) home w.if-is_on_way.ensures in
          rw (w.places-is, w.gap-is, w.empty.ensures, w.of.ensures) (closing_moved (length c.args.places.now) c.args.places.now c.loop-steps.places c.args.emptied c.loop-steps.steps c.loop-steps.gap c.round-at.result c.in-Some.entry c.loop-steps.invariant c.requires.within within round there on)
      | else-is_on_way w ↦
          let off : IsOffWay (home_of c.in-Some.entry.address (length c.args.places.now)) c.round-at.result c.loop-steps.gap = subst (λ (h : ℕ). IsOffWay h c.round-at.result c.loop-steps.gap) home w.if-is_on_way.ensures in
          rw (w.places-is, w.gap-is) (closing_kept (length c.args.places.now) c.args.places.now c.loop-steps.places c.args.emptied c.loop-steps.steps c.loop-steps.gap c.round-at.result c.in-Some.entry c.loop-steps.invariant c.requires.within within round there off)
    ]
