use Rattle.std.proofs.Common.{refl, sym, ap, subst, ◌∙◌}
use Rattle.intake_ring.specs.Sides.{filler_ring}
use Rattle.intake_ring.specs.declared.filler.Filler.{Filler}
use Rattle.control_reader.specs.Heard.{lines_put}
use Rattle.control_reader.specs.Rows.{WerePut}
use Rattle.control_reader.specs.declared.arrival.LineArrival.{LineArrival}
use Rattle.control_reader.proofs.Going.{goes_first, left_row}
use Rattle.control_reader.proofs.reader.LineReader.run.Goals as goal

pub loop-init : goal.loop-init
loop-init g c =
    let reader = c.args.self in
    record {
      ring = refl;
      goes = goes_first g.S.Source.left g.S.Source.faults g.C.Clock.readings reader.source reader.clock c.new-input.result (lines_put reader.filler) c.new-input.ensures.source c.new-input.ensures.clock c.new-input.ensures.unread c.requires;
    }

pub returns-then-not-goes_on : goal.returns-then-not-goes_on
returns-then-not-goes_on g c =
    let reader = c.args.self in
    let back = c.into_reader in
    let filler = c.put_next-goes_on.new.filler in
    record {
      ring = ap (λ (f : Filler LineArrival). filler_ring f) back.ensures.filler ∙ c.put_next-goes_on.ensures.ring ∙ c.loop.invariant.ring;
      put = subst (λ (f : Filler LineArrival). WerePut g.S.Source.left g.S.Source.faults g.C.Clock.readings (lines_put f) reader.source back.result.source reader.clock back.result.clock) (sym back.ensures.filler)
          (left_row g.S.Source.left g.S.Source.faults g.C.Clock.readings reader.source reader.clock c.put_next-goes_on.new.self (lines_put filler) back.result.source back.result.clock c.put_next-goes_on.result
          c.if-not-goes_on.true (c.put_next-goes_on.ensures.left reader.source reader.clock c.loop.invariant.goes) back.ensures.source back.ensures.clock);
    }
