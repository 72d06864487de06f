use Rattle.std.proofs.Common.{refl, ◌∙◌}
use Rattle.parcel_ring.specs.Sides.{was_put}
use Rattle.port_reader.proofs.Going.{goes_first, left_row}
use Rattle.port_reader.proofs.reader.Reader.run.Goals as goal

pub loop-init : goal.loop-init
loop-init g c =
    let reader = c.args.self in
    record {
      rings = refl;
      goes = goes_first g.S.Source.left g.S.Source.faults g.C.Clock.readings reader.format reader.source reader.clock c.new-input.result (was_put reader.filler) c.new-input.ensures.source c.new-input.ensures.clock c.new-input.ensures.reader c.requires;
    }

pub returns-then-not-goes_on : goal.returns-then-not-goes_on
returns-then-not-goes_on g c =
    let reader = c.args.self in
    record {
      port = refl;
      format = refl;
      rings = c.put_next-goes_on.ensures.rings ∙ c.loop.invariant.rings;
      put = left_row g.S.Source.left g.S.Source.faults g.C.Clock.readings reader.format reader.source reader.clock c.put_next-goes_on.new.input (was_put c.put_next-goes_on.new.filler) c.into_ends-source.result.0 c.into_ends-source.result.1 c.put_next-goes_on.result
          c.if-not-goes_on.true (c.put_next-goes_on.ensures.left reader.format reader.source reader.clock c.loop.invariant.goes) c.into_ends-source.ensures.source c.into_ends-source.ensures.clock;
    }
