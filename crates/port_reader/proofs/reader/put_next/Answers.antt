use Rattle.std.proofs.Common.{ℕ, List, [], ◌∷◌, ◌++◌, ap, ◌∙◌}
use Rattle.savi_kinds.specs.Arrivals.{Frame}
use Rattle.parcel_ring.specs.Handed.{Arrived}
use Rattle.parcel_ring.specs.Sides.{was_put}
use Rattle.port_reader.proofs.Going.{left_end, left_failed, left_frame, left_long, left_malformed}
use Rattle.port_reader.proofs.reader.put_next.Goals as goal

pub returns-in-Frame-clause-left : goal.returns-in-Frame-clause-left
returns-in-Frame-clause-left g c = λ format source clock goes.
    left_frame g.S.Source.left g.S.Source.faults g.C.Clock.readings format source clock c.args.input.now c.read.new.self (was_put c.args.filler.now) (was_put c.put_frame.new.self) goes c.in-Frame.stamp c.in-Frame.len c.in-Frame.ensures.reads
    (c.put_frame.ensures.put ∙ ap (λ (octets : List ℕ). was_put c.args.filler.now ++ Arrived (Frame c.in-Frame.stamp octets) ∷ []) c.frame.ensures)

pub returns-in-Long-clause-left : goal.returns-in-Long-clause-left
returns-in-Long-clause-left g c = λ format source clock goes.
    left_long g.S.Source.left g.S.Source.faults g.C.Clock.readings format source clock c.args.input.now c.read.new.self (was_put c.args.filler.now) (was_put c.put_long.new.self) goes c.in-Long.stamp c.in-Long.len c.in-Long.ensures.reads c.put_long.ensures.put

pub returns-in-End-clause-left : goal.returns-in-End-clause-left
returns-in-End-clause-left g c = λ format source clock goes.
    left_end g.S.Source.left g.S.Source.faults g.C.Clock.readings format source clock c.args.input.now c.read.new.self (was_put c.args.filler.now) (was_put c.put_end.new.self) goes c.in-End.ensures.reads c.put_end.ensures.put

pub returns-in-Malformed-clause-left : goal.returns-in-Malformed-clause-left
returns-in-Malformed-clause-left g c = λ format source clock goes.
    left_malformed g.S.Source.left g.S.Source.faults g.C.Clock.readings format source clock c.args.input.now c.read.new.self (was_put c.args.filler.now) (was_put c.put_end-in-Malformed.new.self) goes c.in-Malformed.at c.in-Malformed.ensures.reads c.put_end-in-Malformed.ensures.put

pub returns-in-Failed-clause-left : goal.returns-in-Failed-clause-left
returns-in-Failed-clause-left g c = λ format source clock goes.
    left_failed g.S.Source.left g.S.Source.faults g.C.Clock.readings format source clock c.args.input.now c.read.new.self (was_put c.args.filler.now) (was_put c.put_end-in-Failed.new.self) goes c.in-Failed.ensures.reads c.put_end-in-Failed.ensures.put
