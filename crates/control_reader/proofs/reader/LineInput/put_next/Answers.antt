use Rattle.std.proofs.Common.{◌≡◌, ℕ, Bool, List, [], ◌∷◌, ◌++◌, take, refl, sym, subst, arith}
use Rattle.cli_lang.specs.Arrivals.{Line}
use Rattle.control_reader.specs.Heard.{Said, lines_put}
use Rattle.control_reader.specs.Progress.{GoesOnOrEnds}
use Rattle.control_reader.specs.declared.reader.LineInput.{LineInput}
use Rattle.control_reader.proofs.Going.{left_end, left_failed, left_line, left_malformed, left_overlong}
use Rattle.control_reader.proofs.reader.LineInput.put_next.Goals as goal

pub returns-in-Line-clause-left : goal.returns-in-Line-clause-left
returns-in-Line-clause-left g c = λ source clock goes.
    let e = c.in-Line.ensures in
    let line : Line = record { stamp = c.in-Line.stamp; command = take c.in-Line.len c.next.new.buf } in
    let new : LineInput g.row.S.Denot g.row.C.Denot = record { source = c.next.new.source; clock = c.next.new.clock; lines = c.next.new.self; buf = c.next.new.buf } in
    left_line g.S.Source.left g.S.Source.faults g.C.Clock.readings source clock c.args.self.now new (lines_put c.args.filler.now) (lines_put c.put_line.new.filler) goes e.octets.0 e.octets.1
    line e.octets.2.1 e.stamps (e.still (λ same. cc))
    (subst (λ (octets : List ℕ). lines_put c.put_line.new.filler ≡ lines_put c.args.filler.now ++ Said (record { stamp = c.in-Line.stamp; command = octets }) ∷ []) (grind arith) c.put_line.ensures.put)
    c.is_quit.result (grind arith)

pub returns-in-End-clause-left : goal.returns-in-End-clause-left
returns-in-End-clause-left g c = λ source clock goes.
    let e = c.in-End.ensures in
    let new : LineInput g.row.S.Denot g.row.C.Denot = record { source = c.next.new.source; clock = c.next.new.clock; lines = c.next.new.self; buf = c.next.new.buf } in
    subst (λ (b : Bool). GoesOnOrEnds g.S.Source.left g.S.Source.faults g.C.Clock.readings source clock new (lines_put c.put_end.new.filler) b) (sym c.put_end.ensures.over)
    (left_end g.S.Source.left g.S.Source.faults g.C.Clock.readings source clock c.args.self.now new (lines_put c.args.filler.now) (lines_put c.put_end.new.filler) goes e.octets.0 e.octets.1
    e.octets.2 c.put_end.ensures.put e.stamps (e.still (λ same. cc)))

pub returns-in-Malformed-clause-left : goal.returns-in-Malformed-clause-left
returns-in-Malformed-clause-left g c = λ source clock goes.
    let e = c.in-Malformed.ensures in
    let put = c.put_end-in-Malformed in
    let new : LineInput g.row.S.Denot g.row.C.Denot = record { source = c.next.new.source; clock = c.next.new.clock; lines = c.next.new.self; buf = c.next.new.buf } in
    subst (λ (b : Bool). GoesOnOrEnds g.S.Source.left g.S.Source.faults g.C.Clock.readings source clock new (lines_put put.new.filler) b) (sym put.ensures.over)
    (left_malformed g.S.Source.left g.S.Source.faults g.C.Clock.readings source clock c.args.self.now new (lines_put c.args.filler.now) (lines_put put.new.filler) goes e.octets.0 e.octets.1
    c.in-Malformed.at e.octets.2 put.ensures.put e.stamps (e.still (λ same. cc)))

pub returns-in-Overlong-clause-left : goal.returns-in-Overlong-clause-left
returns-in-Overlong-clause-left g c = λ source clock goes.
    let e = c.in-Overlong.ensures in
    let put = c.put_end-in-Overlong in
    let new : LineInput g.row.S.Denot g.row.C.Denot = record { source = c.next.new.source; clock = c.next.new.clock; lines = c.next.new.self; buf = c.next.new.buf } in
    subst (λ (b : Bool). GoesOnOrEnds g.S.Source.left g.S.Source.faults g.C.Clock.readings source clock new (lines_put put.new.filler) b) (sym put.ensures.over)
    (left_overlong g.S.Source.left g.S.Source.faults g.C.Clock.readings source clock c.args.self.now new (lines_put c.args.filler.now) (lines_put put.new.filler) goes e.octets.0 e.octets.1
    c.in-Overlong.at e.octets.2 put.ensures.put e.stamps (e.still (λ same. cc)))

pub returns-in-Failed-clause-left : goal.returns-in-Failed-clause-left
returns-in-Failed-clause-left g c = λ source clock goes.
    let e = c.in-Failed.ensures in
    let put = c.put_end-in-Failed in
    let new : LineInput g.row.S.Denot g.row.C.Denot = record { source = c.next.new.source; clock = c.next.new.clock; lines = c.next.new.self; buf = c.next.new.buf } in
    subst (λ (b : Bool). GoesOnOrEnds g.S.Source.left g.S.Source.faults g.C.Clock.readings source clock new (lines_put put.new.filler) b) (sym put.ensures.over)
    (left_failed g.S.Source.left g.S.Source.faults g.C.Clock.readings source clock c.args.self.now new (lines_put c.args.filler.now) (lines_put put.new.filler) goes e.octets.0 e.octets.1
    e.octets.2.1 put.ensures.put e.stamps e.later (e.cause refl goes.unbroken))
