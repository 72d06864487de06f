use Rattle.std.proofs.Common.{Option, Some, sym, subst}
use Rattle.savi_ends.specs.declared.world.Ends.{Ends}
use Rattle.control_reader.specs.declared.reader.LineReader.{LineReader}
use Rattle.live_control.specs.declared.side.ControlSide.{ControlSide}
use Rattle.live_switch.specs.Sharing.{AreLinesGathered, AreLinesMatched}
use Rattle.live_switch.proofs.Gathering.{line_gathered, line_there}
use Rattle.live_switch.proofs.sharing.gather_control.Goals as goal

pub unwrap-side-requires : goal.unwrap-side-requires
unwrap-side-requires g c =
    let matched : AreLinesMatched (Some c.in-Some.reader) c.args.worker.ends =
    subst (λ (o : Option (LineReader g.row.S.Denot g.row.C.Denot)). AreLinesMatched o c.args.worker.ends) c.in-Some.is c.requires in
    line_there c.in-Some.reader c.args.worker.ends matched

pub close-requires : goal.close-requires
close-requires g c =
    let reader = c.in-Some.reader in
    let matched : AreLinesMatched (Some reader) c.args.worker.ends =
    subst (λ (o : Option (LineReader g.row.S.Denot g.row.C.Denot)). AreLinesMatched o c.args.worker.ends) c.in-Some.is c.requires in
    subst (λ (o : Option (ControlSide g.row.K.Denot)). AreLinesMatched (Some reader) o) c.unwrap-side.ensures matched

pub returns : goal.returns
returns g c =
    let reader = c.in-Some.reader in
    let side = c.unwrap-side.result in
    let back : Option (Ends g.row.S.Denot g.row.K.Denot g.row.C.Denot) = Some (record { source = reader.source; sink = side.sink; clock = reader.clock }) in
    subst (λ (t : Option (LineReader g.row.S.Denot g.row.C.Denot) × Option (ControlSide g.row.K.Denot)). AreLinesGathered t.0 t.1 back)
    (λ i. (sym c.in-Some.is i, sym c.unwrap-side.ensures i)) (line_gathered reader side c.close.ensures)
