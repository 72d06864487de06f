use Rattle.std.proofs.Common.{refl, sym, subst}
use Rattle.intake_ring.specs.Sides.{taken_of}
use Rattle.live_control.specs.Sides.{SideStands}
use Rattle.live_control.specs.declared.side.ControlSide.{ControlSide}
use Rattle.live_control.proofs.Passing.{next_taken}
use Rattle.live_switch.proofs.Roundwise.{none_kept, side_fetched}
use Rattle.live_switch.proofs.rounds.fetch_from_ring.Goals.{then-is_none, else-is_none}
use Rattle.live_switch.proofs.rounds.fetch_from_ring.Goals as goal

pub returns-clause-stands : goal.returns-clause-stands
returns-clause-stands g c = λ plan segments first unended stands.
    let old = c.args.side.now in
    elim c.if-is_none.branch [
      | then-is_none w ↦
          let taken = w.try_take-side in
          let new : ControlSide g.row.K.Denot = record { taker = taken.new.self; kept = taken.result; sink = old.sink; passes_over = old.passes_over } in
          subst (λ (side : ControlSide g.row.K.Denot). SideStands g.K.Sink.written g.K.Sink.faults plan segments first side) (sym w.side-is)
          (side_fetched g.K.Sink.written g.K.Sink.faults plan segments first old new unended refl refl
          (λ entered was. next_taken entered (taken_of old.taker) (taken_of taken.new.self) old.kept taken.result (none_kept old.kept w.if-is_none.ensures) taken.ensures.taken was) stands)
      | else-is_none w ↦ subst (λ (side : ControlSide g.row.K.Denot). SideStands g.K.Sink.written g.K.Sink.faults plan segments first side) (sym w.side-is) stands
    ]
