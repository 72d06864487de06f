use Rattle.std.proofs.Common.{◌≡◌, List}
use Rattle.savi_kinds.specs.declared.plan.Plan.{Plan}
use Rattle.hist_store.specs.Rows.{Row}
use Rattle.intake_ring.specs.Sides.{taker_ring}
use Rattle.live_control.specs.Sides.{SideStands}
use Rattle.live_control.proofs.side.ControlSide.pass_over_now.Given as goal

abbrev pub invariant-loop : goal.invariant-loop
invariant-loop g l = record {
  ring : taker_ring l.self.taker ≡ taker_ring l.fn.self.taker;
  stands : (plan : Plan) (segments : List (List Row)) (first : g.row.K.Denot) → SideStands g.K.Sink.written g.K.Sink.faults plan segments first l.fn.self
      → SideStands g.K.Sink.written g.K.Sink.faults plan segments first l.self;
}
