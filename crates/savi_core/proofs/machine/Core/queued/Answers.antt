use Rattle.std.proofs.Common.{◌≡◌, true, ap, sym, ◌∙◌}
use Rattle.savi_kinds.specs.Ports.{number_of}
use Rattle.savi_history.specs.Passes.{has_port}
use Rattle.savi_core.specs.Machines.{Machine}
use Rattle.savi_core.specs.Lanes.{no_lane}
use Rattle.savi_core.proofs.Remembering.{waits_at}
use Rattle.savi_core.proofs.Showing.{lane_in}
use Rattle.savi_core.proofs.machine.Core.queued.Goals as goal

pub len-requires : goal.len-requires
len-requires c =
    let inside = c.self.inside in
    let known : has_port inside.ports (number_of c.args.port) ≡ true = ap (λ (m : Machine). has_port m.plan (number_of c.args.port)) c.self.view_is ∙ c.requires in
    lane_in c.self.invariant.0.queues (number_of c.args.port) c.place_of.result known c.place_of.ensures.place

pub returns : goal.returns
returns c =
    let inside = c.self.inside in
    let number = number_of c.args.port in
    let known : has_port inside.ports number ≡ true = ap (λ (m : Machine). has_port m.plan number) c.self.view_is ∙ c.requires in
    rw (← c.self.view_is) (c.len.ensures ∙ sym (waits_at c.self.invariant.0 number c.place_of.result no_lane known c.place_of.ensures.place))
