use Rattle.std.proofs.Common.{map, ◌+◌, ◌∷◌, arith}
use Rattle.std.proofs.lemmas.List.{length-map}
use Rattle.port_worker.specs.Inputs.{turn_moment}
use Rattle.port_worker.specs.LineInputs.{control_moment}
use Rattle.port_worker.proofs.FirstOf.{none_of}
use Rattle.port_worker.proofs.choice.next_of.Goals as goal

pub returns-in-None-first : goal.returns-in-None-first
returns-in-None-first g c =
    let numbers = control_moment c.args.control.now ∷ map turn_moment c.args.ports.now in
    none_of numbers (c.loop-place.place + 1) c.loop-place.first c.loop-place.invariant c.in-None-first.is (omega (arith, length-map c.args.ports.now (turn_moment {S = g.row.S.Denot} {K = g.row.K.Denot} {C = g.row.C.Denot})))
