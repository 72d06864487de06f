use Rattle.std.proofs.Common.{◌<◌, length, arith}
use Rattle.port_worker.specs.declared.port_ends.PortEnds.{PortEnds}
use Rattle.port_worker.specs.Inputs.{IsReadAhead, IsLooked}
use Rattle.port_worker.proofs.SoFar.{pairs_more}
use Rattle.port_worker.proofs.Looks.{looked_at}
use Rattle.port_worker.proofs.looking.look_all.Goals as goal

pub loop-place-preserved : goal.loop-place-preserved
loop-place-preserved g c =
    let P = PortEnds g.row.S.Denot g.row.K.Denot g.row.C.Denot in
    let so_far = c.loop-place.invariant in
    let R : P → P → Type 0 = λ old new. IsLooked g.S.Source.left g.S.Source.faults old new × IsReadAhead new.ahead in
    let old = c.args.ports.now in
    let new = c.loop-place.ports in
    let place = c.loop-place.place in
    let inside : place < length new = omega arith in
    let looked = looked_at g.S.Source.left g.S.Source.faults place old new c.index-ports-place.result c.look.new.self R so_far inside c.look.ensures in
    pairs_more R place old new c.look.new.self so_far inside (looked, c.look.ensures.known)
