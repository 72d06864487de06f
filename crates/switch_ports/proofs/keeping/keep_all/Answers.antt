use Rattle.std.proofs.Common.{arith, [], ◌∷◌, Some, ◌≡◌}
use Rattle.std.proofs.lemmas.List.{nil_from_length}
use Rattle.std.proofs.lemmas.List.Elements.{All-same}
use Rattle.savi_kinds.specs.Ports.{number_of}
use Rattle.savi_ends.specs.Places.{IsPortKept}
use Rattle.port_worker.specs.declared.port_ends.PortEnds.{PortEnds}
use Rattle.switch_ports.proofs.Keeps.{keeps_none, next_out, keep_step, keeps_all}
use Rattle.switch_ports.proofs.keeping.keep_all.Goals as goal

pub loop-one-init : goal.loop-one-init
loop-one-init g c = ([], keeps_none c.args.held.items (g.W.World.book c.args.world.now))

pub keep_port-requires : goal.keep_port-requires
keep_port-requires g c =
    let gone = c.loop-one.invariant.0 in
    let so_far = rw c.in-Some.ensures.items at c.loop-one.invariant.1 in
    rw c.into_parts-ends.ensures.port (next_out gone c.pop.new.self.items c.args.held.items c.in-Some.one _ _ c.requires.apart c.requires.out so_far)

pub loop-one-preserved : goal.loop-one-preserved
loop-one-preserved g c =
    let gone = c.loop-one.invariant.0 in
    let so_far = rw c.in-Some.ensures.items at c.loop-one.invariant.1 in (
      c.in-Some.one ∷ gone,
      keep_step gone c.pop.new.self.items c.args.held.items c.in-Some.one _ _ _ c.requires.apart so_far
          (rw (← c.into_parts-ends.ensures.port, ← c.into_parts-ends.ensures.ends) c.keep_port.ensures.kept)
          (rw (← c.into_parts-ends.ensures.port) c.keep_port.ensures.others)
          c.keep_port.ensures.rest,
    )

pub returns-clause-kept : goal.returns-clause-kept
returns-clause-kept g c =
    let S = g.row.W-S.Denot in
    let K = g.row.W-K.Denot in
    let C = g.row.W-C.Denot in
    let IsKept : PortEnds S K C → Type 0 = λ p. IsPortKept (g.W.World.book c.args.world.now).ports (g.W.World.book c.loop-one.world).ports (number_of p.port) p.ends in
    let gone = c.loop-one.invariant.0 in
    let none : c.loop-one.held.items ≡ [] = nil_from_length c.loop-one.held.items (omega (arith, c.in_default.ensures.cases.0, c.loop-one.held.ok.0)) in
    All-same IsKept c.args.held.items gone (keeps_all gone c.loop-one.held.items c.args.held.items _ _ none c.loop-one.invariant.1) c.loop-one.invariant.1.kept
