use Rattle.std.proofs.Common.{Bool, sym, subst}
use Rattle.savi_ends.specs.declared.sink.Put.TheVariants as put
use Rattle.savi_ends.specs.Writes.{Extends}
use Rattle.live_output.specs.OutputParts.{beginning_left}
use Rattle.live_session.proofs.StandsOn.{behind_none}
use Rattle.live_output.proofs.output.Output.begin.Goals as goal

-- nothing is left to be written
pub returns-then-self-clause-extends : goal.returns-then-self-clause-extends
returns-then-self-clause-extends g c =
    let output = c.args.self.now in
    subst (λ (begun : Bool). Extends put.Done (g.K.Sink.written output.sink) (g.K.Sink.written output.sink) (beginning_left begun output.format)) (sym c.if-self.true)
    (behind_none (g.K.Sink.written output.sink))

pub returns-clause-extends : goal.returns-clause-extends
returns-clause-extends g c =
    let output = c.args.self.now in
    subst (λ (begun : Bool). Extends c.begin.result (g.K.Sink.written output.sink) (g.K.Sink.written c.begin.new.sink) (beginning_left begun output.format)) (sym c.if-self.false)
    c.begin.ensures.extends
