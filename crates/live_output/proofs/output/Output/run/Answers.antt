use Rattle.std.proofs.Common.{◌∷◌, ap, sym, subst, ◌∙◌}
use Rattle.savi_kinds.specs.Ports.{number_of}
use Rattle.savi_kinds.specs.declared.entry.Who.TheVariants.{Egress}
use Rattle.table_lock.specs.declared.pass.Pass.{Pass}
use Rattle.core_keep.specs.Seen.{past_seen}
use Rattle.live_session.specs.Standing.{OutputStands}
use Rattle.live_turns.specs.Seats.{IsRunning, lock_plan}
use Rattle.live_output.proofs.output.Output.run.Goals as goal

pub write_sent-turns-requires-clause-running : goal.write_sent-turns-requires-clause-running
write_sent-turns-requires-clause-running g c κs within =
    subst (λ (pass : Pass). IsRunning c.args.lock.now (Egress c.args.self.port) pass) (sym c.new-turns.ensures) (c.place_at_port.ensures.running c.args.lock.now c.requires)

pub write_sent-turns-requires-clause-nothing : goal.write_sent-turns-requires-clause-nothing
write_sent-turns-requires-clause-nothing g c κs within = ap past_seen c.new-turns.ensures ∙ c.place_at_port.ensures.seen ∙ c.requires.dealt.nothing

pub returns-clause-stands : goal.returns-clause-stands
returns-clause-stands g c = λ before first legal goes_on stands.
    let output = c.args.self in
    let now = c.write_sent-turns.new.self in
    subst (λ (pass : Pass). OutputStands g.K.Sink.written g.K.Sink.faults output.format (lock_plan c.args.lock.now) (number_of output.port) (past_seen pass ∷ before) now.begun first now.sink)
    (sym c.into_pass.ensures) (c.write_sent-turns.ensures.stands before first legal goes_on stands)
