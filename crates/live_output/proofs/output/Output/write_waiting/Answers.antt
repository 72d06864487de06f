use Rattle.std.proofs.Common.{ap, refl, subst, ◌∙◌}
use Rattle.savi_kinds.specs.declared.plan.Format.{Format}
use Rattle.savi_kinds.specs.declared.entry.Who.TheVariants.{Egress}
use Rattle.savi_kinds.specs.declared.entry.How.TheVariants as hows
use Rattle.savi_kinds.specs.Ports.{number_of}
use Rattle.savi_ends.specs.declared.sink.Put.TheVariants as put
use Rattle.savi_ends.specs.Writes.{Extends}
use Rattle.savi_history.specs.Legal.{IsLegal, IsOpen}
use Rattle.savi_history.specs.Passes.{egress_pass}
use Rattle.savi_core.specs.Machines.{base_of}
use Rattle.live_turns.specs.declared.kinds.DrainTurn.TheVariants as drains
use Rattle.live_turns.specs.TurnKinds.{DidEnd, ends_egress}
use Rattle.live_output.specs.OutputParts.{records_of}
use Rattle.live_turns.proofs.Entering.{drain_one, drain_state, end_one}
use Rattle.live_turns.proofs.MadeOnly.{made_both, made_by}
use Rattle.live_output.proofs.Rounds.{before_move, behind_move, drained_so, round_begun, round_ends, round_fails, round_idles, round_sends, round_unbegun}
use Rattle.live_output.proofs.output.Output.write_waiting.Goals as goal

-- behind the drain the egress goes on
pub end_pass-requires-in-Failed-write_taken-clause-open : goal.end_pass-requires-in-Failed-write_taken-clause-open
end_pass-requires-in-Failed-write_taken-clause-open g c =
    let core = c.args.core.now.core.value in
    let port = c.args.self.now.port in
    let now = c.drain.new.kept.core.value.past in
    before_move (λ plan base. IsOpen plan base now (Egress port)) core c.drain.new.kept.core.value c.drain.ensures.plan c.drain.ensures.checkpoint (record {
      known = c.requires.known;
      running = drain_state core.plan (base_of core) core.past now port c.drain.new.batch c.drain.result c.requires.running c.drain.ensures.did
          ∙ ap ends_egress c.in-Took.is;
    })

-- the header couldn't be written
pub returns-in-Failed-clause-stands : goal.returns-in-Failed-clause-stands
returns-in-Failed-clause-stands g c = λ before first legal goes_on stands.
    let core = c.args.core.now.core.value in
    let output = c.args.self.now in
    round_unbegun g.K.Sink.written g.K.Sink.faults core.plan before output.format output.port first core.past c.end_pass.new.kept.core.value.past (base_of core) goes_on legal c.end_pass.ensures.legal c.requires
    output.begun c.begin.new.self.begun output.sink c.begin.new.self.sink stands c.begin.ensures.begun (c.in-Failed.ensures.first refl) c.in-Failed.ensures.extends (c.in-Failed.ensures.cause refl) c.in-Failed.ensures.later
    c.end_pass.ensures.did

-- what waited was taken and written
pub returns-in-Done-write_taken-clause-stands : goal.returns-in-Done-write_taken-clause-stands
returns-in-Done-write_taken-clause-stands g c = λ before first legal goes_on stands.
    let core = c.args.core.now.core.value in
    let output = c.args.self.now in
    let batch = c.drain.new.batch in
    let wrote = c.in-Done-write_taken.ensures.writes in
    let sending = round_begun g.K.Sink.written g.K.Sink.faults core.plan before output.format output.port first core.past (base_of core) goes_on legal c.drain.ensures.legal c.requires
    output.begun output.sink c.begin.new.self.sink stands c.in-Done.ensures.extends (c.in-Done.ensures.still refl) in
    round_sends g.K.Sink.written g.K.Sink.faults core.plan before output.format output.port first core.past c.drain.new.kept.core.value.past (base_of core) goes_on batch (drained_so core.plan (base_of core) core.past c.drain.new.kept.core.value.past output.port batch c.drain.result drains.Took c.in-Took.is c.drain.ensures.did)
    c.begin.new.self.sink c.write_taken.new.self.sink c.write_taken.new.self.begun sending (c.write_taken.ensures.begun ∙ c.begin.ensures.begun)
    (subst (λ (f : Format). Extends put.Done (g.K.Sink.written c.begin.new.self.sink) (g.K.Sink.written c.write_taken.new.self.sink) (records_of f batch)) c.begin.ensures.format wrote.extends)
    (wrote.still refl)

-- it could not be written
pub returns-in-Failed-write_taken-clause-stands : goal.returns-in-Failed-write_taken-clause-stands
returns-in-Failed-write_taken-clause-stands g c = λ before first legal goes_on stands.
    let core = c.args.core.now.core.value in
    let output = c.args.self.now in
    let batch = c.drain.new.batch in
    let wrote = c.in-Failed-write_taken.ensures.writes in
    let mid = c.drain.new.kept.core.value.past in
    let sending = round_begun g.K.Sink.written g.K.Sink.faults core.plan before output.format output.port first core.past (base_of core) goes_on legal c.drain.ensures.legal c.requires
    output.begun output.sink c.begin.new.self.sink stands c.in-Done.ensures.extends (c.in-Done.ensures.still refl) in
    round_fails g.K.Sink.written g.K.Sink.faults core.plan before output.format output.port first core.past mid c.end_pass-in-Failed-write_taken.new.kept.core.value.past (base_of core) goes_on batch (drained_so core.plan (base_of core) core.past mid output.port batch c.drain.result drains.Took c.in-Took.is c.drain.ensures.did)
    c.begin.new.self.sink c.write_taken.new.self.sink c.write_taken.new.self.begun sending (c.write_taken.ensures.begun ∙ c.begin.ensures.begun)
    (subst (λ (f : Format). Extends put.Failed (g.K.Sink.written c.begin.new.self.sink) (g.K.Sink.written c.write_taken.new.self.sink) (records_of f batch)) c.begin.ensures.format wrote.extends)
    (wrote.cause refl) wrote.later
    (behind_move (λ plan base. IsLegal plan base mid) core c.drain.new.kept.core.value c.drain.ensures.plan c.drain.ensures.checkpoint c.end_pass-in-Failed-write_taken.ensures.legal)
    (behind_move (λ plan base. DidEnd (Egress output.port) hows.Failed plan base mid c.end_pass-in-Failed-write_taken.new.kept.core.value.past) core c.drain.new.kept.core.value c.drain.ensures.plan c.drain.ensures.checkpoint c.end_pass-in-Failed-write_taken.ensures.did)

-- nothing waited
pub returns-in-Idle-clause-stands : goal.returns-in-Idle-clause-stands
returns-in-Idle-clause-stands g c = λ before first legal goes_on stands.
    let core = c.args.core.now.core.value in
    let output = c.args.self.now in
    let batch = c.drain.new.batch in
    let now = c.drain.new.kept.core.value.past in
    let sending = round_begun g.K.Sink.written g.K.Sink.faults core.plan before output.format output.port first core.past (base_of core) goes_on legal c.drain.ensures.legal c.requires
    output.begun output.sink c.begin.new.self.sink stands c.in-Done.ensures.extends (c.in-Done.ensures.still refl) in
    round_idles g.K.Sink.written g.K.Sink.faults core.plan before output.format output.port first core.past now (base_of core) batch
    (drained_so core.plan (base_of core) core.past now output.port batch c.drain.result drains.Idle c.in-Idle.is c.drain.ensures.did) c.begin.new.self.sink c.begin.new.self.begun sending c.begin.ensures.begun

-- nothing waits, and nothing may be queued any more
pub returns-in-Ended-clause-stands : goal.returns-in-Ended-clause-stands
returns-in-Ended-clause-stands g c = λ before first legal goes_on stands.
    let core = c.args.core.now.core.value in
    let output = c.args.self.now in
    let batch = c.drain.new.batch in
    let now = c.drain.new.kept.core.value.past in
    let sending = round_begun g.K.Sink.written g.K.Sink.faults core.plan before output.format output.port first core.past (base_of core) goes_on legal c.drain.ensures.legal c.requires
    output.begun output.sink c.begin.new.self.sink stands c.in-Done.ensures.extends (c.in-Done.ensures.still refl) in
    round_ends g.K.Sink.written g.K.Sink.faults core.plan before output.format output.port first core.past now (base_of core) goes_on batch
    (drained_so core.plan (base_of core) core.past now output.port batch c.drain.result drains.Ended c.in-Ended.is c.drain.ensures.did) c.begin.new.self.sink c.begin.new.self.begun sending c.begin.ensures.begun

-- the rows that it adds

pub returns-in-Failed-clause-made : goal.returns-in-Failed-clause-made
returns-in-Failed-clause-made g c =
    let core = c.args.core.now.core.value in
    let who = Egress c.args.self.now.port in
    let now = c.end_pass.new.kept.core.value.past in
    made_by core.plan (base_of core) core.past now who (end_one core.plan (base_of core) core.past now who hows.Failed c.end_pass.ensures.did)

pub returns-in-Done-write_taken-clause-made : goal.returns-in-Done-write_taken-clause-made
returns-in-Done-write_taken-clause-made g c =
    let core = c.args.core.now.core.value in
    let port = c.args.self.now.port in
    let now = c.drain.new.kept.core.value.past in
    made_by core.plan (base_of core) core.past now (Egress port) (drain_one core.plan (base_of core) core.past now port c.drain.new.batch c.drain.result c.drain.ensures.did)

pub returns-in-Failed-write_taken-clause-made : goal.returns-in-Failed-write_taken-clause-made
returns-in-Failed-write_taken-clause-made g c =
    let core = c.args.core.now.core.value in
    let port = c.args.self.now.port in
    let mid = c.drain.new.kept.core.value.past in
    let now = c.end_pass-in-Failed-write_taken.new.kept.core.value.past in
    made_both (egress_pass core.plan (number_of port)) core.past mid now
    (made_by core.plan (base_of core) core.past mid (Egress port) (drain_one core.plan (base_of core) core.past mid port c.drain.new.batch c.drain.result c.drain.ensures.did))
    (made_by core.plan (base_of core) mid now (Egress port) (end_one core.plan (base_of core) mid now (Egress port) hows.Failed
    (behind_move (λ plan base. DidEnd (Egress port) hows.Failed plan base mid now) core c.drain.new.kept.core.value c.drain.ensures.plan c.drain.ensures.checkpoint c.end_pass-in-Failed-write_taken.ensures.did)))

pub returns-in-Idle-clause-made : goal.returns-in-Idle-clause-made
returns-in-Idle-clause-made g c =
    let core = c.args.core.now.core.value in
    let port = c.args.self.now.port in
    let now = c.drain.new.kept.core.value.past in
    made_by core.plan (base_of core) core.past now (Egress port) (drain_one core.plan (base_of core) core.past now port c.drain.new.batch c.drain.result c.drain.ensures.did)

pub returns-in-Ended-clause-made : goal.returns-in-Ended-clause-made
returns-in-Ended-clause-made g c =
    let core = c.args.core.now.core.value in
    let port = c.args.self.now.port in
    let now = c.drain.new.kept.core.value.past in
    made_by core.plan (base_of core) core.past now (Egress port) (drain_one core.plan (base_of core) core.past now port c.drain.new.batch c.drain.result c.drain.ensures.did)
