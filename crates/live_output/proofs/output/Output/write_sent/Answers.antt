use Rattle.std.proofs.Common.{◌≡◌, List, [], ◌∷◌, Bool, true, false, refl, sym, subst, ◌∙◌}
use Rattle.savi_kinds.specs.declared.plan.Format.{Format}
use Rattle.savi_kinds.specs.Ports.{number_of}
use Rattle.savi_ends.specs.declared.sink.Put.TheVariants as put
use Rattle.savi_ends.specs.Writes.{Extends}
use Rattle.savi_kinds.specs.declared.entry.Who.TheVariants.{Egress}
use Rattle.savi_kinds.specs.declared.entry.How.TheVariants as hows
use Rattle.hist_store.specs.Rows.{Row}
use Rattle.checkpoint.specs.Bases.{Base}
use Rattle.savi_history.specs.Passes.{egress_pass, has_ended}
use Rattle.savi_segments.specs.Segments.{base_after}
use Rattle.core_keep.specs.Seen.{past_seen}
use Rattle.live_session.specs.Standing.{OutputStands}
use Rattle.live_turns.specs.declared.kinds.DrainTurn.TheVariants as drains
use Rattle.live_turns.specs.Seats.{lock_plan}
use Rattle.live_turns.specs.TurnKinds.{DidDrain, DidEnd}
use Rattle.live_turns.proofs.OverSegments.{did_so, found_legal}
use Rattle.live_output.specs.OutputParts.{records_of}
use Rattle.live_output.proofs.Sending.{IsSending, sending_begun, sending_ends, sending_later, sending_sends, sending_starts, unbegun_fails, unsent_fails}
use Rattle.live_output.proofs.Turning.{at_as, turned_as}
use Rattle.live_output.proofs.output.Output.write_sent.Goals as goal

-- the header couldn't be written
pub returns-in-Failed-clause-stands : goal.returns-in-Failed-clause-stands
returns-in-Failed-clause-stands g c = λ before first legal goes_on stands.
    let lock = c.args.lock.now in
    let plan = lock_plan lock in
    let output = c.args.self.now in
    let t = c.end_turn.ensures.turned in
    let Did = DidEnd (Egress output.port) hows.Failed in
    let found_is = found_legal lock (Egress output.port) c.args.turns.pass c.end_turn.result.pass Did before goes_on t in
    let runs : has_ended (base_after plan before) (egress_pass plan (number_of output.port)) [] ≡ false =
    subst (λ (x : Base × List Row). has_ended x.0 (egress_pass plan (number_of output.port)) x.1 ≡ false) (λ i. (goes_on i, c.requires.nothing i)) c.requires.running.state in
    let starts = sending_starts g.K.Sink.written g.K.Sink.faults plan before output.format output.port first (past_seen c.args.turns.pass) output.begun output.sink c.requires.nothing legal c.requires.running.known runs stands in
    let later = sending_later g.K.Sink.written g.K.Sink.faults plan before output.format output.port first (past_seen c.args.turns.pass) t.found found_is t.later output.begun output.sink starts in
    subst (λ (begun : Bool). OutputStands g.K.Sink.written g.K.Sink.faults output.format plan (number_of output.port) (past_seen c.end_turn.result.pass ∷ before) begun first c.begin.new.self.sink) (sym c.begin.ensures.begun)
    (unbegun_fails g.K.Sink.written g.K.Sink.faults plan before output.format output.port first t.found (past_seen c.end_turn.result.pass) output.begun output.sink c.begin.new.self.sink later (c.in-Failed.ensures.first refl)
    c.in-Failed.ensures.extends (c.in-Failed.ensures.cause refl) c.in-Failed.ensures.later
    (did_so lock (Egress output.port) c.args.turns.pass c.end_turn.result.pass Did before goes_on t))

pub loop-init : goal.loop-init
loop-init g c = record {
  port = c.begin.ensures.port;
  format = c.begin.ensures.format;
  begun = c.begin.ensures.begun;
  running = c.requires.running;
  sending = λ before first legal goes_on stands.
      let plan = lock_plan c.args.lock.now in
      let output = c.args.self.now in
      let runs : has_ended (base_after plan before) (egress_pass plan (number_of output.port)) [] ≡ false =
      subst (λ (x : Base × List Row). has_ended x.0 (egress_pass plan (number_of output.port)) x.1 ≡ false) (λ i. (goes_on i, c.requires.nothing i)) c.requires.running.state in
      sending_begun g.K.Sink.written g.K.Sink.faults plan before output.format output.port first (past_seen c.args.turns.pass) output.begun output.sink c.begin.new.self.sink
      (sending_starts g.K.Sink.written g.K.Sink.faults plan before output.format output.port first (past_seen c.args.turns.pass) output.begun output.sink c.requires.nothing legal c.requires.running.known runs stands)
      c.in-Done.ensures.extends (c.in-Done.ensures.still refl);
}

-- what waited was taken and written
pub loop-preserved-in-Done-write_taken : goal.loop-preserved-in-Done-write_taken
loop-preserved-in-Done-write_taken g c =
    let lock = c.args.lock.now in
    let output = c.args.self.now in
    let pass = c.loop.turns.pass in
    let next = c.drain_turn-next.result.0.pass in
    let batch = c.drain_turn-next.new.batch in
    let t = turned_as lock (Egress output.port) pass next output.port batch c.drain_turn-next.result.1 drains.Took c.in-Took.is c.drain_turn-next.ensures.turned in
    let Did = DidDrain output.port batch drains.Took in
    record {
      port = c.write_taken.ensures.port ∙ c.loop.invariant.port;
      format = c.write_taken.ensures.format ∙ c.loop.invariant.format;
      begun = c.write_taken.ensures.begun ∙ c.loop.invariant.begun;
      running = at_as lock (Egress output.port) next c.drain_turn-next.result.1 drains.Took c.in-Took.is c.drain_turn-next.ensures.state;
      sending = λ before first legal goes_on stands.
          let found_is = found_legal lock (Egress output.port) pass next Did before goes_on t in
          let did = did_so lock (Egress output.port) pass next Did before goes_on t in
          let later = sending_later g.K.Sink.written g.K.Sink.faults (lock_plan lock) before output.format output.port first (past_seen pass) t.found found_is t.later true c.loop.self.sink (c.loop.invariant.sending before first legal goes_on stands) in
          sending_sends g.K.Sink.written g.K.Sink.faults (lock_plan lock) before output.format output.port first t.found batch (past_seen next) did.1 did.2 c.loop.self.sink c.write_taken.new.self.sink later
          (subst (λ (f : Format). Extends put.Done (g.K.Sink.written c.loop.self.sink) (g.K.Sink.written c.write_taken.new.self.sink) (records_of f batch)) c.loop.invariant.format c.in-Done-write_taken.ensures.writes.extends)
          (c.in-Done-write_taken.ensures.writes.still refl);
    }

-- it could not be written
pub returns-in-Failed-write_taken-clause-stands : goal.returns-in-Failed-write_taken-clause-stands
returns-in-Failed-write_taken-clause-stands g c = λ before first legal goes_on stands.
    let lock = c.args.lock.now in
    let plan = lock_plan lock in
    let output = c.args.self.now in
    let pass = c.loop.turns.pass in
    let next = c.drain_turn-next.result.0.pass in
    let last = c.end_turn-in-Failed-write_taken.result.pass in
    let batch = c.drain_turn-next.new.batch in
    let t = turned_as lock (Egress output.port) pass next output.port batch c.drain_turn-next.result.1 drains.Took c.in-Took.is c.drain_turn-next.ensures.turned in
    let e = c.end_turn-in-Failed-write_taken.ensures.turned in
    let Did = DidDrain output.port batch drains.Took in
    let Ends = DidEnd (Egress output.port) hows.Failed in
    let did = did_so lock (Egress output.port) pass next Did before goes_on t in
    let later = sending_later g.K.Sink.written g.K.Sink.faults plan before output.format output.port first (past_seen pass) t.found (found_legal lock (Egress output.port) pass next Did before goes_on t) t.later true c.loop.self.sink
    (c.loop.invariant.sending before first legal goes_on stands) in
    let wrote = c.in-Failed-write_taken.ensures.writes in
    subst (λ (begun : Bool). OutputStands g.K.Sink.written g.K.Sink.faults output.format plan (number_of output.port) (past_seen last ∷ before) begun first c.write_taken.new.self.sink)
    (sym (c.write_taken.ensures.begun ∙ c.loop.invariant.begun))
    (unsent_fails g.K.Sink.written g.K.Sink.faults plan before output.format output.port first t.found batch (past_seen next) did.1 did.2 c.loop.self.sink c.write_taken.new.self.sink later
    (subst (λ (f : Format). Extends put.Failed (g.K.Sink.written c.loop.self.sink) (g.K.Sink.written c.write_taken.new.self.sink) (records_of f batch)) c.loop.invariant.format wrote.extends)
    (wrote.cause refl) wrote.later e.found (past_seen last) (found_legal lock (Egress output.port) next last Ends before goes_on e) e.later
    (did_so lock (Egress output.port) next last Ends before goes_on e))

-- nothing waited
pub loop-preserved : goal.loop-preserved
loop-preserved g c =
    let lock = c.args.lock.now in
    let output = c.args.self.now in
    let pass = c.loop.turns.pass in
    let next = c.drain_turn-next.result.0.pass in
    let batch = c.drain_turn-next.new.batch in
    let t = turned_as lock (Egress output.port) pass next output.port batch c.drain_turn-next.result.1 drains.Idle c.in-Idle.is c.drain_turn-next.ensures.turned in
    let Did = DidDrain output.port batch drains.Idle in
    record {
      port = c.loop.invariant.port;
      format = c.loop.invariant.format;
      begun = c.loop.invariant.begun;
      running = at_as lock (Egress output.port) next c.drain_turn-next.result.1 drains.Idle c.in-Idle.is c.drain_turn-next.ensures.state;
      sending = λ before first legal goes_on stands.
          let did = did_so lock (Egress output.port) pass next Did before goes_on t in
          subst (λ (past : List Row). IsSending g.K.Sink.written g.K.Sink.faults (lock_plan lock) before output.format output.port first past true c.loop.self.sink) (sym did.3)
          (sending_later g.K.Sink.written g.K.Sink.faults (lock_plan lock) before output.format output.port first (past_seen pass) t.found (found_legal lock (Egress output.port) pass next Did before goes_on t) t.later true c.loop.self.sink
          (c.loop.invariant.sending before first legal goes_on stands));
    }

-- nothing waits, and nothing may be queued any more
pub returns-in-Ended-clause-stands : goal.returns-in-Ended-clause-stands
returns-in-Ended-clause-stands g c = λ before first legal goes_on stands.
    let lock = c.args.lock.now in
    let plan = lock_plan lock in
    let output = c.args.self.now in
    let pass = c.loop.turns.pass in
    let next = c.drain_turn-next.result.0.pass in
    let batch = c.drain_turn-next.new.batch in
    let t = turned_as lock (Egress output.port) pass next output.port batch c.drain_turn-next.result.1 drains.Ended c.in-Ended.is c.drain_turn-next.ensures.turned in
    let Did = DidDrain output.port batch drains.Ended in
    let did = did_so lock (Egress output.port) pass next Did before goes_on t in
    let later = sending_later g.K.Sink.written g.K.Sink.faults plan before output.format output.port first (past_seen pass) t.found (found_legal lock (Egress output.port) pass next Did before goes_on t) t.later true c.loop.self.sink
    (c.loop.invariant.sending before first legal goes_on stands) in
    subst (λ (begun : Bool). OutputStands g.K.Sink.written g.K.Sink.faults output.format plan (number_of output.port) (past_seen next ∷ before) begun first c.loop.self.sink) (sym c.loop.invariant.begun)
    (sending_ends g.K.Sink.written g.K.Sink.faults plan before output.format output.port first t.found (past_seen next) c.loop.self.sink later did.3)
