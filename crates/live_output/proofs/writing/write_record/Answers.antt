use Rattle.std.proofs.Common.{List, ℕ, subst}
use Rattle.savi_ends.specs.declared.sink.Put.TheVariants as put
use Rattle.savi_ends.specs.Writes.{Extends}
use Rattle.savi_core.specs.Batches.{item_with}
use Rattle.live_output.specs.OutputParts.{record_of}
use Rattle.live_output.proofs.Held.{failed_before, written_direct}
use Rattle.live_output.proofs.writing.write_record.Goals as goal

pub returns-in-Done-clause-done : goal.returns-in-Done-clause-done
returns-in-Done-clause-done g c =
    (written_direct (g.K.Sink.written c.args.sink.now) (g.K.Sink.written c.flush.new.sink) (g.K.Sink.written c.put.new.sink) c.add.new.self.octets.items c.args.gathered.now.octets.items
    (record_of c.args.format (item_with c.args.moment c.args.frame.now)) c.flush.new.self.octets.items c.if-add.ensures.full c.in-Done.ensures.emptied c.in-Done.ensures.extends c.put.result c.put.ensures.extends).0

pub returns-in-Done-clause-part : goal.returns-in-Done-clause-part
returns-in-Done-clause-part g c =
    (written_direct (g.K.Sink.written c.args.sink.now) (g.K.Sink.written c.flush.new.sink) (g.K.Sink.written c.put.new.sink) c.add.new.self.octets.items c.args.gathered.now.octets.items
    (record_of c.args.format (item_with c.args.moment c.args.frame.now)) c.flush.new.self.octets.items c.if-add.ensures.full c.in-Done.ensures.emptied c.in-Done.ensures.extends c.put.result c.put.ensures.extends).1

pub returns-in-Failed-clause-part : goal.returns-in-Failed-clause-part
returns-in-Failed-clause-part g c failed =
    failed_before (g.K.Sink.written c.args.sink.now) (g.K.Sink.written c.flush.new.sink) c.args.gathered.now.octets.items (record_of c.args.format (item_with c.args.moment c.args.frame.now))
    (subst (λ (l : List ℕ). Extends put.Failed (g.K.Sink.written c.args.sink.now) (g.K.Sink.written c.flush.new.sink) l) c.if-add.ensures.full c.in-Failed.ensures.extends)
