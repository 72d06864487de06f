use Rattle.std.proofs.Common.{◌++◌, ◌+◌, ℕ, List, [], take, drop, refl, ap, sym, subst, ◌∙◌, arith}
use Rattle.std.proofs.lemmas.List.{take_all}
use Rattle.savi_ends.specs.declared.sink.Put.TheVariants as put
use Rattle.savi_ends.specs.Writes.{Extends}
use Rattle.savi_core.specs.Batches.{item_with}
use Rattle.live_output.specs.OutputParts.{record_of, records_of}
use Rattle.live_output.specs.Writing.{Holds}
use Rattle.live_output.proofs.Held.{holds_all, holds_more, failed_more, failed_before, flushed}
use Rattle.live_output.proofs.PartsJoined.{records_upto, records_split}
use Rattle.live_output.proofs.writing.write_batch.Goals as goal

pub loop-i-init : goal.loop-i-init
loop-i-init g c = record {
  still = refl;
  holds = subst (λ (l : List ℕ). Holds (g.K.Sink.written c.args.sink.now) (g.K.Sink.written c.args.sink.now) l []) (sym c.clear.ensures) (holds_all (g.K.Sink.written c.args.sink.now) []);
}

pub loop-i-preserved : goal.loop-i-preserved
loop-i-preserved g c =
    let record_is = record_of c.args.format (item_with c.item-moment.result.0 c.item-moment.result.1.now) in
    let upto = records_upto c.args.format c.args.batch.now c.loop-i.i (item_with c.item-moment.result.0 c.item-moment.result.1.now) (omega arith) c.item-moment.ensures.item in
    record {
      still = c.in-Done.ensures.still refl ∙ c.loop-i.invariant.still;
      holds = subst (λ (l : List ℕ). Holds (g.K.Sink.written c.args.sink.now) (g.K.Sink.written c.write_record.new.sink) c.write_record.new.gathered.octets.items l) (sym upto)
          (holds_more (g.K.Sink.written c.args.sink.now) (g.K.Sink.written c.loop-i.sink) (g.K.Sink.written c.write_record.new.sink) c.loop-i.gathered.octets.items (records_of c.args.format (take c.loop-i.i c.args.batch.now)) c.loop-i.invariant.holds
          c.write_record.new.gathered.octets.items record_is (c.in-Done.ensures.done refl));
    }

pub returns-in-Failed-clause-extends : goal.returns-in-Failed-clause-extends
returns-in-Failed-clause-extends g c =
    let old = g.K.Sink.written c.args.sink.now in
    let new = g.K.Sink.written c.write_record.new.sink in
    let i = c.loop-i.i in
    let batch = c.args.batch.now in
    let record_is = record_of c.args.format (item_with c.item-moment.result.0 c.item-moment.result.1.now) in
    let upto = records_upto c.args.format batch i (item_with c.item-moment.result.0 c.item-moment.result.1.now) (omega arith) c.item-moment.ensures.item in
    let here : Extends put.Failed old new (records_of c.args.format (take i batch) ++ record_is) =
    failed_more old (g.K.Sink.written c.loop-i.sink) new c.loop-i.gathered.octets.items (records_of c.args.format (take i batch)) c.loop-i.invariant.holds record_is (c.in-Failed.ensures.part refl) in
    subst (Extends put.Failed old new) (sym (records_split c.args.format batch (i + 1)))
    (failed_before old new (records_of c.args.format (take (i + 1) batch)) (records_of c.args.format (drop (i + 1) batch)) (subst (Extends put.Failed old new) (sym upto) here))

pub returns-clause-extends : goal.returns-clause-extends
returns-clause-extends g c =
    let whole = ap (records_of c.args.format) (take_all c.loop-i.i c.args.batch.now (omega arith)) in
    subst (λ (l : List ℕ). Extends c.flush.result (g.K.Sink.written c.args.sink.now) (g.K.Sink.written c.flush.new.sink) l) whole
    (flushed (g.K.Sink.written c.args.sink.now) (g.K.Sink.written c.loop-i.sink) (g.K.Sink.written c.flush.new.sink) c.loop-i.gathered.octets.items (records_of c.args.format (take c.loop-i.i c.args.batch.now)) c.loop-i.invariant.holds c.flush.result c.flush.ensures.extends)
