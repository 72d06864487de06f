use Rattle.std.proofs.Common.{◌∙◌}
use Rattle.switch_run.proofs.Splitting.{split_told, malformed_told, unopened_told}
use Rattle.switch_run.proofs.splits.tell_outcome.Goals as goal

pub returns-then-write_line-clause-told : goal.returns-then-write_line-clause-told
returns-then-write_line-clause-told g c =
    split_told g.W.K.Sink.written g.W.K.Sink.faults c.args.file.now c.args.errors.now c.args.outcome c.in-Split.counts c.as_slice.result.now c.write_line.result _ _
    c.in-Split.is c.if-write_line.true (c.as_slice.ensures.value ∙ c.put_counts.ensures) c.write_line.ensures.took

pub returns-else-not-write_line-clause-told : goal.returns-else-not-write_line-clause-told
returns-else-not-write_line-clause-told g c =
    malformed_told g.W.K.Sink.written g.W.K.Sink.faults c.args.file.now c.tell_malformed-put.result c.args.errors.now _ c.args.outcome c.in-Malformed.at c.in-Malformed.counts c.as_slice-in-Malformed.result.now c.write_line-in-Malformed.result _ _
    c.in-Malformed.is c.if-not-write_line.false (c.as_slice-in-Malformed.ensures.value ∙ c.put_counts-in-Malformed.ensures) c.write_line-in-Malformed.ensures.took
    c.tell_malformed-put.ensures.extends c.tell_malformed-put.ensures.cause

pub returns-in-NoOutput-clause-told : goal.returns-in-NoOutput-clause-told
returns-in-NoOutput-clause-told g c =
    unopened_told g.W.K.Sink.written g.W.K.Sink.faults c.args.file.now c.args.names.now c.tell_unopened-put.result c.args.errors.now _ c.args.outcome c.in-NoOutput.interface c.index-names-interface-in-NoOutput.result c.as_str-in-NoOutput.result.now _
    c.requires.names c.requires.named c.in-NoOutput.is c.index-names-interface-in-NoOutput.is c.as_str-in-NoOutput.ensures
    c.tell_unopened-put.ensures.extends c.tell_unopened-put.ensures.cause
