use Rattle.std.proofs.Common.{inl, inr, refl}
use Rattle.switch_report.specs.RunLines.{memory_line}
use Rattle.switch_run.proofs.Loading.{load_summed}
use Rattle.switch_run.proofs.Recast.{told_by}
use Rattle.switch_run.proofs.loads.generate.Goals as goal

pub returns-in-Ok-clause-ran : goal.returns-in-Ok-clause-ran
returns-in-Ok-clause-ran g c =
    let replayed = c.in-Ok.ensures in
    record {
      did = inr (load_summed g.W.K.Sink.written g.W.K.Sink.faults c.args.seed c.args.frames c.args.errors.now c.in-Ok.loaded.core c.in-Ok.loaded.entries _ c.write_summary-written.result _ _ c.status_by.result
          c.counts_sum_segments_up.ensures replayed.plan replayed.replayed (replayed.ordinary c.requires.few) c.sum_up.ensures c.write_summary-written.ensures.took c.status_by.ensures);
      rest = c.write_summary-written.ensures.rest;
    }

pub returns-in-Err-clause-ran : goal.returns-in-Err-clause-ran
returns-in-Err-clause-ran g c = record {
  did = inl (record {
    one = refl;
    errors = told_by g.W.K.Sink.faults g.W.K.Sink.written c.tell_memory-put.result _ _ memory_line c.tell_memory-put.ensures.extends c.tell_memory-put.ensures.cause;
    out = refl;
  });
  rest = refl;
}
