use Rattle.std.proofs.Common.{◌-◌, ◌∙◌, map, sym, ap, arith}
use Rattle.std.specs.Prelude.{slice_get}
use Rattle.hist_store.specs.TextOfLines.{joined}
use Rattle.checkpoint.specs.Columns.{Columns, kept_base}
use Rattle.checkpoint.specs.BaseLines.{count_lines}
use Rattle.checkpoint.proofs.Heads.{head_text}
use Rattle.checkpoint.proofs.checkpoint.Checkpoint.put_head.Goals as goal

pub returns-in_default : goal.returns-in_default
returns-in_default c =
    c.put_count.ensures ∙ ap (λ (h : Columns). slice_get (map joined (count_lines h.counts)) (c.args.i - 2)) c.self.view_is
    ∙ sym (head_text (kept_base c.args.self.now) c.args.i (omega arith))
