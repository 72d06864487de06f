use Rattle.std.proofs.Common.{◌≡◌, ◌-◌, Bool, true, false, Some, map, sym, ap, ◌∙◌, arith}
use Rattle.std.specs.Prelude.{slice_get}
use Rattle.std.specs.Bool.{OnTrue}
use Rattle.hist_store.specs.TextOfLines.{joined}
use Rattle.checkpoint.specs.Columns.{Columns, kept_base}
use Rattle.checkpoint.specs.BaseLines.{base_texts, column_lines}
use Rattle.checkpoint.proofs.Found.{head_found, column_found}
use Rattle.checkpoint.proofs.checkpoint.Checkpoint.put_line.Goals as goal

-- what holds on true, by what follows
on_true : (b : Bool) (P Q : Type 0) → (P → Q) → OnTrue b P → OnTrue b Q
on_true true P Q then is = then is
on_true false P Q then is = tt

pub returns-then-i-lt-HEAD_LINES-clause-line : goal.returns-then-i-lt-HEAD_LINES-clause-line
returns-then-i-lt-HEAD_LINES-clause-line c =
    head_found c.args.plan.now (kept_base c.args.self.now) c.args.i c.put_head.new.into.items
    (sym (ap (λ (h : Columns). h.is_start) c.self.view_is) ∙ c.if-self.false) (omega arith) c.put_head.ensures

pub returns-clause-line : goal.returns-clause-line
returns-clause-line c =
    let plan = c.args.plan.now in
    let base = kept_base c.args.self.now in
    let text = c.put_behind_head.new.into.items in
    on_true c.put_behind_head.result (Some text ≡ slice_get (map joined (column_lines plan base)) (c.args.i - 29)) (Some text ≡ slice_get (base_texts plan base) c.args.i)
    (column_found plan base c.args.i text (sym (ap (λ (h : Columns). h.is_start) c.self.view_is) ∙ c.if-self.false) (omega arith)) c.put_behind_head.ensures.line

pub returns-clause-few : goal.returns-clause-few
returns-clause-few c = λ yes. omega (arith, c.put_behind_head.ensures.few yes)
