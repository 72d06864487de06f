use Rattle.std.proofs.Common.{◌≡◌, ℕ, List, sym, ap, ◌∙◌, subst}
use Rattle.journal_check.specs.declared.answer.Checked.{Checked}
use Rattle.switch_report.specs.CheckLines.{wrong_line}
use Rattle.switch_run.specs.Audits.{closing_line}
use Rattle.switch_run.proofs.audits.put_closing.Goals as goal

pub returns-in-Good : goal.returns-in-Good
returns-in-Good c = subst (λ (a : Checked). c.put_audited.result.items ≡ closing_line c.args.frames c.args.violations a) (sym c.in-Good.is) c.put_audited.ensures

pub returns-in-Wrong : goal.returns-in-Wrong
returns-in-Wrong c =
    subst (λ (a : Checked). c.put_wrong.result.items ≡ closing_line c.args.frames c.args.violations a) (sym c.in-Wrong.is)
    (c.put_wrong.ensures
    ∙ ap (λ (w : List ℕ). wrong_line c.in-Wrong.entry w c.as_str-in-Wrong.result.now) c.as_str.ensures.text
    ∙ ap (λ (h : List ℕ). wrong_line c.in-Wrong.entry c.in-Wrong.want h) c.as_str-in-Wrong.ensures.text)

pub returns-in-BadLine : goal.returns-in-BadLine
returns-in-BadLine c = subst (λ (a : Checked). c.put_bad_line.result.items ≡ closing_line c.args.frames c.args.violations a) (sym c.in-BadLine.is) c.put_bad_line.ensures

pub returns-in-Failed : goal.returns-in-Failed
returns-in-Failed c = subst (λ (a : Checked). c.new.result.items ≡ closing_line c.args.frames c.args.violations a) (sym c.in-Failed.is) c.new.ensures

pub returns-in-NoMemory : goal.returns-in-NoMemory
returns-in-NoMemory c = subst (λ (a : Checked). c.new-in-NoMemory.result.items ≡ closing_line c.args.frames c.args.violations a) (sym c.in-NoMemory.is) c.new-in-NoMemory.ensures
