use Rattle.std.proofs.Common.{◌≡◌, not, refl, sym, subst}
use Rattle.journal_check.specs.declared.answer.Checked.{Checked}
use Rattle.switch_run.specs.Audits.{audit_status}
use Rattle.switch_run.proofs.audits.status_by.Goals as goal

pub returns-in-Good : goal.returns-in-Good
returns-in-Good c = subst (λ (a : Checked). c.status_unless.result ≡ audit_status (not c.args.failed) a) (sym c.in-Good.is) c.status_unless.ensures

pub returns-in-Wrong : goal.returns-in-Wrong
returns-in-Wrong c = subst (λ (a : Checked). c.status_unless-in-Wrong.result ≡ audit_status (not c.args.failed) a) (sym c.in-Wrong.is) c.status_unless-in-Wrong.ensures

pub returns-in-BadLine : goal.returns-in-BadLine
returns-in-BadLine c = subst (λ (a : Checked). c.status_unless-in-BadLine.result ≡ audit_status (not c.args.failed) a) (sym c.in-BadLine.is) c.status_unless-in-BadLine.ensures

pub returns-in-Failed : goal.returns-in-Failed
returns-in-Failed c = subst (λ (a : Checked). 5 ≡ audit_status (not c.args.failed) a) (sym c.in-Failed.is) refl

pub returns-in-NoMemory : goal.returns-in-NoMemory
returns-in-NoMemory c = subst (λ (a : Checked). 1 ≡ audit_status (not c.args.failed) a) (sym c.in-NoMemory.is) refl
