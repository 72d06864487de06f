use Rattle.std.proofs.Common.{ap, sym, ◌∙◌, subst}
use Rattle.savi_kinds.specs.declared.plan.Plan.{Plan}
use Rattle.savi_core.specs.Machines.{Machine}
use Rattle.journal_check.specs.Headers.{IsPlan}
use Rattle.journal_check.proofs.reading.make.Goals as goal

pub begin-requires : goal.begin-requires
begin-requires g c = subst IsPlan (sym (c.plan.ensures ∙ ap (λ (m : Machine). m.plan) c.in_ok-core.ensures)) c.requires

pub returns-clause-made : goal.returns-clause-made
returns-clause-made g c = (
  c.in_ok-core.ensures,
  subst (λ (p : Plan). g.W.Watcher.begins c.args.watcher.now p c.begin.new.self) (c.plan.ensures ∙ ap (λ (m : Machine). m.plan) c.in_ok-core.ensures) c.in_ok-begin.ensures.ok,
)
