use Rattle.std.proofs.Common.{◌↔◌, ◌+◌, true, nat_eq, length, sym, ◌∙◌, subst}
use Rattle.std.specs.Prelude.{IsTrue}
use Rattle.savi_kinds.specs.declared.entry.How.TheVariants.{Paused}
use Rattle.savi_kinds.specs.declared.entry.Who.{Who}
use Rattle.savi_history.specs.Legal.{MayEnd}
use Rattle.savi_core.specs.Machines.{base_of}
use Rattle.savi_core.proofs.Counting.{all_ended}
use Rattle.journal_check.proofs.OpenPasses.{none_open, pauses, waits}
use Rattle.journal_check.proofs.coming.may_pause.Goals as goal

pub returns-then-inputs_left-eq0 : goal.returns-then-inputs_left-eq0
returns-then-inputs_left-eq0 c =
    let m = c.args.core.now in
    let through = all_ended (base_of m) m.past (length m.plan.ports + 1) (sym c.inputs_left.ensures ∙ c.if-inputs_left-eq0.true) in
    subst (λ (who : Who). IsTrue c.has_pause.result ↔ MayEnd m.plan (base_of m) m.past who Paused) (sym c.in-Ticker.is)
    (pauses m.past c.has_pause.result through c.has_pause.ensures)

pub returns-else-inputs_left-eq0 : goal.returns-else-inputs_left-eq0
returns-else-inputs_left-eq0 c =
    let m = c.args.core.now in
    let left = c.inputs_left.result in
    subst (λ (who : Who). IsTrue (nat_eq left 0) ↔ MayEnd m.plan (base_of m) m.past who Paused) (sym c.in-Ticker.is)
    (waits m.past true left c.if-inputs_left-eq0.false (λ all. c.if-inputs_left-eq0.false (c.inputs_left.ensures ∙ none_open (base_of m) m.past (length m.plan.ports + 1) all)))
