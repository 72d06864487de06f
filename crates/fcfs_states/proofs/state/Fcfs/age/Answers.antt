use Rattle.std.proofs.Common.{◌≤◌, ◌<◌, sym, ◌∙◌, ap, arith}
use Rattle.fcfs_states.proofs.AgeingLemmas.{rested_none, rested_late, aged-is}
use Rattle.fcfs_states.proofs.AgesLemmas.{Ages-sound, Ages-rising}
use Rattle.fcfs_states.proofs.AgedSoFar.{with_probe, without_probe, all_done}
use Rattle.fcfs_states.proofs.state.Fcfs.age.Goals as goal

pub rows-preserved-in-Some-probe : goal.rows-preserved-in-Some-probe
rows-preserved-in-Some-probe c = with_probe c.args.k.now c.requires.times c.args.t c.requires.moment _ c.rows.self _ _ c.rows.invariant c.in-Some.due (sym c.in-Some.ensures.value) (let by : c.in-Some.due ≤ c.args.t = omega arith in by) c.passed-state.result.0 c.in-Some-probe.probe _ (ap (λ r. r.0) c.passed-state.ensures) (sym (ap (λ r. r.1) c.passed-state.ensures) ∙ c.in-Some-probe.is) c.push.ensures.items

pub rows-preserved : goal.rows-preserved
rows-preserved c = without_probe c.args.k.now c.requires.times c.args.t c.requires.moment _ c.rows.self _ _ c.rows.invariant c.in-Some.due (sym c.in-Some.ensures.value) (let by : c.in-Some.due ≤ c.args.t = omega arith in by) c.passed-state.result.0 (ap (λ r. r.0) c.passed-state.ensures) (sym (ap (λ r. r.1) c.passed-state.ensures) ∙ c.in_default-probe.is)

pub returns-then-due-t-clause-rows : goal.returns-then-due-t-clause-rows
returns-then-due-t-clause-rows c = all_done c.args.k.now c.requires.times c.args.t c.requires.moment _ _ _ _ c.rows.invariant (rested_late c.args.k.now c.requires.times c.args.t c.rows.self c.in-Some.due (sym c.in-Some.ensures.value) (let late : c.args.t < c.in-Some.due = omega arith in late))

pub returns-then-due-t-clause-value : goal.returns-then-due-t-clause-value
returns-then-due-t-clause-value c = aged-is c.args.k.now c.requires.times c.args.t (returns-then-due-t-clause-rows c)

pub returns-then-due-t-clause-sound : goal.returns-then-due-t-clause-sound
returns-then-due-t-clause-sound c = Ages-sound c.args.k.now c.args.t (returns-then-due-t-clause-rows c)

pub returns-in_default-clause-rows : goal.returns-in_default-clause-rows
returns-in_default-clause-rows c = all_done c.args.k.now c.requires.times c.args.t c.requires.moment _ _ _ _ c.rows.invariant (rested_none c.args.k.now c.args.t c.rows.self (sym c.in_default.ensures.value))

pub returns-in_default-clause-value : goal.returns-in_default-clause-value
returns-in_default-clause-value c = aged-is c.args.k.now c.requires.times c.args.t (returns-in_default-clause-rows c)

pub returns-then-due-t-clause-rising : goal.returns-then-due-t-clause-rising
returns-then-due-t-clause-rising c = Ages-rising c.args.k.now c.args.t c.requires.times (returns-then-due-t-clause-rows c)

pub returns-in_default-clause-rising : goal.returns-in_default-clause-rising
returns-in_default-clause-rising c = Ages-rising c.args.k.now c.args.t c.requires.times (returns-in_default-clause-rows c)
