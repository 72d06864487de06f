use Rattle.std.proofs.Common.{◌≡◌, ℕ, Some, Option, List, [], ap, sym, ◌∙◌}
use Rattle.std.specs.List.{slice_get}
use Rattle.fcfs_states.specs.declared.answer.Probe.{Probe}
use Rattle.fcfs_states.specs.Ageing.{probes_behind}
use Rattle.mix_rules.specs.Ageing.{AgedAddr, aged_state}
use Rattle.mix_rules.proofs.EndLemmas.{due-probe}
use Rattle.addr_table.proofs.States.{only_probe}
use Rattle.addr_table.proofs.stored.pass.Goals as goal

pub returns-clause-probe : goal.returns-clause-probe
returns-clause-probe c =
    let probes : List (ℕ × Probe) = (aged_state c.args.k.now c.args.due c.args.state.now).probes in
    let one : (probe : Option Probe) × (probes ≡ probes_behind c.args.due probe []) = due-probe c.args.k.now c.requires.times c.args.state.now c.args.due c.requires.first in
    let items : probes ≡ c.age-aged.result.probes.items = ap (λ (a : AgedAddr). a.probes) c.age-aged.ensures.value in
    let was : c.copied.result ≡ Some (c.in_ok-probe.field-0-0, c.in_ok-probe.probe) = c.in_ok-probe.was in
    let first : slice_get probes 0 ≡ Some (c.in_ok-probe.field-0-0, c.in_ok-probe.probe) = ap (λ ps. slice_get ps 0) (items ∙ sym c.deref.ensures.0) ∙ sym c.first.ensures.value ∙ sym c.copied.ensures ∙ was in
    only_probe c.args.due one.0 probes one.1 (c.in_ok-probe.field-0-0, c.in_ok-probe.probe) first
