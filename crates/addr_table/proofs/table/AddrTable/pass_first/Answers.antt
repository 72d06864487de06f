use Rattle.std.proofs.Common.{◌≡◌, [], ap, sym, ◌∙◌, subst}
use Rattle.fcfs_states.specs.Ageing.{probes_behind}
use Rattle.mix_rules.specs.Ageing.{due_next, aged_state}
use Rattle.savi_access.specs.Rows.{state_in}
use Rattle.bind_table.specs.Bindings.{Bindings}
use Rattle.addr_table.specs.Addresses.{Addresses}
use Rattle.savi_access.specs.Keeps.{IsWithinRules, StaySound}
use Rattle.addr_table.specs.OneTurn.{IsQuiet, TurnsOnce}
use Rattle.addr_table.proofs.Turning.{no_turn, own_due, turn_row, turn_pair, kept_turn, turn_sound, turn, armed_again, view_of}
use Rattle.addr_table.proofs.table.AddrTable.pass_first.Goals as goal

pub returns-in_err-due-clause-turn : goal.returns-in_err-due-clause-turn
returns-in_err-due-clause-turn c =
    let quiet : IsQuiet c.args.t c.args.self.now = subst (IsQuiet c.args.t) c.self.view_is (no_turn c.self.inside.times c.self.inside.per_port c.args.t c.self.inside.table c.self.inside.wheel c.self.invariant.0 c.self.invariant.1 c.in_err-due.ensures.value) in
    rw c.from_residual.ensures (c.self.view_is, quiet)

pub pass-probe-requires-clause-first : goal.pass-probe-requires-clause-first
pass-probe-requires-clause-first c =
    ap (due_next c.self.inside.times) c.get-state.ensures
    ∙ own_due c.self.inside.times c.self.inside.per_port c.args.t c.self.inside.table c.self.inside.wheel c.in_ok-due.due c.in_ok-due.address c.self.invariant.0 c.self.invariant.1 c.in_ok-due.ensures.value

pub set-requires-clause-row : goal.set-requires-clause-row
set-requires-clause-row c = turn_row c.self.inside.times c.self.inside.per_port c.args.t c.self.inside.table c.self.inside.wheel c.in_ok-due.due c.in_ok-due.address c.self.invariant.0 c.self.invariant.1 c.in_ok-due.ensures.value

pub set-requires-clause-pair : goal.set-requires-clause-pair
set-requires-clause-pair c =
    let aged : c.pass-probe.new.state ≡ (aged_state c.self.inside.times c.in_ok-due.due (state_in c.self.inside.table.rows c.in_ok-due.address.0)).state = c.pass-probe.ensures.state ∙ ap (λ s. (aged_state c.self.inside.times c.in_ok-due.due s).state) c.get-state.ensures in
    turn_pair c.self.inside.times c.self.inside.per_port c.args.t c.self.inside.table c.self.inside.wheel c.in_ok-due.due c.in_ok-due.address c.self.invariant.0 c.self.invariant.1 c.in_ok-due.ensures.value c.pass-probe.new.state aged c.pass-probe.ensures.fits c.next_due.new.self c.in_ok-due.ensures.arms

pub invariant_of-self-2 : goal.invariant_of-self-2
invariant_of-self-2 c =
    let aged : c.pass-probe.new.state ≡ (aged_state c.self.inside.times c.in_ok-due.due (state_in c.self.inside.table.rows c.in_ok-due.address.0)).state = c.pass-probe.ensures.state ∙ ap (λ s. (aged_state c.self.inside.times c.in_ok-due.due s).state) c.get-state.ensures in (
      subst (λ (table : Bindings). IsWithinRules c.self.inside.times c.self.inside.per_port table.rows) (sym c.set.ensures.rows) (kept_turn c.self.inside.times c.self.inside.per_port c.args.t c.self.inside.table c.self.inside.wheel c.in_ok-due.due c.in_ok-due.address c.self.invariant.0 c.self.invariant.1 c.in_ok-due.ensures.value c.pass-probe.new.state aged c.pass-probe.ensures.fits),
      armed_again c.self.inside.times c.self.inside.per_port c.self.inside.table c.set.new.table c.self.inside.wheel c.set.new.wheel c.in_ok-due.address.0 c.pass-probe.new.state c.self.invariant.1 c.set.ensures.rows c.next_due.new.self c.in_ok-due.ensures.arms c.set.ensures.arms,
    )

pub returns-clause-turn : goal.returns-clause-turn
returns-clause-turn c =
    let aged : c.pass-probe.new.state ≡ (aged_state c.self.inside.times c.in_ok-due.due (state_in c.self.inside.table.rows c.in_ok-due.address.0)).state = c.pass-probe.ensures.state ∙ ap (λ s. (aged_state c.self.inside.times c.in_ok-due.due s).state) c.get-state.ensures in
    let probes : (aged_state c.self.inside.times c.in_ok-due.due (state_in c.self.inside.table.rows c.in_ok-due.address.0)).probes ≡ probes_behind c.in_ok-due.due c.pass-probe.result [] = ap (λ s. (aged_state c.self.inside.times c.in_ok-due.due s).probes) (sym c.get-state.ensures) ∙ c.pass-probe.ensures.probe in
    subst (λ (old : Addresses). TurnsOnce c.args.t old (view_of c.set.new.table.rows c.self.inside.times c.self.inside.per_port) (record { due = c.in_ok-due.due; address = c.in_ok-due.address; probe = c.pass-probe.result })) c.self.view_is
    (turn c.self.inside.times c.self.inside.per_port c.args.t c.self.inside.table c.self.inside.wheel c.in_ok-due.due c.in_ok-due.address c.self.invariant.0 c.self.invariant.1 c.in_ok-due.ensures.value c.pass-probe.new.state aged c.pass-probe.ensures.fits c.pass-probe.result probes c.set.new.table.rows (ap (λ (table : Bindings). table.rows) c.set.ensures.rows))

pub returns-clause-sound : goal.returns-clause-sound
returns-clause-sound c =
    let aged : c.pass-probe.new.state ≡ (aged_state c.self.inside.times c.in_ok-due.due (state_in c.self.inside.table.rows c.in_ok-due.address.0)).state = c.pass-probe.ensures.state ∙ ap (λ s. (aged_state c.self.inside.times c.in_ok-due.due s).state) c.get-state.ensures in
    let now : StaySound c.self.inside.table.rows c.set.new.table.rows = subst (λ (table : Bindings). StaySound c.self.inside.table.rows table.rows) (sym c.set.ensures.rows) (turn_sound c.self.inside.times c.self.inside.per_port c.args.t c.self.inside.table c.self.inside.wheel c.in_ok-due.due c.in_ok-due.address c.self.invariant.0 c.self.invariant.1 c.in_ok-due.ensures.value c.pass-probe.new.state aged c.pass-probe.ensures.fits) in
    subst (λ (old : Addresses). StaySound old.rows c.set.new.table.rows) c.self.view_is now

pub returns-in_err-due-clause-sound : goal.returns-in_err-due-clause-sound
returns-in_err-due-clause-sound c = subst (λ (all : Addresses). StaySound all.rows c.self.inside.table.rows) c.self.view_is (λ method_of sound. sound)
