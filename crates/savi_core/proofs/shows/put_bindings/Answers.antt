use Rattle.std.proofs.Common.{ℕ, ◌<◌, ◌≤◌, ◌++◌, List, length, map, sym, ap, subst, ◌∙◌, arith}
use Rattle.std.proofs.lemmas.List.{append-nil, take_all}
use Rattle.savi_access.specs.declared.row.Row.{Row}
use Rattle.control_replies.specs.Bindings.{all_binding_lines, binding_lines}
use Rattle.savi_core.proofs.Shown.{next_binding, some_row}
use Rattle.savi_core.proofs.shows.put_bindings.Goals.{in-Some, in_default}
use Rattle.savi_core.proofs.shows.put_bindings.Goals as goal

pub loop-i-preserved : goal.loop-i-preserved
loop-i-preserved c =
    let was = c.loop-i.invariant in
    let rows = c.args.access.now.addresses.rows in
    let vlan : ℕ = c.args.access.now.vlan in
    let within : c.loop-i.i < length rows = omega (arith, c.loop-i-test.true, c.size-i-end.ensures.size) in
    elim c.match-row.branch [
      | in-Some w ↦ record {
        text = w.into-is ∙ next_binding c.args.times.now vlan rows c.loop-i.i w.in-Some.address w.in-Some.state c.args.into.now c.loop-i.into w.put_binding.new.self within w.in-Some.ensures was.text
            (w.put_binding.ensures.text ∙ ap (λ (v : ℕ). c.loop-i.into ++ binding_lines c.args.times.now (v, record { address = w.in-Some.address; state = w.in-Some.state })) w.vlan.ensures);
        size = omega (arith, ap length w.into-is, w.put_binding.ensures.size, was.size);
        within = omega (arith, within);
      }
      | in_default w ↦ absurd (some_row rows c.loop-i.i within (sym w.in_default.is ∙ c.row.ensures))
    ]

pub loop-i-init : goal.loop-i-init
loop-i-init c = record { text = sym (append-nil c.args.into.now); size = omega arith; within = omega arith }

pub put_binding-requires : goal.put_binding-requires
put_binding-requires c = record {
  vlan = subst (λ (v : ℕ). v ≤ 4094) (sym c.vlan.ensures) c.requires.vlan;
  room = omega (arith, c.loop-i.invariant.size, c.loop-i-test.true, c.size-i-end.ensures.size, c.requires.room);
}

pub returns-clause-text : goal.returns-clause-text
returns-clause-text c =
    let rows = c.args.access.now.addresses.rows in
    c.loop-i.invariant.text
    ∙ ap (λ (some : List Row). c.args.into.now ++ all_binding_lines c.args.times.now (map (λ row. (c.args.access.now.vlan, row)) some)) (take_all c.loop-i.i rows (omega (arith, c.loop-i-test.false, c.size-i-end.ensures.size)))

pub returns-clause-size : goal.returns-clause-size
returns-clause-size c = omega (arith, c.loop-i.invariant.size, c.loop-i.invariant.within, c.size-i-end.ensures.size)
