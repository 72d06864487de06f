use Rattle.std.proofs.Common.{ℕ, ◌≤◌, List, ◌++◌, length, take, ap, sym, subst, ◌∙◌, arith}
use Rattle.std.proofs.lemmas.List.{take_all}
use Rattle.savi_access.specs.declared.row.Row.{Row}
use Rattle.control_replies.specs.Bindings.{all_binding_lines}
use Rattle.control_replies.specs.Replies.{end_text}
use Rattle.savi_core.specs.declared.vlan_set.VlanSet.{VlanSet}
use Rattle.savi_core.specs.VlanSets.{of_sets}
use Rattle.savi_core.proofs.Keeping.{length_each, sets_few, sets_more}
use Rattle.savi_core.proofs.ShownSets.{bindings_more, rows_of}
use Rattle.savi_core.proofs.shows.show_bindings.Goals as goal

pub put_bindings-requires : goal.put_bindings-requires
put_bindings-requires c =
    let sets : List VlanSet = c.args.sets.now in
    let i : ℕ = c.loop-set.set-index in
    let set : VlanSet = c.set-item.result in
    record {
      vlan = subst (λ (s : VlanSet). s.access.vlan ≤ 4094) (sym c.set-item.is) (c.requires.vlans i set c.loop-set-test.true);
      room = omega (arith, c.loop-set.invariant.size, sets_few rows_of sets i set c.loop-set-test.true c.set-item.is, c.requires.few);
    }

pub loop-set-preserved : goal.loop-set-preserved
loop-set-preserved c =
    let sets : List VlanSet = c.args.sets.now in
    let i : ℕ = c.loop-set.set-index in
    let set : VlanSet = c.set-item.result in
    let own : List Row = rows_of set in
    record {
      text = bindings_more sets i set c.loop-set-test.true c.set-item.is c.loop-set.into c.put_bindings.new.into c.args.times.now c.loop-set.invariant.text c.put_bindings.ensures.text;
      size =
          omega (
            arith,
            c.loop-set.invariant.size,
            c.put_bindings.ensures.size,
            ap length (sets_more rows_of sets i set c.loop-set-test.true c.set-item.is),
            length_each set.access.vlan (of_sets rows_of (take i sets)) own,
          );
    }

pub put_end-requires : goal.put_end-requires
put_end-requires c =
    let all = take_all c.loop-set.set-index c.args.sets.now (omega (arith, c.loop-set-test.false)) in
    omega (arith, c.loop-set.invariant.size, ap (λ (l : List VlanSet). length (of_sets rows_of l)) all, c.requires.few)

pub returns : goal.returns
returns c =
    c.put_end.ensures.text
    ∙ ap (λ (text : List ℕ). text ++ end_text)
    (c.loop-set.invariant.text ∙ ap (λ (l : List VlanSet). all_binding_lines c.args.times.now (of_sets rows_of l)) (take_all c.loop-set.set-index c.args.sets.now (omega (arith, c.loop-set-test.false))))
