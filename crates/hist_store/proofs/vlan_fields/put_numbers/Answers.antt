use Rattle.std.proofs.Common.{◌≡◌, ◌∷◌, [], ◌++◌, length, ap, ◌∙◌, arith, length-append}
use Rattle.hist_store.proofs.VlanLines.{first_number, next_number}
use Rattle.hist_store.proofs.vlan_fields.put_numbers.Goals as goal
use Rattle.hist_store.proofs.vlan_fields.put_numbers.Goals.{then-i-gt0, else-i-gt0}

pub push-requires : goal.push-requires
push-requires c = omega (arith, c.loop-i.invariant.size, c.loop-i-test.true, c.requires.room)

pub put_vlan_number-requires : goal.put_vlan_number-requires
put_vlan_number-requires c = record {
  vlan = c.requires.vlans c.loop-i.i 0 c.loop-i-test.true;
  room = elim c.if-i-gt0.branch [
    | then-i-gt0 w ↦
        let comma : c.if-i-gt0.into.items ≡ c.loop-i.into.items ++ (44 ∷ []) = ap (λ t. t.items) w.into-is ∙ w.push.ensures.items in
        omega (arith, ap length comma, length-append c.loop-i.into.items (44 ∷ []), c.loop-i.invariant.size, w.if-i-gt0.true, c.loop-i-test.true, c.requires.room)
    | else-i-gt0 w ↦
        let same : c.if-i-gt0.into.items ≡ c.loop-i.into.items = ap (λ t. t.items) w.into-is in
        omega (arith, ap length same, c.loop-i.invariant.size, w.if-i-gt0.false, c.loop-i-test.true, c.requires.room)
  ];
}

pub loop-i-preserved : goal.loop-i-preserved
loop-i-preserved c =
    elim c.if-i-gt0.branch [
      | then-i-gt0 w ↦
          let comma : c.if-i-gt0.into.items ≡ c.loop-i.into.items ++ (44 ∷ []) = ap (λ t. t.items) w.into-is ∙ w.push.ensures.items in
          record {
            text = next_number c.args.numbers.now c.loop-i.i _ c.loop-i.into.items c.if-i-gt0.into.items _ c.loop-i-test.true w.if-i-gt0.true c.loop-i.invariant.text comma c.put_vlan_number.ensures.text;
            size = omega (arith, c.put_vlan_number.ensures.size, ap length comma, length-append c.loop-i.into.items (44 ∷ []), c.loop-i.invariant.size, w.if-i-gt0.true);
          }
      | else-i-gt0 w ↦
          let same : c.if-i-gt0.into.items ≡ c.loop-i.into.items = ap (λ t. t.items) w.into-is in
          record {
            text = first_number c.args.numbers.now c.loop-i.i _ c.loop-i.into.items c.if-i-gt0.into.items _ c.loop-i-test.true w.if-i-gt0.false c.loop-i.invariant.text same c.put_vlan_number.ensures.text;
            size = omega (arith, c.put_vlan_number.ensures.size, ap length same, c.loop-i.invariant.size, w.if-i-gt0.false);
          }
    ]
