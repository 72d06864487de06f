use Rattle.std.proofs.Common.{◌≡◌, ◌∷◌, [], ◌++◌, length, ap, ◌∙◌, arith, lit<, length-append}
use Rattle.savi_kinds.proofs.AddrSpelling.{first_group, next_group}
use Rattle.savi_kinds.proofs.addr_text.push_groups.Goals as goal
use Rattle.savi_kinds.proofs.addr_text.push_groups.Goals.{then-i-gt0, else-i-gt0}

pub loop-i-preserved : goal.loop-i-preserved
loop-i-preserved c =
    elim c.if-i-gt0.branch [
      | then-i-gt0 w ↦
          let colon : c.if-i-gt0.text.bytes ≡ c.loop-i.text.bytes ++ (58 ∷ []) = ap (λ t. t.bytes) w.text-is ∙ w.push.ensures.ascii (lit< tt) in (
            next_group c.args.groups.now c.loop-i.i _ c.loop-i.text.bytes c.if-i-gt0.text.bytes _ c.loop-i-test.true w.if-i-gt0.true c.loop-i.invariant.0 colon c.push_group.ensures.bytes,
            omega (arith, c.push_group.ensures.len, ap length colon, length-append c.loop-i.text.bytes (58 ∷ []), c.loop-i.invariant.1, w.if-i-gt0.true),
          )
      | else-i-gt0 w ↦
          let same : c.if-i-gt0.text.bytes ≡ c.loop-i.text.bytes = ap (λ t. t.bytes) w.text-is in (
            first_group c.args.groups.now c.loop-i.i _ c.loop-i.text.bytes c.if-i-gt0.text.bytes _ c.loop-i-test.true w.if-i-gt0.false c.loop-i.invariant.0 same c.push_group.ensures.bytes,
            omega (arith, c.push_group.ensures.len, ap length same, c.loop-i.invariant.1, w.if-i-gt0.false),
          )
    ]
