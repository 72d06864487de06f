use Rattle.std.proofs.Common.{◌+◌, ◌-◌, ap, ◌∙◌, arith}
use Rattle.bridge_fdb.proofs.Slots.{down, up}
use Rattle.bridge_fdb.proofs.kept.exchange_within.Goals.{then-gone-at, else-gone-at}
use Rattle.bridge_fdb.proofs.kept.exchange_within.Goals as goal

pub returns-clause-items : goal.returns-clause-items
returns-clause-items g c =
    let gone = c.args.gone in
    let at = c.args.at in
    elim c.if-gone-at.branch [
      | then-gone-at w ↦
          down c.args.values.now.items c.if-gone-at.values.items gone at (gone + 1) (at + 1 - (gone + 1)) (gone + (at + 1 - (gone + 1))) c.args.value w.if-gone-at.true c.requires.place (omega arith) (omega arith) (omega (arith, w.if-gone-at.true))
          (ap (λ values. values.items) w.values-is ∙ w.copy_within.ensures.items)
      | else-gone-at w ↦
          up c.args.values.now.items c.if-gone-at.values.items gone at (at + 1) (gone - at) (at + 1 + (gone - at)) c.args.value w.if-gone-at.false c.requires.gone (omega arith) (omega arith) (omega (arith, w.if-gone-at.false))
          (ap (λ values. values.items) w.values-is ∙ w.copy_within-else-gone-at.ensures.items)
    ]
