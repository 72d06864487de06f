use Rattle.std.proofs.Common.{ℕ, sym, ap, ◌∙◌, subst, arith, Some}
use Rattle.table_lock.specs.declared.board.View.{View}
use Rattle.table_lock.specs.Turns.{IsGrown}
use Rattle.table_lock.proofs.Holds.{makes_at}
use Rattle.table_lock.proofs.lock.TableLock.settle.Goals as goal

pub fetch_add-requires : goal.fetch_add-requires
fetch_add-requires g c =
    let sized = c.args.self.now.sized in
    let out = c.requires.out in
    let h = c.requires.history in
    let grew = subst (λ b. IsGrown c.args.number c.args.place.now.me.0.seen (g.V.Kept.history h.0) b) c.if-grew.true h.2 in (
      c.requires.table,
      omega arith,
      makes_at g.V.Kept.history g.V.Kept.fixed (g.V.Kept.fixed c.args.self.now.table.shared.key.0.value) c.args.self.now.table.shared.key.1 c.args.self.now.table.shared.table_id.slots c.args.place.now.id c.args.place.now.me
          out.0 h.0 grew.0 (ap (λ (v : View). v.stage) out.1) h.1 grew.2 (ap (λ (v : View). v.number) out.1 ∙ ap (λ (n : ℕ). Some n) (sym grew.1)) grew.3,
    )
