use Rattle.std.proofs.Common.{ap, arith}
use Rattle.table_lock.specs.declared.board.View.{View}
use Rattle.table_lock.proofs.Holds.{passes_at}
use Rattle.table_lock.proofs.lock.TableLock.pass_on.Goals as goal

pub fetch_add-requires : goal.fetch_add-requires
fetch_add-requires g c =
    let sized = c.args.self.now.sized in
    let out = c.requires.out in
    let s = c.requires.slot in (
      c.requires.table,
      omega arith,
      passes_at g.V.Kept.history g.V.Kept.fixed (g.V.Kept.fixed c.args.self.now.table.shared.key.0.value) c.args.self.now.table.shared.key.1 c.args.self.now.table.shared.table_id.slots c.args.place.id c.args.place.me
          out.0 s.0 (ap (λ (v : View). v.stage) out.1) s.1 s.2 s.3,
    )
