use Rattle.std.proofs.Common.{◌≡◌, ℕ, List, [], ◌∷◌, nat_lt, sym, ap, ◌∙◌, subst, arith, Option, Some}
use Rattle.atomic_table.specs.Table.{rest}
use Rattle.table_lock.specs.Plays.{Sat}
use Rattle.table_lock.specs.Turns.{IsGrown}
use Rattle.table_lock.proofs.Holds.{grown}
use Rattle.table_lock.proofs.turn.Held.leave.Goals as goal

pub settle-requires-clause-history : goal.settle-requires-clause-history
settle-requires-clause-history g c =
    let turn = c.requires.turn in
    let put = c.exchange-nothing.ensures in
    let slot : c.exchange-nothing.new.seat.me.1 ≡ (0, Some c.args.self.value) ∷ [] =
    ap (λ (m : Sat g.row.V.Denot). m.1) put.3 ∙ ap (λ (l : List (ℕ × Option g.row.V.Denot)). (0, Some c.args.self.value) ∷ rest l) turn.slot in
    let seen = ap (λ (m : Sat g.row.V.Denot). m.0.seen) put.3 in
    let now = g.V.Kept.history c.args.self.value in
    let small = c.entries.ensures.small in
    let count = c.entries.ensures.count in (
      c.args.self.value,
      slot,
      subst (λ h. IsGrown c.args.self.number h (g.V.Kept.history c.args.self.value) (nat_lt c.args.self.entered c.entries.result)) (sym seen)
          (subst (λ (x : ℕ × ℕ). IsGrown c.args.self.number c.args.self.place.me.0.seen (g.V.Kept.history c.args.self.value) (nat_lt x.0 x.1)) (λ i. (sym turn.entered i, sym count i))
          (grown c.args.self.number c.args.self.place.me.0.seen (g.V.Kept.history c.args.self.value) c.requires.history (omega arith))),
    )
