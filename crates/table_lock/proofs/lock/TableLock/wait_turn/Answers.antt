use Rattle.std.proofs.Common.{◌≡◌, sym, refl, ap, ◌∙◌, subst, arith}
use Rattle.table_lock.specs.Plays.{Sat, Called, ticket_of}
use Rattle.table_lock.proofs.Holds.{looks_at}
use Rattle.table_lock.proofs.lock.TableLock.wait_turn.Goals as goal
use Rattle.table_lock.proofs.lock.TableLock.wait_turn.Goals.{else-serving-ticket-via-then-serving-ticket+else-serving-lt-TICKETS_END, else-serving-ticket-via-else-serving-ticket}

pub loop-init : goal.loop-init
loop-init g c = record { table = refl; seat = refl }

pub load-serving-requires : goal.load-serving-requires
load-serving-requires g c =
    let i = c.loop.invariant in
    let sized = c.args.self.now.sized in (
      i.table ∙ c.requires.table,
      omega arith,
      looks_at g.V.Kept.history g.V.Kept.fixed (g.V.Kept.fixed c.args.self.now.table.shared.key.0.value) c.args.self.now.table.shared.key.1 c.args.self.now.table.shared.table_id.slots c.loop.place.id c.loop.place.me
          c.args.ticket (ap (λ (m : Sat g.row.V.Denot). m.0.stage) i.seat ∙ c.requires.waits.0) (ap (λ (m : Sat g.row.V.Denot). m.1) i.seat ∙ c.requires.waits.1),
    )

pub returns-then-serving-lt-TICKETS_END-clause-table : goal.returns-then-serving-lt-TICKETS_END-clause-table
returns-then-serving-lt-TICKETS_END-clause-table g c = c.load-serving.ensures.0 ∙ c.loop.invariant.table

pub returns-then-serving-lt-TICKETS_END-clause-called : goal.returns-then-serving-lt-TICKETS_END-clause-called
returns-then-serving-lt-TICKETS_END-clause-called g c =
    let i = c.loop.invariant in
    let ticket : ticket_of c.loop.place.me.0.stage ≡ c.args.ticket = ap (λ (m : Sat g.row.V.Denot). ticket_of m.0.stage) i.seat ∙ ap ticket_of c.requires.waits.0 in
    subst (λ (m : Sat g.row.V.Denot). Called g.V.Kept.history g.V.Kept.fixed m.0 c.load-serving.new.seat.me) i.seat
    (c.load-serving.ensures.2.0 (c.if-serving-ticket.true ∙ sym ticket) c.if-serving-lt-TICKETS_END.true)

pub loop-preserved : goal.loop-preserved
loop-preserved g c =
    let i = c.loop.invariant in
    let ticket : ticket_of c.loop.place.me.0.stage ≡ c.args.ticket = ap (λ (m : Sat g.row.V.Denot). ticket_of m.0.stage) i.seat ∙ ap ticket_of c.requires.waits.0 in
    let same : c.load-serving.new.seat.me ≡ c.loop.place.me = elim c.else-serving-ticket.branch [
      | else-serving-ticket-via-then-serving-ticket+else-serving-lt-TICKETS_END w ↦ c.load-serving.ensures.2.2 w.if-serving-lt-TICKETS_END.false
      | else-serving-ticket-via-else-serving-ticket w ↦ c.load-serving.ensures.2.1 (λ e. w.if-serving-ticket.false (e ∙ ticket))
    ] in
    record { table = c.load-serving.ensures.0 ∙ i.table; seat = same ∙ i.seat }
