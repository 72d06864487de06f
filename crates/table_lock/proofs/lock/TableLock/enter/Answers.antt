use Rattle.std.proofs.Common.{◌≡◌, ℕ, List, ◌∷◌, length, sym, ap, ◌∙◌, arith, Option, Some, None, unwrap_or}
use Rattle.atomic_table.specs.Table.{rest}
use Rattle.table_lock.specs.declared.board.Stage.TheVariants.{Out}
use Rattle.table_lock.specs.declared.board.View.{View}
use Rattle.table_lock.specs.Entries.{mine}
use Rattle.table_lock.specs.Plays.{Sat}
use Rattle.table_lock.specs.Views.{at_turn}
use Rattle.table_lock.proofs.Steps.{draws}
use Rattle.table_lock.proofs.Holds.{held_is, entered_own, entered_view}
use Rattle.table_lock.proofs.Deals.{pass_view}
use Rattle.table_lock.proofs.lock.TableLock.enter.Goals as goal

pub fetch_add-ticket-requires : goal.fetch_add-ticket-requires
fetch_add-ticket-requires g c =
    let sized = c.args.self.now.sized in
    let seat = c.into_seat-place in
    let is = pass_view c.args.pass seat.result.me.0 seat.ensures.2 in (
      seat.ensures.0 ∙ c.requires.0,
      omega arith,
      draws g.V.Kept.history g.V.Kept.fixed (g.V.Kept.fixed c.args.self.now.table.shared.key.0.value) c.args.self.now.table.shared.key.1 c.args.self.now.table.shared.table_id.slots seat.result.id seat.result.me.0 seat.result.me.1
          (ap (λ (v : View). v.stage) is.0),
    )

pub exchange-requires : goal.exchange-requires
exchange-requires g c =
    let called = c.wait_turn.ensures.called in (
      c.wait_turn.ensures.table ∙ (c.fetch_add-ticket.ensures.0 ∙ (c.into_seat-place.ensures.0 ∙ c.requires.0)),
      (Some called.value, called.slot ∙ ap (λ (l : List (ℕ × Option g.row.V.Denot)). (0, Some called.value) ∷ rest l) (sym called.slot)),
    )

pub returns-clause-turn : goal.returns-clause-turn
returns-clause-turn g c =
    let called = c.wait_turn.ensures.called in
    let seat = c.into_seat-place in
    let v = seat.result.me.0 in
    let is = pass_view c.args.pass seat.result.me.0 seat.ensures.2 in
    let put = c.exchange.ensures in
    let view : c.exchange.new.seat.me.0 ≡ at_turn c.args.pass.number (Out c.fetch_add-ticket.result) (record v { seen = g.V.Kept.history called.value }) =
    ap (λ (m : Sat g.row.V.Denot). m.0) put.3
    ∙ entered_view g.V.Kept.history g.V.Kept.fixed c.args.pass.number c.fetch_add-ticket.result seat.result.me.0 c.fetch_add-ticket.new.seat.me.0 c.wait_turn.new.place.me is.0
    (ap (λ (m : Sat g.row.V.Denot). m.0) c.fetch_add-ticket.ensures.2) called in
    let value : called.value ≡ c.unwrap-value.result =
    sym (ap (λ (o : Option g.row.V.Denot). unwrap_or o called.value) (sym c.unwrap-value.ensures ∙ held_is c.wait_turn.new.place.me.1 (rest c.wait_turn.new.place.me.1) c.exchange.result (Some called.value) put.2 called.slot)) in
    record {
      table = put.0 ∙ (c.wait_turn.ensures.table ∙ (c.fetch_add-ticket.ensures.0 ∙ (seat.ensures.0 ∙ c.requires.0)));
      ticket = c.fetch_add-ticket.result;
      view = view ∙ sym (ap (at_turn c.args.pass.number (Out c.fetch_add-ticket.result)) view);
      slot = ap (λ (m : Sat g.row.V.Denot). m.1) put.3 ∙ ap (λ (l : List (ℕ × Option g.row.V.Denot)). (0, None) ∷ rest l) called.slot;
      entered = c.entries-entered.ensures.count ∙ (ap (λ (y : g.row.V.Denot). length (g.V.Kept.history y)) (sym value) ∙ sym (ap (λ (x : View). length x.seen) view));
      fixed_is = ap (λ (x : View). x.fixed) view ∙ (sym is.2 ∙ c.requires.1);
    }

pub returns-clause-own : goal.returns-clause-own
returns-clause-own g c =
    let called = c.wait_turn.ensures.called in
    let seat = c.into_seat-place in
    let is = pass_view c.args.pass seat.result.me.0 seat.ensures.2 in
    let waits = ap (λ (m : Sat g.row.V.Denot). m.0) c.fetch_add-ticket.ensures.2 in
    ap (λ (m : Sat g.row.V.Denot). mine c.args.pass.number m.0.seen) c.exchange.ensures.3
    ∙ (ap (λ (x : View). mine c.args.pass.number x.seen) called.view_is
    ∙ (entered_own g.V.Kept.history g.V.Kept.fixed c.args.pass.number c.fetch_add-ticket.result seat.result.me.0 c.fetch_add-ticket.new.seat.me.0 c.wait_turn.new.place.me is.0 waits called
    ∙ ap (mine c.args.pass.number) (sym is.1)))
