use Rattle.std.proofs.Common.{◌≡◌, ℕ, ◌+◌, List, [], ◌∷◌, length, sym, refl, ap, ◌∙◌, subst, arith, length-append, get_or}
use Rattle.std.specs.List.{insert}
use Rattle.atomic_table.specs.Seated.{TableId}
use Rattle.table_lock.specs.declared.board.Stage.TheVariants.{Idle}
use Rattle.table_lock.specs.declared.board.View.{View}
use Rattle.table_lock.specs.declared.pass.Pass.{Pass}
use Rattle.table_lock.specs.Plays.{Sat, one_more}
use Rattle.table_lock.specs.Views.{at_turn}
use Rattle.table_lock.specs.Passes.{lock_first, lock_table, pass_number}
use Rattle.table_lock.proofs.Seats.{splits}
use Rattle.table_lock.proofs.Deals.{AllDealt, IsDealt, dealt_more, dealt_front, newcomer_pass, insert_front}
use Rattle.table_lock.proofs.lock.make.deal.Goals as goal

pub loop-number-init : goal.loop-number-init
loop-number-init g c = record {
  table = c.requires.seat.0;
  view = c.requires.seat.1;
  count = ap (λ (l : List Pass). length l + 1) c.requires.room.0;
  room = refl;
  dealt = λ k d h. let none_yet = ap length c.requires.room.0 in absurd (omega arith);
}

pub split_seat-seat-requires : goal.split_seat-seat-requires
split_seat-seat-requires g c =
    let i = c.loop-number.invariant in
    let sized = c.args.lock.now.sized in
    let seats : c.loop-number.first.me.0.seats ≡ c.loop-number.number = ap (λ (m : Sat g.row.V.Denot). m.0.seats) i.view in
    let more = c.loop-number.auto.number in
    let below = c.loop-number-test.true in
    let all = c.requires.number.1 in (
      i.table,
      omega arith,
      splits g.V.Kept.history g.V.Kept.fixed (g.V.Kept.fixed c.args.lock.now.table.shared.key.0.value) c.args.lock.now.table.shared.key.1 c.loop-number.first.id c.loop-number.first.me.0
          (ap (λ (m : Sat g.row.V.Denot). m.0.stage) i.view) (λ z. omega arith) (omega arith),
    )

pub of-requires : goal.of-requires
of-requires g c =
    let i = c.loop-number.invariant in
    let new = ap (λ (m : Sat g.row.V.Denot). m.0) c.split_seat-seat.ensures.4 in (
      ap (λ (m : Sat g.row.V.Denot). m.1) c.split_seat-seat.ensures.4,
      new ∙ (newcomer_pass c.loop-number.first.me.0 c.loop-number.number (ap (λ (m : Sat g.row.V.Denot). m.0.seats) i.view) ∙ ap (at_turn c.loop-number.number Idle) (sym new)),
    )

pub push_reserved-requires : goal.push_reserved-requires
push_reserved-requires g c =
    let i = c.loop-number.invariant in
    let room = i.room in let count = i.count in let fits = c.requires.room.1 in
    omega arith

pub loop-number-preserved : goal.loop-number-preserved
loop-number-preserved g c =
    let i = c.loop-number.invariant in
    let split = c.split_seat-seat.ensures in
    let place : c.loop-number.number ≡ 1 + length c.loop-number.passes.items = let count = i.count in omega arith in
    record {
      table = split.0 ∙ i.table;
      view = split.2 ∙ ap (λ (m : Sat g.row.V.Denot). (one_more m.0, m.1)) i.view;
      count = let count = i.count in let e = ap length c.push_reserved.ensures.items ∙ length-append c.loop-number.passes.items (c.of.result ∷ []) in omega arith;
      room = c.push_reserved.ensures.capacity ∙ i.room;
      dealt = subst (AllDealt (lock_table c.args.lock.now) (g.V.Kept.fixed (lock_first c.args.lock.now)) 1) (sym c.push_reserved.ensures.items)
          (dealt_more (lock_table c.args.lock.now) (g.V.Kept.fixed (lock_first c.args.lock.now)) 1 c.loop-number.passes.items c.of.result i.dealt record {
            number = c.of.ensures.number ∙ place;
            seen = c.of.ensures.seen ∙ ap (λ (m : Sat g.row.V.Denot). m.0.seen) split.4;
            table = c.of.ensures.table ∙ (split.3 ∙ i.table);
            fixed = c.of.ensures.fixed ∙ (ap (λ (m : Sat g.row.V.Denot). m.0.fixed) split.4 ∙ ap (λ (m : Sat g.row.V.Denot). m.0.fixed) i.view);
            sleeps = c.of.ensures.sleeps;
          });
    }

pub of-requires-2 : goal.of-requires-2
of-requires-2 g c =
    let i = c.loop-number.invariant in
    let view = ap (λ (m : Sat g.row.V.Denot). m.0) i.view in
    (ap (λ (m : Sat g.row.V.Denot). m.1) i.view, view ∙ sym (ap (at_turn 0 Idle) view))

-- the passes, with that of the first seat in front
all_dealt : (z : TableId) (F : List ℕ) (passes new : List Pass) (p : Pass) → new ≡ insert passes 0 p → AllDealt z F 1 passes → IsDealt z F 0 p → AllDealt z F 0 new
all_dealt z F passes new p e all first = subst (AllDealt z F 0) (sym (e ∙ insert_front passes p)) (dealt_front z F passes p all first)

pub returns-clause-all : goal.returns-clause-all
returns-clause-all g c =
    let i = c.loop-number.invariant in
    let view = ap (λ (m : Sat g.row.V.Denot). m.0) i.view in
    let all = all_dealt (lock_table c.args.lock.now) (g.V.Kept.fixed (lock_first c.args.lock.now)) c.loop-number.passes.items c.insert.new.self.items c.of-2.result c.in-Ok.ensures.items i.dealt record {
      number = c.of-2.ensures.number;
      seen = c.of-2.ensures.seen ∙ ap (λ (x : View). x.seen) view;
      table = c.of-2.ensures.table ∙ i.table;
      fixed = c.of-2.ensures.fixed ∙ ap (λ (x : View). x.fixed) view;
      sleeps = c.of-2.ensures.sleeps;
    } in (
      (let count = i.count in let long = ap length (c.in-Ok.ensures.items ∙ insert_front c.loop-number.passes.items c.of-2.result) in let n = c.requires.number.1 in let done = c.loop-number-test.false in
          let within = c.loop-number.auto.number-end in let some_pass = c.requires.number.0 in omega arith),
      λ k d h. let t = all k d h in (t.table, t.fixed),
    )

pub returns-clause-new : goal.returns-clause-new
returns-clause-new g c =
    let i = c.loop-number.invariant in
    let view = ap (λ (m : Sat g.row.V.Denot). m.0) i.view in
    let all = all_dealt (lock_table c.args.lock.now) (g.V.Kept.fixed (lock_first c.args.lock.now)) c.loop-number.passes.items c.insert.new.self.items c.of-2.result c.in-Ok.ensures.items i.dealt record {
      number = c.of-2.ensures.number;
      seen = c.of-2.ensures.seen ∙ ap (λ (x : View). x.seen) view;
      table = c.of-2.ensures.table ∙ i.table;
      fixed = c.of-2.ensures.fixed ∙ ap (λ (x : View). x.fixed) view;
      sleeps = c.of-2.ensures.sleeps;
    } in
    λ k d h. let t = all k d h in (subst (λ (n : ℕ). pass_number (get_or c.insert.new.self.items k d) ≡ n) (omega arith) t.number, t.seen, t.sleeps)
