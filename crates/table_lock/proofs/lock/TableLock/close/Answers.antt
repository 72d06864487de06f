use Rattle.std.proofs.Common.{◌≡◌, [], ◌∷◌, ◌++◌, length, sym, refl, ap, ◌∙◌, subst, arith, Option, Some, unwrap_or}
use Rattle.std.specs.Option.{option_to_list, IsSome}
use Rattle.std.specs.List.{All}
use Rattle.std.specs.Slots.{slots_items}
use mathlib.Core.Option.{some-injective}
use Rattle.table_lock.specs.declared.board.View.{View}
use Rattle.table_lock.specs.declared.pass.Pass.{Pass}
use Rattle.table_lock.specs.Plays.{Sat}
use Rattle.table_lock.specs.Passes.{IsPassOf}
use Rattle.table_lock.proofs.Seats.{joins, ends}
use Rattle.table_lock.proofs.Deals.{Gathered, gathered_first, gathered_more, pass_view, all_parts, only_came, Closes, closes}
use Rattle.table_lock.proofs.lock.TableLock.close.Given.{Over}
use Rattle.table_lock.proofs.lock.TableLock.close.Goals as goal

pub loop-pass-init : goal.loop-pass-init
loop-pass-init g c =
    let split : c.args.passes.items ≡ c.pop.new.self.items ++ c.unwrap-last.result ∷ [] = c.pop.ensures.items ∙ ap (λ (o : Option Pass). c.pop.new.self.items ++ option_to_list o) c.unwrap-last.ensures in
    let parts = all_parts (IsPassOf g.V.Kept.fixed c.args.self) c.pop.new.self.items c.unwrap-last.result (subst (All (IsPassOf g.V.Kept.fixed c.args.self)) split c.requires.1) in
    record {
      table = c.into_seat-place.ensures.0 ∙ parts.1.0;
      slot = c.into_seat-place.ensures.3;
      gathered = gathered_first c.args.passes.items c.pop.new.self.items c.unwrap-last.result c.into_seat-place.result.me.0 split c.into_seat-place.ensures.2;
      rest = parts.0;
    }

pub join_seat-requires : goal.join_seat-requires
join_seat-requires g c =
    let i = c.loop-pass.invariant in
    let sized = c.args.self.sized in
    let parts = all_parts (IsPassOf g.V.Kept.fixed c.args.self) c.pop-in-loop-pass.new.self.items c.in-Some.pass (subst (All (IsPassOf g.V.Kept.fixed c.args.self)) c.in-Some.ensures.items i.rest) in
    let is = pass_view c.in-Some.pass c.into_seat.result.me.0 c.into_seat.ensures.2 in (
      i.table,
      c.into_seat.ensures.0 ∙ parts.1.0,
      c.into_seat.ensures.3,
      omega arith,
      joins g.V.Kept.history g.V.Kept.fixed (g.V.Kept.fixed c.args.self.table.shared.key.0.value) c.args.self.table.shared.key.1 c.loop-pass.place.id c.loop-pass.place.me.0 c.into_seat.result.id c.into_seat.result.me.0
          i.gathered.idle (ap (λ (v : View). v.stage) is.0),
    )

pub loop-pass-preserved : goal.loop-pass-preserved
loop-pass-preserved g c =
    let i = c.loop-pass.invariant in
    let parts = all_parts (IsPassOf g.V.Kept.fixed c.args.self) c.pop-in-loop-pass.new.self.items c.in-Some.pass (subst (All (IsPassOf g.V.Kept.fixed c.args.self)) c.in-Some.ensures.items i.rest) in
    record {
      table = c.join_seat.ensures.0 ∙ i.table;
      slot = ap (λ (m : Sat g.row.V.Denot). m.1) c.join_seat.ensures.2 ∙ i.slot;
      gathered = subst (Gathered c.args.passes.items c.pop-in-loop-pass.new.self.items) (sym (ap (λ (m : Sat g.row.V.Denot). m.0) c.join_seat.ensures.2))
          (gathered_more c.args.passes.items c.pop-in-loop-pass.new.self.items c.loop-pass.passes.items c.in-Some.pass c.loop-pass.place.me.0 c.into_seat.result.me.0 c.in-Some.ensures.items c.into_seat.ensures.2 i.gathered);
      rest = parts.0;
    }

pub close_with-closed-requires : goal.close_with-closed-requires
close_with-closed-requires g c = c.loop-pass.invariant.table

pub unwrap-requires : goal.unwrap-requires
unwrap-requires g c =
    let i = c.loop-pass.invariant in
    let empty : length c.loop-pass.passes.items ≡ 0 = let z = c.in_default.ensures.cases.0 in let long = c.loop-pass.passes.ok in omega arith in
    let size : length c.loop-pass.place.me.0.mine ≡ c.args.self.table.shared.key.1 = i.gathered.size ∙ (sym (ap length (only_came c.args.passes.items c.loop-pass.passes.items i.gathered.came i.gathered.split empty)) ∙ c.requires.0) in
    let e = ends g.V.Kept.history g.V.Kept.fixed (g.V.Kept.fixed c.args.self.table.shared.key.0.value) c.args.self.table.shared.key.1 c.loop-pass.place.id c.loop-pass.place.me.0 i.gathered.idle size
    (slots_items c.close_with-closed.result.words) (slots_items c.close_with-closed.result.slots) c.close_with-closed.ensures.values.2 in
    let value : c.take-value.result ≡ Some e.value = some-injective c.take-value.result (Some e.value) (sym c.take-value.ensures.value ∙ e.slot) in
    subst (λ (o : Option g.row.V.Denot). IsSome o) (sym value) refl

told : (g : Over) (c : goal.After-drop-self g) → Closes g.V.Kept.history g.V.Kept.fixed (g.V.Kept.fixed c.args.self.table.shared.key.0.value) c.args.self.table.shared.key.1 c.args.passes.items c.unwrap.result
told g c =
    let i = c.loop-pass.invariant in
    let empty : length c.loop-pass.passes.items ≡ 0 = let z = c.in_default.ensures.cases.0 in let long = c.loop-pass.passes.ok in omega arith in
    let size : length c.loop-pass.place.me.0.mine ≡ c.args.self.table.shared.key.1 = i.gathered.size ∙ (sym (ap length (only_came c.args.passes.items c.loop-pass.passes.items i.gathered.came i.gathered.split empty)) ∙ c.requires.0) in
    let e = ends g.V.Kept.history g.V.Kept.fixed (g.V.Kept.fixed c.args.self.table.shared.key.0.value) c.args.self.table.shared.key.1 c.loop-pass.place.id c.loop-pass.place.me.0 i.gathered.idle size
    (slots_items c.close_with-closed.result.words) (slots_items c.close_with-closed.result.slots) c.close_with-closed.ensures.values.2 in
    let value : c.take-value.result ≡ Some e.value = some-injective c.take-value.result (Some e.value) (sym c.take-value.ensures.value ∙ e.slot) in
    closes g.V.Kept.history g.V.Kept.fixed (g.V.Kept.fixed c.args.self.table.shared.key.0.value) c.args.self.table.shared.key.1 c.args.passes.items c.loop-pass.passes.items c.loop-pass.place.me.0
    (slots_items c.close_with-closed.result.slots) c.unwrap.result i.gathered empty e
    (ap (λ (o : Option g.row.V.Denot). unwrap_or o e.value) (sym value ∙ c.unwrap.ensures))

pub returns-clause-entries : goal.returns-clause-entries
returns-clause-entries g c = (told g c).entries

pub returns-clause-begins : goal.returns-clause-begins
returns-clause-begins g c = (told g c).begins

pub returns-clause-numbers : goal.returns-clause-numbers
returns-clause-numbers g c = (told g c).numbers

pub returns-clause-others : goal.returns-clause-others
returns-clause-others g c = (told g c).others

pub returns-clause-fixed : goal.returns-clause-fixed
returns-clause-fixed g c = (told g c).fixed_is
