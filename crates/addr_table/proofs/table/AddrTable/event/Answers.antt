use Rattle.std.proofs.Common.{◌≡◌, ◌≢◌, sym, subst}
use Rattle.std.proofs.lemmas.Bool.{both_ways}
use Rattle.bind_table.specs.Bindings.{Bindings}
use Rattle.savi_access.specs.Keeps.{IsWithinRules}
use Rattle.addr_table.proofs.Turning.{kept_event, event_row, event_pair, event_still, event_sound, event_same, armed_with}
use Rattle.addr_table.proofs.table.AddrTable.event.Goals as goal

pub set-requires-clause-row : goal.set-requires-clause-row
set-requires-clause-row c =
    let apart : c.step-answer.new.self ≢ c.get-before.result = λ same. both_ways c.is_same_state.result c.if-not-is_same_state.true (c.is_same_state.ensures.1 same) in
    event_row c.args.m c.self.inside.times c.self.inside.per_port c.args.t c.self.inside.table c.self.inside.wheel c.args.self.now c.args.a.0 c.args.ev c.room_for-room.result c.get-before.result c.step-answer.result c.step-answer.new.self c.self.invariant.0 c.self.view_is c.room_for-room.ensures c.get-before.ensures c.step-answer.ensures.value c.requires.fixable c.step-answer.ensures.fits c.self.invariant.1 apart

pub set-requires-clause-pair : goal.set-requires-clause-pair
set-requires-clause-pair c =
    let apart : c.step-answer.new.self ≢ c.get-before.result = λ same. both_ways c.is_same_state.result c.if-not-is_same_state.true (c.is_same_state.ensures.1 same) in
    event_pair c.args.m c.self.inside.times c.self.inside.per_port c.args.t c.self.inside.table c.self.inside.wheel c.args.self.now c.args.a.0 c.args.ev c.room_for-room.result c.get-before.result c.step-answer.result c.step-answer.new.self c.self.invariant.0 c.self.view_is c.room_for-room.ensures c.get-before.ensures c.step-answer.ensures.value c.requires.fixable c.step-answer.ensures.fits c.self.invariant.1 apart

pub invariant_of-self : goal.invariant_of-self
invariant_of-self c = (
  subst (λ (table : Bindings). IsWithinRules c.self.inside.times c.self.inside.per_port table.rows) (sym c.set.ensures.rows)
      (kept_event c.args.m c.self.inside.times c.self.inside.per_port c.args.t c.self.inside.table c.self.inside.wheel c.args.self.now c.args.a.0 c.args.ev c.room_for-room.result c.get-before.result c.step-answer.result c.step-answer.new.self c.self.invariant.0 c.self.view_is c.room_for-room.ensures c.get-before.ensures c.step-answer.ensures.value c.requires.fixable c.step-answer.ensures.fits),
  armed_with c.self.inside.times c.self.inside.per_port c.self.inside.table c.set.new.table c.self.inside.wheel c.set.new.wheel c.args.a.0 c.step-answer.new.self c.self.invariant.1 c.set.ensures.rows c.set.ensures.arms,
)

pub returns-then-not-is_same_state-clause-still : goal.returns-then-not-is_same_state-clause-still
returns-then-not-is_same_state-clause-still c = event_still c.args.m c.self.inside.times c.self.inside.per_port c.args.t c.self.inside.table c.self.inside.wheel c.args.self.now c.args.a.0 c.args.ev c.room_for-room.result c.get-before.result c.step-answer.result c.step-answer.new.self c.self.invariant.0 c.self.view_is c.room_for-room.ensures c.get-before.ensures c.step-answer.ensures.value c.requires.still c.step-answer.ensures.still c.set.new.table c.set.ensures.rows

pub returns-else-not-is_same_state-clause-rows : goal.returns-else-not-is_same_state-clause-rows
returns-else-not-is_same_state-clause-rows c =
    let same : c.step-answer.new.self ≡ c.get-before.result = c.is_same_state.ensures.0 c.if-not-is_same_state.false in
    event_same c.args.m c.self.inside.times c.self.inside.per_port c.args.t c.self.inside.table c.self.inside.wheel c.args.self.now c.args.a.0 c.args.ev c.room_for-room.result c.get-before.result c.step-answer.result c.step-answer.new.self c.self.invariant.0 c.self.view_is c.room_for-room.ensures c.get-before.ensures c.step-answer.ensures.value same

pub returns-then-not-is_same_state-clause-sound : goal.returns-then-not-is_same_state-clause-sound
returns-then-not-is_same_state-clause-sound c = λ method_of is sound. event_sound c.args.m c.self.inside.times c.self.inside.per_port c.args.t c.self.inside.table c.self.inside.wheel c.args.self.now c.args.a.0 c.args.ev c.room_for-room.result c.get-before.result c.step-answer.result c.step-answer.new.self c.self.invariant.0 c.self.view_is c.room_for-room.ensures c.get-before.ensures c.step-answer.ensures.value c.step-answer.ensures.sound method_of is sound c.set.new.table c.set.ensures.rows
