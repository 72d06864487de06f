use Rattle.std.proofs.Common.{◌≡◌, List, [], ◌∷◌, refl, sym, ap, ◌∙◌, subst, true, false, inl, inr, IfSome}
use Rattle.std.specs.List.Sorted.{IsStrictlyIncreasing}
use Rattle.savi_kinds.specs.declared.plan.Plan.{Plan}
use Rattle.savi_kinds.specs.ValidPlan.{IsValidPlan, numbers_of}
use Rattle.hist_store.specs.Rows.{Row}
use Rattle.hist_store.proofs.PortsRead.{if_some}
use Rattle.checkpoint.specs.Bases.{Base}
use Rattle.savi_history.specs.Limits.{has_room}
use Rattle.savi_core.specs.Machines.{Machine, base_of}
use Rattle.port_worker.specs.Journalled.{IsJournalled}
use Rattle.port_worker.specs.Replays.{ports_planned}
use Rattle.port_worker.specs.Steps.{HasRoomFor, comes_in}
use Rattle.journal_write.specs.Told.{TellsOf, passes_over}
use Rattle.port_worker.specs.Turnings.{AreTurned, StandsAt, turn_next}
use Rattle.port_worker.proofs.Making.{HasRoomAlready, base_closes, base_told, closes_finished, closes_shows, if_all, paused_inputs, paused_quiet, paused_ticker, plan_closes, room_already, room_new, stays, turned_holds, turned_stands, turned_turned, turns}
use Rattle.port_worker.proofs.turns.make_room.Goals.{then-has_room-via-then-has_room, then-has_room-via-else-has_room+then-not-needs_room}
use Rattle.port_worker.proofs.turns.make_room.Goals as goal

pub returns-then-has_room-clause-room : goal.returns-then-has_room-clause-room
returns-then-has_room-clause-room g c =
    let m = c.args.core.now in
    let next = turn_next c.args.control.now c.args.ports.now c.args.place in
    let now : IfSome next (λ turn. HasRoomAlready m.plan m.past turn) = elim c.then-has_room.branch [
      | then-has_room-via-then-has_room w ↦ if_all next (λ turn. HasRoomAlready m.plan m.past turn) (λ turn. inl (sym c.has_room.ensures ∙ w.if-has_room.true))
      | then-has_room-via-else-has_room+then-not-needs_room w ↦
          if_some next (λ turn. w.needs_room.result ≡ comes_in turn) (λ turn. HasRoomAlready m.plan m.past turn) (λ turn is. inr (sym is ∙ w.if-not-needs_room.true)) w.needs_room.ensures
    ] in
    let already : (past : List Row) → m.past ≡ past → IfSome next (λ turn. HasRoomAlready m.plan past turn) = λ past same. subst (λ (l : List Row). IfSome next (λ turn. HasRoomAlready m.plan l turn)) same now in
    if_some next (λ turn. HasRoomAlready m.plan m.past turn) (λ turn. HasRoomFor m.plan m.past turn) (λ turn is. room_already m.plan m.past turn is) (already m.past refl)

pub returns-then-has_room-clause-made : goal.returns-then-has_room-clause-made
returns-then-has_room-clause-made g c =
    let m = c.args.core.now in
    let next = turn_next c.args.control.now c.args.ports.now c.args.place in
    let now : IfSome next (λ turn. HasRoomAlready m.plan m.past turn) = elim c.then-has_room.branch [
      | then-has_room-via-then-has_room w ↦ if_all next (λ turn. HasRoomAlready m.plan m.past turn) (λ turn. inl (sym c.has_room.ensures ∙ w.if-has_room.true))
      | then-has_room-via-else-has_room+then-not-needs_room w ↦
          if_some next (λ turn. w.needs_room.result ≡ comes_in turn) (λ turn. HasRoomAlready m.plan m.past turn) (λ turn is. inr (sym is ∙ w.if-not-needs_room.true)) w.needs_room.ensures
    ] in
    let already : (past : List Row) → m.past ≡ past → IfSome next (λ turn. HasRoomAlready m.plan past turn) = λ past same. subst (λ (l : List Row). IfSome next (λ turn. HasRoomAlready m.plan l turn)) same now in
    λ run at. stays m.plan next run (λ x. StandsAt m x) (already run.past at.rows) at

pub returns-then-has_room-clause-turned : goal.returns-then-has_room-clause-turned
returns-then-has_room-clause-turned g c =
    let m = c.args.core.now in
    let next = turn_next c.args.control.now c.args.ports.now c.args.place in
    let now : IfSome next (λ turn. HasRoomAlready m.plan m.past turn) = elim c.then-has_room.branch [
      | then-has_room-via-then-has_room w ↦ if_all next (λ turn. HasRoomAlready m.plan m.past turn) (λ turn. inl (sym c.has_room.ensures ∙ w.if-has_room.true))
      | then-has_room-via-else-has_room+then-not-needs_room w ↦
          if_some next (λ turn. w.needs_room.result ≡ comes_in turn) (λ turn. HasRoomAlready m.plan m.past turn) (λ turn is. inr (sym is ∙ w.if-not-needs_room.true)) w.needs_room.ensures
    ] in
    let already : (past : List Row) → m.past ≡ past → IfSome next (λ turn. HasRoomAlready m.plan past turn) = λ past same. subst (λ (l : List Row). IfSome next (λ turn. HasRoomAlready m.plan l turn)) same now in
    λ run at was. stays m.plan next run (λ x. AreTurned m.plan x.closed) (already run.past at.rows) was

pub returns-then-has_room-clause-told : goal.returns-then-has_room-clause-told
returns-then-has_room-clause-told g c =
    let m = c.args.core.now in
    let next = turn_next c.args.control.now c.args.ports.now c.args.place in
    let now : IfSome next (λ turn. HasRoomAlready m.plan m.past turn) = elim c.then-has_room.branch [
      | then-has_room-via-then-has_room w ↦ if_all next (λ turn. HasRoomAlready m.plan m.past turn) (λ turn. inl (sym c.has_room.ensures ∙ w.if-has_room.true))
      | then-has_room-via-else-has_room+then-not-needs_room w ↦
          if_some next (λ turn. w.needs_room.result ≡ comes_in turn) (λ turn. HasRoomAlready m.plan m.past turn) (λ turn is. inr (sym is ∙ w.if-not-needs_room.true)) w.needs_room.ensures
    ] in
    let already : (past : List Row) → m.past ≡ past → IfSome next (λ turn. HasRoomAlready m.plan past turn) = λ past same. subst (λ (l : List Row). IfSome next (λ turn. HasRoomAlready m.plan l turn)) same now in
    λ run at was. stays m.plan next run (λ x. TellsOf c.args.told.now.entries c.args.told.now.ends.items x.closed) (already run.past at.rows) was

pub returns-then-has_room-clause-journal : goal.returns-then-has_room-clause-journal
returns-then-has_room-clause-journal g c =
    let m = c.args.core.now in
    let next = turn_next c.args.control.now c.args.ports.now c.args.place in
    let now : IfSome next (λ turn. HasRoomAlready m.plan m.past turn) = elim c.then-has_room.branch [
      | then-has_room-via-then-has_room w ↦ if_all next (λ turn. HasRoomAlready m.plan m.past turn) (λ turn. inl (sym c.has_room.ensures ∙ w.if-has_room.true))
      | then-has_room-via-else-has_room+then-not-needs_room w ↦
          if_some next (λ turn. w.needs_room.result ≡ comes_in turn) (λ turn. HasRoomAlready m.plan m.past turn) (λ turn is. inr (sym is ∙ w.if-not-needs_room.true)) w.needs_room.ensures
    ] in
    let already : (past : List Row) → m.past ≡ past → IfSome next (λ turn. HasRoomAlready m.plan past turn) = λ past same. subst (λ (l : List Row). IfSome next (λ turn. HasRoomAlready m.plan l turn)) same now in
    λ run first at was. stays m.plan next run (λ x. IsJournalled g.K.Sink.written g.K.Sink.faults m.plan x.closed first c.args.journal.now) (already run.past at.rows) was

pub pause_inputs-requires-clause-rising : goal.pause_inputs-requires-clause-rising
pause_inputs-requires-clause-rising g c =
    c.requires.valid.ports

pub pause_inputs-requires-clause-full : goal.pause_inputs-requires-clause-full
pause_inputs-requires-clause-full g c =
    sym c.has_room.ensures ∙ c.if-has_room.false

pub finish-requires-clause-planned : goal.finish-requires-clause-planned
finish-requires-clause-planned g c =
    c.requires.planned ∙ ap (λ (x : Machine). ports_planned x.plan) (sym c.pause_inputs.ensures)

pub finish-requires-clause-rising : goal.finish-requires-clause-rising
finish-requires-clause-rising g c =
    subst (λ (x : Machine). IsStrictlyIncreasing (numbers_of x.plan.ports)) (sym c.pause_inputs.ensures) c.requires.valid.ports

pub finish-requires-clause-inputs : goal.finish-requires-clause-inputs
finish-requires-clause-inputs g c =
    paused_inputs c.args.core.now c.pause_inputs.new.core c.pause_inputs.new.core c.pause_inputs.new.core c.pause_inputs.ensures c.requires.valid.ports

pub finish-requires-clause-ticker : goal.finish-requires-clause-ticker
finish-requires-clause-ticker g c =
    paused_ticker c.args.core.now c.pause_inputs.new.core c.pause_inputs.new.core c.pause_inputs.new.core c.pause_inputs.ensures c.requires.ticker

pub finish-requires-clause-quiet : goal.finish-requires-clause-quiet
finish-requires-clause-quiet g c =
    paused_quiet c.args.core.now c.pause_inputs.new.core c.pause_inputs.new.core c.pause_inputs.new.core c.pause_inputs.ensures c.args.ports.now c.requires.quiet

pub close_segment-requires-clause-few : goal.close_segment-requires-clause-few
close_segment-requires-clause-few g c =
    c.requires.few
    ∙ ap (λ (p : Plan). passes_over p (base_of c.args.core.now) []) (sym (plan_closes c.args.core.now c.pause_inputs.new.core c.finish.new.core c.finish.new.core c.pause_inputs.ensures c.finish.ensures.made c.finish.ensures.finished))
    ∙ ap (λ (b : Base). passes_over c.finish.new.core.plan b []) (sym (base_closes c.args.core.now c.pause_inputs.new.core c.finish.new.core c.finish.new.core c.pause_inputs.ensures c.finish.ensures.made c.finish.ensures.finished))

pub turn-requires-clause-finished : goal.turn-requires-clause-finished
turn-requires-clause-finished g c =
    closes_finished c.args.core.now c.pause_inputs.new.core c.finish.new.core c.finish.new.core c.pause_inputs.ensures c.finish.ensures.made c.finish.ensures.finished

pub turn-requires-clause-paused : goal.turn-requires-clause-paused
turn-requires-clause-paused g c =
    closes_shows c.args.core.now c.pause_inputs.new.core c.finish.new.core c.finish.new.core c.pause_inputs.ensures c.finish.ensures.made c.finish.ensures.finished c.requires.valid.ports c.requires.open

pub returns-clause-plan : goal.returns-clause-plan
returns-clause-plan g c =
    c.turn.ensures.plan ∙ plan_closes c.args.core.now c.pause_inputs.new.core c.finish.new.core c.turn.new.self c.pause_inputs.ensures c.finish.ensures.made c.finish.ensures.finished

pub returns-clause-room : goal.returns-clause-room
returns-clause-room g c =
    let m = c.args.core.now in
    let next = turn_next c.args.control.now c.args.ports.now c.args.place in
    if_all next (λ turn. HasRoomFor c.turn.new.self.plan c.turn.new.self.past turn)
    (λ turn. subst (λ (past : List Row). HasRoomFor c.turn.new.self.plan past turn) (sym c.turn.ensures.past) (room_new c.turn.new.self.plan turn (subst IsValidPlan (sym (c.turn.ensures.plan ∙ plan_closes c.args.core.now c.pause_inputs.new.core c.finish.new.core c.turn.new.self c.pause_inputs.ensures c.finish.ensures.made c.finish.ensures.finished)) c.requires.valid)))

pub returns-clause-made : goal.returns-clause-made
returns-clause-made g c =
    let m = c.args.core.now in
    let next = turn_next c.args.control.now c.args.ports.now c.args.place in
    let new = c.turn.new.self in
    let comes : IfSome next (λ turn. true ≡ comes_in turn) =
    if_some next (λ turn. c.needs_room.result ≡ comes_in turn) (λ turn. true ≡ comes_in turn) (λ turn is. sym c.if-not-needs_room.false ∙ is) c.needs_room.ensures in
    let full : (past : List Row) → m.past ≡ past → has_room m.plan past ≡ false = λ past same. ap (has_room m.plan) (sym same) ∙ sym c.has_room.ensures ∙ c.if-has_room.false in
    λ run at. turns m.plan next run (λ x. StandsAt new x) comes (full run.past at.rows) (turned_stands c.args.core.now c.pause_inputs.new.core c.finish.new.core c.turn.new.self c.pause_inputs.ensures c.finish.ensures.made c.finish.ensures.finished run at c.turn.ensures)

pub returns-clause-turned : goal.returns-clause-turned
returns-clause-turned g c =
    let m = c.args.core.now in
    let next = turn_next c.args.control.now c.args.ports.now c.args.place in
    let new = c.turn.new.self in
    let comes : IfSome next (λ turn. true ≡ comes_in turn) =
    if_some next (λ turn. c.needs_room.result ≡ comes_in turn) (λ turn. true ≡ comes_in turn) (λ turn is. sym c.if-not-needs_room.false ∙ is) c.needs_room.ensures in
    let full : (past : List Row) → m.past ≡ past → has_room m.plan past ≡ false = λ past same. ap (has_room m.plan) (sym same) ∙ sym c.has_room.ensures ∙ c.if-has_room.false in
    λ run at was. turns m.plan next run (λ x. AreTurned m.plan x.closed) comes (full run.past at.rows)
    (turned_turned c.args.core.now c.pause_inputs.new.core c.finish.new.core c.turn.new.self c.pause_inputs.ensures c.finish.ensures.made c.finish.ensures.finished run at c.requires.valid.ports c.requires.open c.close_segment.ensures.legal c.close_segment.ensures.octets was)

pub returns-clause-told : goal.returns-clause-told
returns-clause-told g c =
    let m = c.args.core.now in
    let next = turn_next c.args.control.now c.args.ports.now c.args.place in
    let new = c.turn.new.self in
    let comes : IfSome next (λ turn. true ≡ comes_in turn) =
    if_some next (λ turn. c.needs_room.result ≡ comes_in turn) (λ turn. true ≡ comes_in turn) (λ turn is. sym c.if-not-needs_room.false ∙ is) c.needs_room.ensures in
    let full : (past : List Row) → m.past ≡ past → has_room m.plan past ≡ false = λ past same. ap (has_room m.plan) (sym same) ∙ sym c.has_room.ensures ∙ c.if-has_room.false in
    λ run at was. turns m.plan next run (λ x. TellsOf c.close_segment.new.told.entries c.close_segment.new.told.ends.items x.closed) comes (full run.past at.rows)
    (turned_holds c.args.core.now c.pause_inputs.new.core c.finish.new.core c.turn.new.self c.pause_inputs.ensures c.finish.ensures.made c.finish.ensures.finished run at (λ l. TellsOf c.close_segment.new.told.entries c.close_segment.new.told.ends.items l) (c.close_segment.ensures.told run.closed was))

pub returns-clause-journal : goal.returns-clause-journal
returns-clause-journal g c =
    let m = c.args.core.now in
    let next = turn_next c.args.control.now c.args.ports.now c.args.place in
    let new = c.turn.new.self in
    let comes : IfSome next (λ turn. true ≡ comes_in turn) =
    if_some next (λ turn. c.needs_room.result ≡ comes_in turn) (λ turn. true ≡ comes_in turn) (λ turn is. sym c.if-not-needs_room.false ∙ is) c.needs_room.ensures in
    let full : (past : List Row) → m.past ≡ past → has_room m.plan past ≡ false = λ past same. ap (has_room m.plan) (sym same) ∙ sym c.has_room.ensures ∙ c.if-has_room.false in
    λ run first at was.
    let closes = c.finish.new.core in
    let plan_is = plan_closes c.args.core.now c.pause_inputs.new.core c.finish.new.core c.turn.new.self c.pause_inputs.ensures c.finish.ensures.made c.finish.ensures.finished in
    turns m.plan next run (λ x. IsJournalled g.K.Sink.written g.K.Sink.faults m.plan x.closed first c.close_segment.new.journal) comes (full run.past at.rows)
    (turned_holds c.args.core.now c.pause_inputs.new.core c.finish.new.core c.turn.new.self c.pause_inputs.ensures c.finish.ensures.made c.finish.ensures.finished run at (λ l. IsJournalled g.K.Sink.written g.K.Sink.faults m.plan l first c.close_segment.new.journal)
    (subst (λ (p : Plan). IsJournalled g.K.Sink.written g.K.Sink.faults p (closes.past ∷ run.closed) first c.close_segment.new.journal) plan_is
    (c.close_segment.ensures.journal run.closed first (base_told c.args.core.now c.pause_inputs.new.core c.finish.new.core c.turn.new.self c.pause_inputs.ensures c.finish.ensures.made c.finish.ensures.finished run at)
    (subst (λ (p : Plan). IsJournalled g.K.Sink.written g.K.Sink.faults p run.closed first c.args.journal.now) (sym plan_is) was))))
