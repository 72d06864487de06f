-- A legal history has at most as many entries as its plan allows.
use Rattle.std.proofs.Common.{◌≡◌, ℕ, ◌+◌, ◌*◌, ◌<◌, ◌≤◌, ◌==◌, nat_lt, nat_le, if◌then◌else◌, Bool, true, false, List, [], ◌∷◌, length, drop, get_or, inl, inr, refl, sym, subst, arith, length-drop}
use Rattle.std.proofs.lemmas.Bool.{cases_lt, ltb-true, and_parts, eq-eqb, false≢true, or_left, or_right}
use Rattle.savi_kinds.specs.declared.plan.Plan.{Plan}
use Rattle.savi_kinds.specs.declared.port.Port.{Port}
use Rattle.savi_kinds.specs.declared.entry.Who.{Who}
use Rattle.savi_kinds.specs.declared.entry.How.{How}
use Rattle.savi_kinds.specs.Ports.{number_of}
use Rattle.savi_kinds.specs.ValidPlan.{IsValidPlan, numbers_of}
use Rattle.hist_store.specs.Rows.{Row, held}
use Rattle.checkpoint.specs.Bases.{Base}
use Rattle.savi_history.specs.Passes.{has_ended, has_port, pass_of, place_of, pass_count}
use Rattle.savi_history.specs.Limits.{has_room}
use Rattle.savi_history.specs.Queues.{Item, queue}
use Rattle.savi_history.specs.Events.{Event, Frame, Long, Command, Tick, Drain, End, row_of}
use Rattle.savi_history.specs.Legal.{IsOpen, MayCome, Stands, IsLegal}
use Rattle.savi_history.proofs.Depth.{queue_within, length_dropped, ended_fewer}
use Rattle.savi_core.specs.Counts.{still_to_come, count_waiting, open_below}
use Rattle.savi_core.proofs.Places.{placed, pass_within, length-numbers}
use Rattle.savi_core.proofs.Counting.{open_below-le, open_below-later, open_below-ended, waiting_at-le, waiting_at-later, waiting_at-taken}

-- what waits and the passes that are open are few
few_to_come : (plan : Plan) (base : Base) (past : List Row) → IsValidPlan plan → still_to_come plan base past ≤ 4130
few_to_come plan base past valid =
    let wait : count_waiting plan base past (numbers_of plan.ports) ≤ 256 * length (numbers_of plan.ports) =
    waiting_at-le plan base past 256 (numbers_of plan.ports) (λ n within. omega (arith, queue_within plan base (get_or (numbers_of plan.ports) n 0) past, valid.depth.1)) in
    omega (arith, wait, length-numbers plan.ports, open_below-le base past (pass_count plan), valid.port_count.1)

room_is : (plan : Plan) (past : List Row) → has_room plan past ≡ true → length past + 4130 < plan.entries
room_is plan past room = ltb-true (length past + 4130) plan.entries (and_parts (nat_lt (length past + 4130) plan.entries) (nat_le (held past + 1518) plan.bytes) room).0

dropped_less : (b : Bool) (count : ℕ) (items : List Item) → b ≡ true → 1 ≤ count → count ≤ length items → length (if b then drop count items else items) < length items
dropped_less true count items is some few = omega (arith, length-drop count items, some, few)
dropped_less false count items is some few = absurd (false≢true is)

module _ (plan : Plan) (base : Base) (past : List Row) where
  -- a drain takes what waits
  drain_less : (port : Port) (count : ℕ) → has_port plan (number_of port) ≡ true → 1 ≤ count → count ≤ length (queue plan base (number_of port) past)
      → still_to_come plan base (row_of plan base past (Drain port count) ∷ past) + 1 ≤ still_to_come plan base past
  drain_less port count known some few =
      let number = number_of port in
      let row : Row = row_of plan base past (Drain port count) in
      let place = placed plan number known in
      let fewer : length (queue plan base number (row ∷ past)) < length (queue plan base number past) =
      dropped_less (number == number) count (queue plan base number past) (eq-eqb number number refl) some few in
      let there : length (queue plan base (get_or (numbers_of plan.ports) (place_of plan number) 0) (row ∷ past)) < length (queue plan base (get_or (numbers_of plan.ports) (place_of plan number) 0) past) =
      subst (λ (n : ℕ). length (queue plan base n (row ∷ past)) < length (queue plan base n past)) (sym place.number_is) fewer in
      let opened : open_below base (row ∷ past) (pass_count plan) ≤ open_below base past (pass_count plan) = open_below-later base past (row ∷ past) (λ pass before. before) (pass_count plan) in
      omega (
        arith,
        opened,
        waiting_at-taken plan base past (row ∷ past) (λ n. length_dropped (number == n) count (queue plan base n past)) (numbers_of plan.ports) (place_of plan number) place.within there,
      )

  -- an end closes a pass
  end_less : (who : Who) (how : How) → IsOpen plan base past who → still_to_come plan base (row_of plan base past (End who how) ∷ past) + 1 ≤ still_to_come plan base past
  end_less who how open_pass =
      let row : Row = row_of plan base past (End who how) in
      let pass = pass_of plan who in
      let now_ended : has_ended base pass (row ∷ past) ≡ true = or_left (pass == pass) (has_ended base pass past) (eq-eqb pass pass refl) in
      omega (
        arith,
        waiting_at-later plan base past (row ∷ past) (λ n. ended_fewer plan base past n row who how (queue plan base n past)) (numbers_of plan.ports),
        open_below-ended base past (row ∷ past) (λ q before. or_right (pass == q) (has_ended base q past) before) pass (pass_count plan) (pass_within plan who open_pass.known) open_pass.running now_ended,
      )

-- near the end of its room a history has room for all that may still come
abbrev HasRoomForAll : Plan → Base → List Row → Type 0
HasRoomForAll plan base past = plan.entries < length past + 4130 → length past + still_to_come plan base past ≤ plan.entries

one_less : (plan : Plan) (base : Base) (past : List Row) (later : ℕ) → IsValidPlan plan → HasRoomForAll plan base past → later + 1 ≤ still_to_come plan base past → plan.entries < length past + 1 + 4130
    → length past + 1 + later ≤ plan.entries
one_less plan base past later valid before less near =
    elim (cases_lt plan.entries (length past + 4130)) [
      | inl nearer ↦ omega (arith, before nearer, less)
      | inr far ↦ omega (arith, far, few_to_come plan base past valid, less)
    ]

next_room : (plan : Plan) (base : Base) (past : List Row) (event : Event) → IsValidPlan plan → HasRoomForAll plan base past → MayCome plan base past event → plan.entries < length past + 1 + 4130
    → length past + 1 + still_to_come plan base (row_of plan base past event ∷ past) ≤ plan.entries
next_room plan base past (Frame port stamp octets) valid before may near = absurd (omega (arith, near, room_is plan past may.0.room))
next_room plan base past (Long port stamp len) valid before may near = absurd (omega (arith, near, room_is plan past may.0.room))
next_room plan base past (Command stamp line) valid before may near = absurd (omega (arith, near, room_is plan past may.0.room))
next_room plan base past (Tick stamp) valid before may near = absurd (omega (arith, near, room_is plan past may.room))
next_room plan base past (Drain port count) valid before may near =
    one_less plan base past (still_to_come plan base (row_of plan base past (Drain port count) ∷ past)) valid before (drain_less plan base past port count may.0.known may.1 may.2) near
next_room plan base past (End who how) valid before may near =
    one_less plan base past (still_to_come plan base (row_of plan base past (End who how) ∷ past)) valid before (end_less plan base past who how may.0) near

room_for_all : (plan : Plan) (base : Base) → IsValidPlan plan → (past : List Row) → IsLegal plan base past → HasRoomForAll plan base past
room_for_all plan base valid [] legal near = absurd (omega (arith, near, valid.entries.0))
room_for_all plan base valid (row ∷ past) legal near =
    let stands : Stands plan base past row = legal.0 in
    let next : length past + 1 + still_to_come plan base (row_of plan base past stands.0 ∷ past) ≤ plan.entries =
    next_room plan base past stands.0 valid (room_for_all plan base valid past legal.1) stands.1 (omega (arith, near)) in
    let same : length past + 1 + still_to_come plan base (row ∷ past) ≤ plan.entries = subst (λ (r : Row). length past + 1 + still_to_come plan base (r ∷ past) ≤ plan.entries) (sym stands.2) next in
    omega (arith, same)

pub few_entries : (plan : Plan) (base : Base) → IsValidPlan plan → (past : List Row) → IsLegal plan base past → length past ≤ plan.entries
few_entries plan base valid past legal =
    elim (cases_lt plan.entries (length past + 4130)) [
      | inl near ↦ omega (arith, room_for_all plan base valid past legal near)
      | inr far ↦ omega (arith, far)
    ]
