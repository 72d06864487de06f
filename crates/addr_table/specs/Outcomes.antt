-- What an event on an address comes to, by the room that its port has before it.
use Rattle.std.specs.Prelude.{ℕ}
use Rattle.savi_kinds.specs.declared.plan.Method.{Method}
use Rattle.fcfs_states.specs.declared.event.Ev.{Ev}
use Rattle.mix_rules.specs.Next.{Outcome, next_state}
use Rattle.savi_access.specs.Rows.{state_in}
use Rattle.addr_table.specs.Addresses.{Addresses}
use Rattle.savi_access.specs.Rooms.{room_for}

-- the answer to an event at t on an address of a prefix of this method, and the state of the address after it
abbrev pub outcome_in : Method → ℕ → Addresses → ℕ → Ev → Outcome
outcome_in m t all a event = next_state m all.times t (room_for all.per_port all.rows event) (state_in all.rows a) event
