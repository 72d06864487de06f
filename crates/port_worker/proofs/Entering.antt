-- The turn of a port, entered.
use Rattle.std.proofs.Common.{◌≡◌, true, false, refl, sym, ap, ◌∙◌}
use Rattle.savi_kinds.specs.declared.port.Port.{Port}
use Rattle.savi_kinds.specs.Arrivals.{Arrival}
use Rattle.savi_kinds.specs.Arrivals as arrivals
use Rattle.savi_history.specs.Limits.{has_room}
use Rattle.savi_history.specs.Turns.{Arrives}
use Rattle.savi_history.specs.Replay as replay
use Rattle.savi_core.specs.Machines.{Machine, base_of, with_event}
use Rattle.savi_core.specs.Steps.{Did, HasNoRoomFor, IsIdle}
use Rattle.savi_core.specs.declared.event.Stepped.{Stepped}
use Rattle.savi_core.specs.declared.event.Stepped.TheVariants as stepped
use Rattle.port_worker.specs.Steps.{Enters}

no_room : (m : Machine) (port : Port) (arrival : Arrival) → HasNoRoomFor m (replay.event_of port arrival) → has_room m.plan m.past ≡ false
no_room m port (arrivals.Frame stamp octets) has = has
no_room m port (arrivals.Long stamp len) has = has

-- an arrival is always worth an entry
never_idle : (m : Machine) (port : Port) (arrival : Arrival) → IsIdle m (replay.event_of port arrival) → ⊥
never_idle m port (arrivals.Frame stamp octets) idle = idle
never_idle m port (arrivals.Long stamp len) idle = idle

module _ (old new : Machine) (port : Port) (arrival : Arrival) (room : has_room old.plan old.past ≡ true) where
  -- an arrival for which there is room is entered
  did_arrival : (answer : Stepped) → Did old (replay.event_of port arrival) new answer → new ≡ with_event old (replay.event_of port arrival)
  did_arrival (stepped.Done entry) did = did.2
  did_arrival (stepped.Full len) did = let e : true ≡ false = sym room ∙ no_room old port arrival did.0 in cc
  did_arrival stepped.Nothing did = absurd (never_idle old port arrival did.1)

  pub entered_arrival : (answer : Stepped) → Did old (replay.event_of port arrival) new answer → Enters old.plan (base_of old) port (Arrives port arrival) old.past true new.past
  entered_arrival answer did = (arrival, refl, ap (λ (m : Machine). m.past) (did_arrival answer did))
