-- What a live session was to all its ends: the segments of one history, and by them what each worker left of its own.
use Rattle.std.specs.Prelude.{◌≡◌, ℕ, ◌<◌, List, length, slice_index_or, Option, Some, None}
use Rattle.savi_kinds.specs.declared.plan.Plan.{Plan}
use Rattle.savi_kinds.specs.declared.plan.PortPlan.{PortPlan}
use Rattle.savi_kinds.specs.Ports.{number_of}
use Rattle.savi_ends.specs.declared.world.Ends.{Ends}
use Rattle.hist_store.specs.Rows.{Row}
use Rattle.savi_segments.specs.Segments.{IsWholeSession}
use Rattle.live_session.specs.LiveRows.{IngressRow, EgressRow, ControlRow, NoControlRow, TickerRow}

module _ {S K C : Type 0} (left : S → Option (List ℕ)) (written : K → Option (List ℕ)) (source_faults : S → ℕ)
    (sink_faults : K → ℕ) (readings : C → Option (List ℕ)) (plan : Plan) (segments : List (List Row)) where
  -- of a port, its ends before and after
  abbrev pub PortRow : PortPlan → Ends S K C → Ends S K C → Type 0
  PortRow p old new =
      IngressRow left source_faults readings p.format (number_of p.number) segments old.source new.source old.clock new.clock
      × EgressRow written sink_faults p.format plan (number_of p.number) segments old.sink new.sink

  -- of control, which comes back where it was there
  abbrev pub ControlOf : Option (Ends S K C) → Option (Ends S K C) → Type 0
  ControlOf (Some old) (Some new) = ControlRow left written source_faults sink_faults readings plan segments old new
  ControlOf None None = NoControlRow segments
  ControlOf (Some old) None = ⊥
  ControlOf None (Some new) = ⊥

  -- The segments are those of a session, and each end comes back in its own place, the ports in the order of the plan.
  pub record IsLive (old_ports new_ports : List (Ends S K C)) (old_control new_control : Option (Ends S K C)) (old_clock new_clock : C) : Type 0 where
    pub session : IsWholeSession plan segments
    pub size : length new_ports ≡ length old_ports
    pub ports : (place : ℕ) (p : PortPlan) (d : Ends S K C) → place < length plan.ports → PortRow (slice_index_or plan.ports place p) (slice_index_or old_ports place d) (slice_index_or new_ports place d)
    pub control : ControlOf old_control new_control
    pub ticker : TickerRow readings plan segments old_clock new_clock
