-- How a session begins: its memory, and who serves its ends.
use Rattle.std.specs.Prelude.{◌≡◌, ◌≤◌, false, [], length, vec_capacity, vec_len, IfSome, is_some}
use Rattle.savi_kinds.specs.declared.plan.Plan.{Plan}
use Rattle.checkpoint.specs.Bases.{empty}
use Rattle.savi_segments.specs.Journals.{journal_of}
use Rattle.savi_history.specs.Passes.{pass_count}
use Rattle.table_lock.specs.Passes.{lock_seats}
use Rattle.journal_write.specs.declared.journal.Journal.{Journal}
use Rattle.live_turns.specs.Seats.{lock_base, lock_plan}
use Rattle.live_switch.specs.declared.ready.Ready.{Ready}
use Rattle.live_switch.specs.declared.room.Locked.{Locked}
use Rattle.live_switch.specs.declared.room.Room.{Room}
use Rattle.live_switch.specs.declared.segments.Start.{Start}
use Rattle.live_switch.specs.declared.services.Service.{Service}
use Rattle.live_switch.specs.declared.sessions.Begun.{Begun}
use Rattle.live_switch.specs.Dealt.{AreFor}
use Rattle.live_switch.specs.Open.{AreOpenIn}
use Rattle.live_switch.specs.Seated.{AreSeats, IsLineSeat}
use Rattle.live_switch.specs.Sharing.{ArePorts, IsControlDealt}

-- a new switch of this plan under its lock, with the passes of all its workers, and the header of its journal
pub record IsLocked (plan : Plan) (first : Locked) : Type 0 where
  pub plan_is : lock_plan first.lock ≡ plan
  pub base : lock_base first.lock ≡ empty
  pub seats : lock_seats first.lock ≡ pass_count plan
  pub passes : AreFor first.lock (length plan.ports) first.passes.items
  pub going : AreOpenIn first.lock first.going.items
  pub header : first.header.items ≡ journal_of plan []

-- there is a seat for each end, and room for a reader and what serves the port behind it
pub record FitsRoom {S K C : Type 0} (ready : Ready S K C) (room : Room S K C) : Type 0 where
  pub plan : Plan
  pub size : vec_len ready.ports ≡ length plan.ports
  pub seats : AreSeats plan.ports (length plan.ports) room.seats.items
  pub there : is_some room.line_seat ≡ is_some ready.control
  pub line_seat : IfSome room.line_seat IsLineSeat
  pub readers : (room.readers.items ≡ []) × (length plan.ports ≤ vec_capacity room.readers)
  pub services : (room.services.items ≡ []) × (length plan.ports ≤ vec_capacity room.services)
  pub buffer : room.buffer ≡ record { octets = []; room = 131072 }
  pub first : IsLocked plan room.first

-- nothing was written or told yet
pub record IsStartOf {K C : Type 0} (first : Locked) (service : Service K C) (journal : Journal K) (start : Start K C) : Type 0 where
  pub lock : (start.lock ≡ first.lock) × (start.passes ≡ first.passes) × (start.going ≡ first.going) × (start.header ≡ first.header)
  pub service_is : start.course.service ≡ service
  pub journal_is : start.course.journal ≡ journal
  pub none : start.course.told.entries ≡ 0
  pub no_ends : start.course.told.ends.items ≡ []

-- The ends were dealt to who serves them, in their order, and the vector in which those of the ports came is empty.
pub record HasDealt {S K C : Type 0} (ready : Ready S K C) (room : Room S K C) (begun : Begun S K C) : Type 0 where
  pub emptied : begun.ports.items ≡ []
  pub capacity : vec_capacity begun.ports ≡ vec_capacity ready.ports
  pub ports : ArePorts ready.ports.items room.seats.items [] begun.readers.ports.items [] begun.start.course.service.ports.items
  pub control : IsControlDealt ready.control room.line_seat begun.readers.control begun.start.course.service.control
  pub ticker : begun.start.course.service.ticker.clock ≡ ready.ticker
  pub first : (begun.start.lock ≡ room.first.lock) × (begun.start.passes ≡ room.first.passes) × (begun.start.going ≡ room.first.going) × (begun.start.header ≡ room.first.header)
  pub journal : begun.start.course.journal ≡ record { sink = ready.journal; buffer = room.buffer; failed = false }
  pub none : begun.start.course.told.entries ≡ 0
  pub no_ends : begun.start.course.told.ends.items ≡ []
