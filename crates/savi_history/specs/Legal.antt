-- Which histories are right: each row is the row of an event that might come after those before it.
use Rattle.std.specs.Prelude.{◌≡◌, ℕ, ◌+◌, ◌^◌, ◌<◌, ◌≤◌, true, false, List, [], ◌∷◌, length}
use Rattle.savi_kinds.specs.declared.port.Port.{Port}
use Rattle.savi_kinds.specs.declared.plan.Plan.{Plan}
use Rattle.savi_kinds.specs.declared.entry.Who.{Who}
use Rattle.savi_kinds.specs.declared.entry.Who.TheVariants.{Ingress, Control, Ticker, Egress}
use Rattle.savi_kinds.specs.declared.entry.How.{How}
use Rattle.savi_kinds.specs.declared.entry.How.TheVariants as hows
use Rattle.savi_kinds.specs.Ports.{number_of}
use Rattle.hist_store.specs.Rows.{Row}
use Rattle.checkpoint.specs.Bases.{Base}
use Rattle.savi_history.specs.Passes.{has_pass, pass_of, pass_count, control_pass, ticker_pass, has_ended, AllEnded}
use Rattle.savi_history.specs.Limits.{has_room}
use Rattle.savi_history.specs.Endings.{has_pause}
use Rattle.savi_history.specs.Queues.{queue}
use Rattle.savi_history.specs.Moments.{moment_at}
use Rattle.savi_history.specs.Ticks.{HasChangedBy}
use Rattle.savi_history.specs.Events.{Event, Frame, Long, Command, Tick, Drain, End, row_of}

-- a number of 64 bits, and one of 32
abbrev pub IsU64 : ℕ → Type 0
IsU64 n = n < 2 ^ 64

abbrev pub IsU32 : ℕ → Type 0
IsU32 n = n < 2 ^ 32

-- the pass is one of the plan's and hasn't ended
pub record IsOpen (plan : Plan) (base : Base) (past : List Row) (who : Who) : Type 0 where
  pub known : has_pass plan who ≡ true
  pub running : has_ended base (pass_of plan who) past ≡ false

-- an input may come in at a port: its pass is open, and there is room
pub record MayArrive (plan : Plan) (base : Base) (past : List Row) (port : Port) (stamp : ℕ) : Type 0 where
  pub open_pass : IsOpen plan base past (Ingress port)
  pub room : has_room plan past ≡ true
  pub fits : IsU64 stamp

-- a line may come in on control: its pass is open, and there is room
pub record MayCommand (plan : Plan) (base : Base) (past : List Row) (stamp : ℕ) : Type 0 where
  pub open_pass : IsOpen plan base past Control
  pub room : has_room plan past ≡ true
  pub fits : IsU64 stamp

-- a tick may come: the ticker's pass is open, there is room, and some address has another state by its moment
pub record MayTick (plan : Plan) (base : Base) (past : List Row) (stamp : ℕ) : Type 0 where
  pub open_pass : IsOpen plan base past Ticker
  pub room : has_room plan past ≡ true
  pub fits : IsU64 stamp
  pub changed : HasChangedBy plan base past (moment_at base past stamp)

-- every ingress pass and control have ended
abbrev pub InputsEnded : Plan → Base → List Row → Type 0
InputsEnded plan base past = AllEnded base (control_pass plan + 1) past

-- the reasons for which an ingress pass may end: it may be paused where there is no room for another input
abbrev pub MayEndIngress : Plan → List Row → How → Type 0
MayEndIngress plan past hows.End = Unit {0}
MayEndIngress plan past hows.Quit = ⊥
MayEndIngress plan past (hows.Malformed at) = IsU64 at
MayEndIngress plan past (hows.Overlong at) = ⊥
MayEndIngress plan past hows.Failed = Unit {0}
MayEndIngress plan past hows.Unwritten = ⊥
MayEndIngress plan past hows.Paused = has_room plan past ≡ false

abbrev pub MayEndControl : Plan → List Row → How → Type 0
MayEndControl plan past hows.End = Unit {0}
MayEndControl plan past hows.Quit = Unit {0}
MayEndControl plan past (hows.Malformed at) = IsU64 at
MayEndControl plan past (hows.Overlong at) = IsU64 at
MayEndControl plan past hows.Failed = Unit {0}
MayEndControl plan past hows.Unwritten = Unit {0}
MayEndControl plan past hows.Paused = has_room plan past ≡ false

-- the ticker goes on while an input may come; it is paused where an input is
abbrev pub MayEndTicker : Plan → Base → List Row → How → Type 0
MayEndTicker plan base past hows.End = InputsEnded plan base past × (has_pause past ≡ false)
MayEndTicker plan base past hows.Quit = ⊥
MayEndTicker plan base past (hows.Malformed at) = ⊥
MayEndTicker plan base past (hows.Overlong at) = ⊥
MayEndTicker plan base past hows.Failed = ⊥
MayEndTicker plan base past hows.Unwritten = ⊥
MayEndTicker plan base past hows.Paused = InputsEnded plan base past × (has_pause past ≡ true)

-- all passes but those of egresses have ended, and nothing waits at q
abbrev pub HasNothingToSend : Plan → Base → List Row → ℕ → Type 0
HasNothingToSend plan base past q = AllEnded base (ticker_pass plan + 1) past × (queue plan base q past ≡ [])

-- an egress goes on while anything may be queued or waits; it is paused where an input is
abbrev pub MayEndEgress : Plan → Base → List Row → ℕ → How → Type 0
MayEndEgress plan base past q hows.End = HasNothingToSend plan base past q × (has_pause past ≡ false)
MayEndEgress plan base past q hows.Quit = ⊥
MayEndEgress plan base past q (hows.Malformed at) = ⊥
MayEndEgress plan base past q (hows.Overlong at) = ⊥
MayEndEgress plan base past q hows.Failed = Unit {0}
MayEndEgress plan base past q hows.Unwritten = ⊥
MayEndEgress plan base past q hows.Paused = HasNothingToSend plan base past q × (has_pause past ≡ true)

abbrev pub MayEnd : Plan → Base → List Row → Who → How → Type 0
MayEnd plan base past (Ingress p) how = MayEndIngress plan past how
MayEnd plan base past Control how = MayEndControl plan past how
MayEnd plan base past Ticker how = MayEndTicker plan base past how
MayEnd plan base past (Egress p) how = MayEndEgress plan base past (number_of p) how

-- whether an event may come after this past
abbrev pub MayCome : Plan → Base → List Row → Event → Type 0
MayCome plan base past (Frame port stamp octets) = MayArrive plan base past port stamp × (length octets ≤ 1518)
MayCome plan base past (Long port stamp len) = MayArrive plan base past port stamp × (1518 < len) × IsU32 len
MayCome plan base past (Command stamp line) = MayCommand plan base past stamp × (length line ≤ 120)
MayCome plan base past (Tick stamp) = MayTick plan base past stamp
MayCome plan base past (Drain port count) = IsOpen plan base past (Egress port) × (1 ≤ count) × (count ≤ length (queue plan base (number_of port) past))
MayCome plan base past (End who how) = IsOpen plan base past who × MayEnd plan base past who how

-- the row is the row of an event that might come
abbrev pub Stands : Plan → Base → List Row → Row → Type 0
Stands plan base past r = (event : Event) × MayCome plan base past event × (r ≡ row_of plan base past event)

-- the newest row first
abbrev pub IsLegal : Plan → Base → List Row → Type 0
IsLegal plan base [] = Unit {0}
IsLegal plan base (r ∷ past) = Stands plan base past r × IsLegal plan base past

-- every pass of the plan has ended
abbrev pub IsFinished : Plan → Base → List Row → Type 0
IsFinished plan base past = AllEnded base (pass_count plan) past
