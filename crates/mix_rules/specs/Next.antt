-- What an event comes to, as a function of its parts: the answer, the state of first come, the binding by DHCP. A law says
-- that it is the one row of the table.
use Rattle.std.specs.Prelude.{ℕ, ◌==◌, ◌||◌, Bool, true, false, Option, Some, None, if◌then◌else◌}
use Rattle.savi_kinds.specs.declared.port.Port.{Port}
use Rattle.savi_kinds.specs.declared.plan.Method.{Method}
use Rattle.savi_kinds.specs.declared.plan.Method.TheVariants.{Fcfs as ByFcfs, Dhcp as ByDhcp, Mixed as ByBoth}
use Rattle.savi_kinds.specs.declared.verdict.Rule.TheVariants.{NotAssigned, WrongPort, NaTarget}
use Rattle.savi_kinds.specs.declared.verdict.Scope.TheVariants.{All, TrustedOnly, TrustedAnd}
use Rattle.savi_kinds.specs.declared.verdict.Verdict.{Verdict}
use Rattle.savi_kinds.specs.declared.verdict.Verdict.TheVariants.{Pass, Drop}
use Rattle.savi_kinds.specs.Ports.{number_of}
use Rattle.fcfs_states.specs.declared.answer.Answer.{Answer}
use Rattle.fcfs_states.specs.declared.event.Ev.{Ev}
use Rattle.fcfs_states.specs.declared.event.Ev.TheVariants.{Sent, Dad, Na, TpDad, TpNa, Lease, Release, Fix, Clear}
use Rattle.fcfs_states.specs.declared.state.Fcfs.{Fcfs}
use Rattle.fcfs_states.specs.declared.state.Fcfs.TheVariants.{NoBind, Tentative, Valid, TestLt, TestVp}
use Rattle.fcfs_states.specs.declared.times.Times.{Times}
use Rattle.fcfs_states.specs.Table.{passes, drops}
use Rattle.fcfs_states.specs.Next.{next, silence, is_same}
use Rattle.dhcp_states.specs.declared.bound.Bound.{Bound}
use Rattle.dhcp_states.specs.Bindings.{lease_end, released_at}
use Rattle.mix_rules.specs.declared.state.AddrState.{AddrState}
use Rattle.mix_rules.specs.States.{nobody, owner_of}

-- an answer, and the state after it
abbrev pub Outcome : Type 0
Outcome = Answer × AddrState

abbrev pub is_dhcp : Method → Bool
is_dhcp ByFcfs = false
is_dhcp ByDhcp = true
is_dhcp ByBoth = false

abbrev pub is_fcfs : Method → Bool
is_fcfs ByFcfs = true
is_fcfs ByDhcp = false
is_fcfs ByBoth = false

-- the answer where p owns the address
abbrev pub owned : Port → Ev → Answer
owned p (Sent r) = if is_same r p then passes All None else drops WrongPort None
owned p (Dad r) = if is_same r p then passes TrustedOnly None else passes (TrustedAnd p) None
owned p (Na r) = if is_same r p then passes All None else drops NaTarget None
owned p TpDad = passes (TrustedAnd p) None
owned p TpNa = passes All None
owned p _ = silence

-- the answer where DHCP alone assigns the address, and hasn't
abbrev pub unassigned : Ev → Answer
unassigned (Sent r) = drops NotAssigned None
unassigned (Dad r) = drops NotAssigned None
unassigned (Na r) = drops NaTarget None
unassigned TpDad = passes TrustedOnly None
unassigned TpNa = passes All None
unassigned _ = silence

abbrev pub answer_by : Method → Times → ℕ → Bool → Option Port → Fcfs → Ev → Answer
answer_by m k t room (Some p) fcfs event = owned p event
answer_by m k t room None fcfs event = if is_dhcp m then unassigned event else (next k t room fcfs event).0

-- whether a state of first come beside a binding by DHCP at p takes the event: one of the host at p, or an objection
abbrev pub is_taken_beside : Port → Ev → Bool
is_taken_beside p (Sent r) = is_same r p
is_taken_beside p (Dad r) = is_same r p
is_taken_beside p (Na r) = is_same r p
is_taken_beside p TpNa = true
is_taken_beside p _ = false

-- the state of first come: beside a binding by DHCP none begins, as where no port has room
abbrev pub fcfs_by : Method → Times → ℕ → Bool → Option Port → Fcfs → Option Bound → Ev → Fcfs
fcfs_by m k t room (Some f) fcfs dhcp event = fcfs
fcfs_by m k t room None fcfs (Some bound) event = if is_taken_beside bound.p event then (next k t false fcfs event).1 else fcfs
fcfs_by m k t room None fcfs None event = if is_dhcp m then fcfs else (next k t room fcfs event).1

-- first come has no state, and the port has room
abbrev pub may_claim : Bool → Fcfs → Bool
may_claim room NoBind = room
may_claim room (Tentative p since two) = false
may_claim room (Valid p until) = false
may_claim room (TestLt p since two) = false
may_claim room (TestVp p q since two) = false

-- first come has a state of the port alone
abbrev pub is_only_at : Port → Fcfs → Bool
is_only_at port NoBind = false
is_only_at port (Tentative p since two) = is_same p port
is_only_at port (Valid p until) = is_same p port
is_only_at port (TestLt p since two) = is_same p port
is_only_at port (TestVp p q since two) = false

-- whether a lease binds the address to p
abbrev pub is_granted : Bool → Port → Fcfs → Option Bound → Bool
is_granted room p fcfs (Some bound) = is_same bound.p p || may_claim room fcfs
is_granted room p fcfs None = may_claim room fcfs || is_only_at p fcfs

-- what stands of a binding once the client at p gave the address up
abbrev pub ended_at : Port → Option Bound → Option Bound
ended_at p None = None
ended_at p (Some bound) = released_at (number_of p) bound

-- the binding after a lease of `valid` seconds to the client at p
abbrev pub leased : ℕ → Bool → Port → ℕ → Fcfs → Option Bound → Option Bound
leased t room p valid fcfs dhcp =
    if valid == 0
    then ended_at p dhcp
    else (if is_granted room p fcfs dhcp then Some (record { p = p; until = lease_end valid t }) else dhcp)

abbrev pub bound_by : Method → ℕ → Bool → Option Port → Fcfs → Option Bound → Ev → Option Bound
bound_by m t room (Some f) fcfs dhcp event = dhcp
bound_by m t room None fcfs dhcp (Lease p valid) = if is_fcfs m then dhcp else leased t room p valid fcfs dhcp
bound_by m t room None fcfs dhcp (Release p) = ended_at p dhcp
bound_by m t room None fcfs dhcp _ = dhcp

abbrev pub by_parts : Method → Times → ℕ → Bool → AddrState → Ev → Outcome
by_parts m k t room s event = (
  answer_by m k t room (owner_of s.fixed s.dhcp) s.fcfs event,
  record {
    fixed = s.fixed;
    fcfs = fcfs_by m k t room s.fixed s.fcfs s.dhcp event;
    dhcp = bound_by m t room s.fixed s.fcfs s.dhcp event;
  },
)

-- what an event at t comes to, where room says whether its port may hold one more address
abbrev pub next_state : Method → Times → ℕ → Bool → AddrState → Ev → Outcome
next_state m k t room s (Fix p) = (silence, record nobody { fixed = Some p })
next_state m k t room s Clear = (silence, nobody)
next_state m k t room s event = by_parts m k t room s event

-- the answer lets the frame pass
abbrev pub IsPass : Option Verdict → Type 0
IsPass None = ⊥
IsPass (Some (Pass scope)) = Unit {0}
IsPass (Some (Drop rule)) = ⊥

abbrev pub IsPassing : Answer → Type 0
IsPassing answer = IsPass answer.verdict
