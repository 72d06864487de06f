-- What the state of an address says under both methods: whose it is, where it is live and held, and when it is sound (RFC
-- 8074 for the two methods together, RFC 6620 section 3.2 and RFC 7513 section 5 for each).
use Rattle.std.specs.Prelude.{ℕ, ◌≡◌, ◌==◌, ◌||◌, ◌⊎◌, Bool, true, false, Option, Some, None}
use Rattle.savi_kinds.specs.declared.port.Port.{Port}
use Rattle.savi_kinds.specs.declared.plan.Method.{Method}
use Rattle.savi_kinds.specs.declared.plan.Method.TheVariants.{Fcfs as ByFcfs, Dhcp as ByDhcp, Mixed as ByBoth}
use Rattle.savi_kinds.specs.Ports.{number_of}
use Rattle.fcfs_states.specs.declared.state.Fcfs.{Fcfs}
use Rattle.fcfs_states.specs.declared.state.Fcfs.TheVariants.{NoBind, Tentative, Valid, TestLt, TestVp}
use Rattle.fcfs_states.specs.States.{Same, IsSound, IsLive, IsHeld}
use Rattle.dhcp_states.specs.declared.bound.Bound.{Bound}
use Rattle.mix_rules.specs.declared.state.AddrState.{AddrState}

-- no port has the address
abbrev pub nobody : AddrState
nobody = record { fixed = None; fcfs = NoBind; dhcp = None }

-- whether the address has a state: not so at `nobody` alone
abbrev pub has_state_by : Option Port → Fcfs → Option Bound → Bool
has_state_by None NoBind None = false
has_state_by None NoBind (Some bound) = true
has_state_by None (Tentative p since two) dhcp = true
has_state_by None (Valid p until) dhcp = true
has_state_by None (TestLt p since two) dhcp = true
has_state_by None (TestVp p q since two) dhcp = true
has_state_by (Some f) fcfs dhcp = true

abbrev pub has_state : AddrState → Bool
has_state s = has_state_by s.fixed s.fcfs s.dhcp

-- the port that has the address whatever its host says: the one to which it is fixed, else the one to which DHCP bound it
abbrev pub owner_of : Option Port → Option Bound → Option Port
owner_of (Some f) dhcp = Some f
owner_of None (Some bound) = Some bound.p
owner_of None None = None

-- the address is live at the port: it is the owner's or, without an owner, that of first come, first served
abbrev pub IsLiveBy : Option Port → Fcfs → Port → Type 0
IsLiveBy (Some p) fcfs port = Same p port
IsLiveBy None fcfs port = IsLive fcfs port

abbrev pub IsLiveAt : AddrState → Port → Type 0
IsLiveAt s port = IsLiveBy (owner_of s.fixed s.dhcp) s.fcfs port

abbrev pub IsFixedAt : Option Port → Port → Type 0
IsFixedAt (Some f) port = Same f port
IsFixedAt None port = ⊥

abbrev pub IsBoundAt : Option Bound → Port → Type 0
IsBoundAt (Some bound) port = Same bound.p port
IsBoundAt None port = ⊥

-- the port holds the address, as one of those that it may hold: by any of the three parts
abbrev pub IsHeldAt : AddrState → Port → Type 0
IsHeldAt s port = IsFixedAt s.fixed port ⊎ IsBoundAt s.dhcp port ⊎ IsHeld s.fcfs port

-- the same as tests, by the port's number, for counting
abbrev pub is_fixed_to : ℕ → Option Port → Bool
is_fixed_to port (Some f) = number_of f == port
is_fixed_to port None = false

abbrev pub is_bound_to : ℕ → Option Bound → Bool
is_bound_to port (Some bound) = number_of bound.p == port
is_bound_to port None = false

abbrev pub is_held_in : ℕ → Fcfs → Bool
is_held_in port NoBind = false
is_held_in port (Tentative p since two) = number_of p == port
is_held_in port (Valid p until) = number_of p == port
is_held_in port (TestLt p since two) = number_of p == port
is_held_in port (TestVp p q since two) = number_of p == port || number_of q == port

abbrev pub is_held_at : ℕ → AddrState → Bool
is_held_at port s = is_fixed_to port s.fixed || is_bound_to port s.dhcp || is_held_in port s.fcfs

-- where the address is fixed there is nothing else
abbrev pub IsAlone : Option Port → Fcfs → Option Bound → Type 0
IsAlone (Some f) fcfs dhcp = (fcfs ≡ NoBind) × (dhcp ≡ None)
IsAlone None fcfs dhcp = Unit {0}

-- a state of first come that may stand beside a binding by DHCP at the port: none, or the port's own, with no rival
abbrev pub IsOf : Port → Fcfs → Type 0
IsOf port NoBind = Unit {0}
IsOf port (Tentative p since two) = Same p port
IsOf port (Valid p until) = Same p port
IsOf port (TestLt p since two) = Same p port
IsOf port (TestVp p q since two) = ⊥

abbrev pub IsBeside : Option Bound → Fcfs → Type 0
IsBeside (Some bound) fcfs = IsOf bound.p fcfs
IsBeside None fcfs = Unit {0}

-- each method by itself makes no state of the other one
abbrev pub IsOfMethod : Method → Fcfs → Option Bound → Type 0
IsOfMethod ByFcfs fcfs dhcp = dhcp ≡ None
IsOfMethod ByDhcp fcfs dhcp = fcfs ≡ NoBind
IsOfMethod ByBoth fcfs dhcp = Unit {0}

-- a state that an address of a prefix of this method can have: the last part says that a rival isn't the holder
pub record IsSoundFor (m : Method) (s : AddrState) : Type 0 where
  pub alone : IsAlone s.fixed s.fcfs s.dhcp
  pub beside : IsBeside s.dhcp s.fcfs
  pub method : IsOfMethod m s.fcfs s.dhcp
  pub rival : IsSound s.fcfs
