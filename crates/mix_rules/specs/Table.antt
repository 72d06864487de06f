-- The table of both methods together: a line for each case (RFC 8074 for how the methods stand together; the rows are this
-- switch's own). Where neither configuration nor DHCP bound the address, first come has its own table.
use Rattle.std.specs.Prelude.{ℕ, ◌≡◌, ◌≢◌, Bool, true, false, Option, Some, None}
use Rattle.savi_kinds.specs.declared.port.Port.{Port}
use Rattle.savi_kinds.specs.declared.plan.Method.{Method}
use Rattle.savi_kinds.specs.declared.plan.Method.TheVariants.{Fcfs as ByFcfs, Dhcp as ByDhcp}
use Rattle.savi_kinds.specs.declared.verdict.Rule.TheVariants.{NotAssigned, WrongPort, NaTarget}
use Rattle.savi_kinds.specs.declared.verdict.Scope.TheVariants.{All, TrustedOnly, TrustedAnd}
use Rattle.fcfs_states.specs.declared.answer.Answer.{Answer}
use Rattle.fcfs_states.specs.declared.event.Ev.{Ev}
use Rattle.fcfs_states.specs.declared.event.Ev.TheVariants.{Sent, Dad, Na, TpDad, TpNa, Lease, Release, Fix, Clear}
use Rattle.fcfs_states.specs.declared.state.Fcfs.{Fcfs}
use Rattle.fcfs_states.specs.declared.state.Fcfs.TheVariants.{NoBind}
use Rattle.fcfs_states.specs.declared.times.Times.{Times}
use Rattle.fcfs_states.specs.States.{Same}
use Rattle.fcfs_states.specs.Table.{Row as FcfsRow, passes, drops}
use Rattle.fcfs_states.specs.Next.{silence}
use Rattle.dhcp_states.specs.declared.bound.Bound.{Bound}
use Rattle.dhcp_states.specs.Bindings.{lease_end}
use Rattle.mix_rules.specs.declared.state.AddrState.{AddrState}
use Rattle.mix_rules.specs.States.{nobody, IsOf}

-- the address is fixed at f, whatever else there is
abbrev pub fixed_at : Port → Fcfs → Option Bound → AddrState
fixed_at f fcfs dhcp = record { fixed = Some f; fcfs = fcfs; dhcp = dhcp }

-- it isn't fixed: first come has this state, and DHCP this binding
abbrev pub free_with : Fcfs → Option Bound → AddrState
free_with fcfs dhcp = record { fixed = None; fcfs = fcfs; dhcp = dhcp }

-- an event at t, where room says whether its port may hold one more address
module _ (m : Method) (k : Times) (t : ℕ) (room : Bool) where
  -- beside a binding by DHCP first come takes an event by its own table, for its state alone; none begins
  pub data Takes : Fcfs → Ev → Fcfs → Type 0 where
    none_begins : {event : Ev} → Takes NoBind event NoBind
    moves_on : {fcfs new : Fcfs} {event : Ev} {answer : Answer} → fcfs ≢ NoBind → FcfsRow k t room fcfs event answer new → Takes fcfs event new

  -- the binding that a lease of so many seconds to the client at p makes
  abbrev pub lease_to : Port → ℕ → Option Bound
  lease_to p valid = Some (record { p = p; until = lease_end valid t })

  -- the state before, the event, the answer, the state after; f, p are owners, r is the port of the event
  pub data Row : AddrState → Ev → Answer → AddrState → Type 0 where
    -- fixed at f: nothing else decides, and no lease or release changes anything
    fixed_sent : {f r : Port} {fcfs : Fcfs} {dhcp : Option Bound} → Same r f → Row (fixed_at f fcfs dhcp) (Sent r) (passes All None) (fixed_at f fcfs dhcp)
    fixed_na : {f r : Port} {fcfs : Fcfs} {dhcp : Option Bound} → Same r f → Row (fixed_at f fcfs dhcp) (Na r) (passes All None) (fixed_at f fcfs dhcp)
    fixed_dad : {f r : Port} {fcfs : Fcfs} {dhcp : Option Bound} → Same r f → Row (fixed_at f fcfs dhcp) (Dad r) (passes TrustedOnly None) (fixed_at f fcfs dhcp)
    fixed_sent_elsewhere : {f r : Port} {fcfs : Fcfs} {dhcp : Option Bound} → ¬ Same r f → Row (fixed_at f fcfs dhcp) (Sent r) (drops WrongPort None) (fixed_at f fcfs dhcp)
    fixed_dad_elsewhere : {f r : Port} {fcfs : Fcfs} {dhcp : Option Bound} → ¬ Same r f → Row (fixed_at f fcfs dhcp) (Dad r) (passes (TrustedAnd f) None) (fixed_at f fcfs dhcp)
    fixed_na_elsewhere : {f r : Port} {fcfs : Fcfs} {dhcp : Option Bound} → ¬ Same r f → Row (fixed_at f fcfs dhcp) (Na r) (drops NaTarget None) (fixed_at f fcfs dhcp)
    fixed_trusted_dad : {f : Port} {fcfs : Fcfs} {dhcp : Option Bound} → Row (fixed_at f fcfs dhcp) TpDad (passes (TrustedAnd f) None) (fixed_at f fcfs dhcp)
    fixed_trusted_na : {f : Port} {fcfs : Fcfs} {dhcp : Option Bound} → Row (fixed_at f fcfs dhcp) TpNa (passes All None) (fixed_at f fcfs dhcp)
    fixed_lease : {f r : Port} {valid : ℕ} {fcfs : Fcfs} {dhcp : Option Bound} → Row (fixed_at f fcfs dhcp) (Lease r valid) silence (fixed_at f fcfs dhcp)
    fixed_release : {f r : Port} {fcfs : Fcfs} {dhcp : Option Bound} → Row (fixed_at f fcfs dhcp) (Release r) silence (fixed_at f fcfs dhcp)
    -- bound by DHCP: the port's own events and objections are taken by first come, for itself
    bound_sent : {bound : Bound} {r : Port} {fcfs new : Fcfs} → Same r bound.p → Takes fcfs (Sent r) new → Row (free_with fcfs (Some bound)) (Sent r) (passes All None) (free_with new (Some bound))
    bound_na : {bound : Bound} {r : Port} {fcfs new : Fcfs} → Same r bound.p → Takes fcfs (Na r) new → Row (free_with fcfs (Some bound)) (Na r) (passes All None) (free_with new (Some bound))
    bound_dad : {bound : Bound} {r : Port} {fcfs new : Fcfs} → Same r bound.p → Takes fcfs (Dad r) new → Row (free_with fcfs (Some bound)) (Dad r) (passes TrustedOnly None) (free_with new (Some bound))
    bound_sent_elsewhere : {bound : Bound} {r : Port} {fcfs : Fcfs} → ¬ Same r bound.p → Row (free_with fcfs (Some bound)) (Sent r) (drops WrongPort None) (free_with fcfs (Some bound))
    bound_dad_elsewhere : {bound : Bound} {r : Port} {fcfs : Fcfs} → ¬ Same r bound.p → Row (free_with fcfs (Some bound)) (Dad r) (passes (TrustedAnd bound.p) None) (free_with fcfs (Some bound))
    bound_na_elsewhere : {bound : Bound} {r : Port} {fcfs : Fcfs} → ¬ Same r bound.p → Row (free_with fcfs (Some bound)) (Na r) (drops NaTarget None) (free_with fcfs (Some bound))
    bound_trusted_dad : {bound : Bound} {fcfs : Fcfs} → Row (free_with fcfs (Some bound)) TpDad (passes (TrustedAnd bound.p) None) (free_with fcfs (Some bound))
    bound_trusted_na : {bound : Bound} {fcfs new : Fcfs} → Takes fcfs TpNa new → Row (free_with fcfs (Some bound)) TpNa (passes All None) (free_with new (Some bound))
    -- without an owner, where DHCP alone assigns addresses
    unassigned_sent : {r : Port} {fcfs : Fcfs} → m ≡ ByDhcp → Row (free_with fcfs None) (Sent r) (drops NotAssigned None) (free_with fcfs None)
    unassigned_dad : {r : Port} {fcfs : Fcfs} → m ≡ ByDhcp → Row (free_with fcfs None) (Dad r) (drops NotAssigned None) (free_with fcfs None)
    unassigned_na : {r : Port} {fcfs : Fcfs} → m ≡ ByDhcp → Row (free_with fcfs None) (Na r) (drops NaTarget None) (free_with fcfs None)
    unassigned_trusted_dad : {fcfs : Fcfs} → m ≡ ByDhcp → Row (free_with fcfs None) TpDad (passes TrustedOnly None) (free_with fcfs None)
    unassigned_trusted_na : {fcfs : Fcfs} → m ≡ ByDhcp → Row (free_with fcfs None) TpNa (passes All None) (free_with fcfs None)
    -- without an owner, where addresses are had by first come (alone or beside DHCP): the rows of its own table
    by_first_come : {fcfs new : Fcfs} {event : Ev} {answer : Answer} → m ≢ ByDhcp → FcfsRow k t room fcfs event answer new → Row (free_with fcfs None) event answer (free_with new None)
    -- a lease: none where DHCP assigns nothing
    lease_in_fcfs_prefix : {r : Port} {valid : ℕ} {fcfs : Fcfs} {dhcp : Option Bound} → m ≡ ByFcfs → Row (free_with fcfs dhcp) (Lease r valid) silence (free_with fcfs dhcp)
    -- of lifetime 0: it ends a binding of that port, and nothing else
    lease_of_0 : {bound : Bound} {r : Port} {fcfs : Fcfs} → m ≢ ByFcfs → Same bound.p r → Row (free_with fcfs (Some bound)) (Lease r 0) silence (free_with fcfs None)
    lease_of_0_elsewhere : {bound : Bound} {r : Port} {fcfs : Fcfs} → m ≢ ByFcfs → ¬ Same bound.p r → Row (free_with fcfs (Some bound)) (Lease r 0) silence (free_with fcfs (Some bound))
    lease_of_0_unbound : {r : Port} {fcfs : Fcfs} → m ≢ ByFcfs → Row (free_with fcfs None) (Lease r 0) silence (free_with fcfs None)
    -- of an address that is bound: renewed, or moved to a port with room if first come has no state, or left
    lease_renews : {bound : Bound} {r : Port} {valid : ℕ} {fcfs : Fcfs} → m ≢ ByFcfs → valid ≢ 0 → Same bound.p r → Row (free_with fcfs (Some bound)) (Lease r valid) silence (free_with fcfs (lease_to r valid))
    lease_moves : {bound : Bound} {r : Port} {valid : ℕ} → m ≢ ByFcfs → valid ≢ 0 → ¬ Same bound.p r → room ≡ true → Row (free_with NoBind (Some bound)) (Lease r valid) silence (free_with NoBind (lease_to r valid))
    lease_elsewhere_full : {bound : Bound} {r : Port} {valid : ℕ} → m ≢ ByFcfs → valid ≢ 0 → ¬ Same bound.p r → room ≡ false → Row (free_with NoBind (Some bound)) (Lease r valid) silence (free_with NoBind (Some bound))
    lease_elsewhere_claimed : {bound : Bound} {r : Port} {valid : ℕ} {fcfs : Fcfs} → m ≢ ByFcfs → valid ≢ 0 → ¬ Same bound.p r → fcfs ≢ NoBind → Row (free_with fcfs (Some bound)) (Lease r valid) silence (free_with fcfs (Some bound))
    -- of an address that isn't bound: made at a port with room if first come has no state, or at the port that alone has one
    lease_makes : {r : Port} {valid : ℕ} → m ≢ ByFcfs → valid ≢ 0 → room ≡ true → Row (free_with NoBind None) (Lease r valid) silence (free_with NoBind (lease_to r valid))
    lease_makes_beside : {r : Port} {valid : ℕ} {fcfs : Fcfs} → m ≢ ByFcfs → valid ≢ 0 → fcfs ≢ NoBind → IsOf r fcfs → Row (free_with fcfs None) (Lease r valid) silence (free_with fcfs (lease_to r valid))
    lease_unbound_full : {r : Port} {valid : ℕ} → m ≢ ByFcfs → valid ≢ 0 → room ≡ false → Row (free_with NoBind None) (Lease r valid) silence (free_with NoBind None)
    lease_unbound_claimed : {r : Port} {valid : ℕ} {fcfs : Fcfs} → m ≢ ByFcfs → valid ≢ 0 → ¬ IsOf r fcfs → Row (free_with fcfs None) (Lease r valid) silence (free_with fcfs None)
    -- a release ends a binding of that port, and nothing else
    release_ends : {bound : Bound} {r : Port} {fcfs : Fcfs} → Same bound.p r → Row (free_with fcfs (Some bound)) (Release r) silence (free_with fcfs None)
    release_elsewhere : {bound : Bound} {r : Port} {fcfs : Fcfs} → ¬ Same bound.p r → Row (free_with fcfs (Some bound)) (Release r) silence (free_with fcfs (Some bound))
    release_unbound : {r : Port} {fcfs : Fcfs} → Row (free_with fcfs None) (Release r) silence (free_with fcfs None)
    -- the operator
    fix : {s : AddrState} {f : Port} → Row s (Fix f) silence (fixed_at f NoBind None)
    clear : {s : AddrState} → Row s Clear silence nobody
