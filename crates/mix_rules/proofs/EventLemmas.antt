-- What one event keeps.
use Rattle.std.proofs.Common.{◌≡◌, ℕ, ◌<◌, ◌≤◌, ◌^◌, Bool, true, false, ◌⊎◌, refl, Option, Some, None, rules, ◌↔◌, if◌then◌else◌}
use Rattle.savi_kinds.specs.declared.port.Port.{Port}
use Rattle.savi_kinds.specs.declared.plan.Method.{Method}
use Rattle.fcfs_states.specs.declared.answer.Answer.{Answer}
use Rattle.fcfs_states.specs.declared.event.Ev.{Ev}
use Rattle.fcfs_states.specs.declared.event.Ev.TheVariants.{Sent, Dad, Na, TpDad, TpNa, Lease, Release, Fix, Clear}
use Rattle.fcfs_states.specs.declared.state.Fcfs.{Fcfs}
use Rattle.fcfs_states.specs.declared.state.Fcfs.TheVariants.{NoBind}
use Rattle.fcfs_states.specs.declared.times.Times.{Times}
use Rattle.fcfs_states.specs.States.{Same}
use Rattle.fcfs_states.specs.FirstCome.{IsTestOf, IsHeardAt}
use Rattle.fcfs_states.specs.Next.{next}
use Rattle.fcfs_states.specs.Premises.{AreTimes, MomentsFit, IsFcfsEvent}
use Rattle.fcfs_states.specs.Ageing.{IsRested}
use Rattle.fcfs_states.specs.Table.{Row as FcfsRow}
use Rattle.fcfs_states.proofs.TableLemmas.{Row-next as FcfsRow-next}
use Rattle.fcfs_states.proofs.RowLemmas.{Row-fits, Row-rested}
use Rattle.fcfs_states.proofs.AgeingLemmas.{rested_none}
use Rattle.dhcp_states.specs.declared.bound.Bound.{Bound}
use Rattle.mix_rules.specs.declared.state.AddrState.{AddrState}
use Rattle.mix_rules.specs.States.{IsSoundFor, IsLiveAt}
use Rattle.mix_rules.specs.Ageing.{bound_at, bound_end, IsStill}
use Rattle.mix_rules.specs.Premises.{IsLow, AllMomentsFit, IsLeaseInRange}
use Rattle.mix_rules.specs.FirstCome.{IsOwnedAt}
use Rattle.mix_rules.specs.Next.{next_state, fcfs_by, is_dhcp, is_taken_beside, IsPassing}
use Rattle.mix_rules.specs.Ends.{IsByOperator, EndsByEvent}

pub next-sound : (m : Method) (k : Times) (t : ℕ) (room : Bool) (s : AddrState) (event : Ev) → IsSoundFor m s → IsSoundFor m (next_state m k t room s event).1
next-sound m k t room s event sound = search rules

pub next-live : (m : Method) (k : Times) (t : ℕ) (room : Bool) (s : AddrState) (event : Ev) (port : Port) → IsLiveAt s port → ¬ IsLiveAt (next_state m k t room s event).1 port → IsByOperator event ⊎ EndsByEvent port event s (next_state m k t room s event).1
next-live m k t room s event port live over = search rules

pub next-owned : (m : Method) (k : Times) (t : ℕ) (room : Bool) (s : AddrState) (event : Ev) (port : Port) → IsOwnedAt s port → ¬ IsOwnedAt (next_state m k t room s event).1 port → IsByOperator event ⊎ EndsByEvent port event s (next_state m k t room s event).1
next-owned m k t room s event port owned over = search rules

pub next-test : (m : Method) (k : Times) (t : ℕ) (room : Bool) (s : AddrState) (event : Ev) (port : Port) (since : ℕ) → IsSoundFor m s → IsTestOf port since (next_state m k t room s event).1.fcfs → since < t → (¬ IsHeardAt port event) × ((next_state m k t room s event).1.fcfs ≡ s.fcfs)
next-test m k t room s event port since sound test late = search rules

-- who is live passes, and no one else
pub sent-passes : (m : Method) (k : Times) (t : ℕ) (room : Bool) (s : AddrState) (p : Port) → IsSoundFor m s → (IsPassing (next_state m k t room s (Sent p)).0 ↔ IsLiveAt s p)
sent-passes m k t room s p sound = search rules

pub na-passes : (m : Method) (k : Times) (t : ℕ) (room : Bool) (s : AddrState) (p : Port) → IsSoundFor m s → (IsPassing (next_state m k t room s (Na p)).0 ↔ IsLiveAt s p)
na-passes m k t room s p sound = search rules

pub sent-stays : (m : Method) (k : Times) (t : ℕ) (room : Bool) (s : AddrState) (p : Port) → IsLiveAt s p → IsLiveAt (next_state m k t room s (Sent p)).1 p
sent-stays m k t room s p live = search rules

pub one_port : (s : AddrState) (p q : Port) → IsLiveAt s p → IsLiveAt s q → Same p q
one_port s p q one two = search rules

-- how an event moves the state of first come: not at all, to none, or by a row of its own table
pub data FcfsMoves (k : Times) (t : ℕ) (old : Fcfs) (event : Ev) (new : Fcfs) : Type 0 where
  stays : new ≡ old → FcfsMoves k t old event new
  goes : new ≡ NoBind → FcfsMoves k t old event new
  moves : {room : Bool} {answer : Answer} → FcfsRow k t room old event answer new → FcfsMoves k t old event new

module _ (m : Method) (k : Times) (t : ℕ) (room : Bool) where
  fcfs_seen : (fixed : Option Port) (fcfs : Fcfs) (dhcp : Option Bound) (event : Ev) → IsFcfsEvent event → FcfsMoves k t fcfs event (fcfs_by m k t room fixed fcfs dhcp event)
  fcfs_seen (Some f) fcfs dhcp event kind = stays refl
  fcfs_seen None fcfs (Some bound) event kind = by_test (is_taken_beside bound.p event)
    where
      by_test : (taken : Bool) → FcfsMoves k t fcfs event (if taken then (next k t false fcfs event).1 else fcfs)
      by_test true = moves (FcfsRow-next k t false fcfs event kind)
      by_test false = stays refl
  fcfs_seen None fcfs None event kind = by_test (is_dhcp m)
    where
      by_test : (dhcp_alone : Bool) → FcfsMoves k t fcfs event (if dhcp_alone then fcfs else (next k t room fcfs event).1)
      by_test true = stays refl
      by_test false = moves (FcfsRow-next k t room fcfs event kind)

  pub fcfs_moves : (s : AddrState) (event : Ev) → FcfsMoves k t s.fcfs event (next_state m k t room s event).1.fcfs
  fcfs_moves s (Sent r) = fcfs_seen s.fixed s.fcfs s.dhcp (Sent r) tt
  fcfs_moves s (Dad r) = fcfs_seen s.fixed s.fcfs s.dhcp (Dad r) tt
  fcfs_moves s (Na r) = fcfs_seen s.fixed s.fcfs s.dhcp (Na r) tt
  fcfs_moves s TpDad = fcfs_seen s.fixed s.fcfs s.dhcp TpDad tt
  fcfs_moves s TpNa = fcfs_seen s.fixed s.fcfs s.dhcp TpNa tt
  fcfs_moves s (Lease r valid) = stays (search rules)
  fcfs_moves s (Release r) = stays (search rules)
  fcfs_moves s (Fix r) = goes refl
  fcfs_moves s Clear = goes refl

pub moves-rested : (k : Times) (t : ℕ) (old : Fcfs) (event : Ev) (new : Fcfs) → FcfsMoves k t old event new → AreTimes k → IsRested k t old → IsRested k t new
moves-rested k t old event new (stays is) times rest = rw is rest
moves-rested k t old event new (goes is) times rest = rw is (rested_none k t NoBind refl)
moves-rested k t old event new (moves row) times rest = Row-rested row times rest

pub moves-fits : (k : Times) (t : ℕ) (old : Fcfs) (event : Ev) (new : Fcfs) → FcfsMoves k t old event new → AreTimes k → t ≤ 2 ^ 62 → MomentsFit old → MomentsFit new
moves-fits k t old event new (stays is) times early fits = rw is fits
moves-fits k t old event new (goes is) times early fits = rw is tt
moves-fits k t old event new (moves row) times early fits = Row-fits row times early fits

pub next-stands : (m : Method) (k : Times) (t : ℕ) (room : Bool) (s : AddrState) (event : Ev) → bound_at t s.dhcp ≡ s.dhcp → bound_at t (next_state m k t room s event).1.dhcp ≡ (next_state m k t room s event).1.dhcp
next-stands m k t room s event stands = search rules

pub next-still : (m : Method) (k : Times) (t : ℕ) (room : Bool) (s : AddrState) (event : Ev) → AreTimes k → IsStill k t s → IsStill k t (next_state m k t room s event).1
next-still m k t room s event times still =
    record {
      rested = moves-rested k t s.fcfs event _ (fcfs_moves m k t room s event) times still.rested;
      stands = next-stands m k t room s event still.stands;
    }

next-low : (m : Method) (k : Times) (t : ℕ) (room : Bool) (s : AddrState) (event : Ev) → t ≤ 2 ^ 62 → IsLeaseInRange event → IsLow (bound_end s.dhcp) → IsLow (bound_end (next_state m k t room s event).1.dhcp)
next-low m k t room s event early short low = search rules

pub next-fits : (m : Method) (k : Times) (t : ℕ) (room : Bool) (s : AddrState) (event : Ev) → AreTimes k → t ≤ 2 ^ 62 → IsLeaseInRange event → AllMomentsFit s → AllMomentsFit (next_state m k t room s event).1
next-fits m k t room s event times early short fit =
    record {
      fcfs = moves-fits k t s.fcfs event _ (fcfs_moves m k t room s event) times early fit.fcfs;
      dhcp = next-low m k t room s event early short fit.dhcp;
    }
