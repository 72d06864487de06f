-- The table and the function that it is.
use Rattle.std.proofs.Common.{◌≡◌, ◌≢◌, ℕ, ◌==◌, ◌||◌, if◌then◌else◌, Bool, true, false, ◌⊎◌, inl, inr, refl, sym, ◌∙◌, ap, Option, Some, None, eqb-true}
use Rattle.std.proofs.lemmas.Bool.{cases_Bool, cases_eq}
use Rattle.savi_kinds.specs.declared.port.Port.{Port}
use Rattle.savi_kinds.specs.declared.plan.Method.{Method}
use Rattle.savi_kinds.specs.declared.plan.Method.TheVariants.{Fcfs as ByFcfs, Dhcp as ByDhcp, Mixed as ByBoth}
use Rattle.savi_kinds.specs.Ports.{number_of}
use Rattle.fcfs_states.specs.declared.answer.Answer.{Answer}
use Rattle.fcfs_states.specs.declared.event.Ev.{Ev}
use Rattle.fcfs_states.specs.declared.event.Ev.TheVariants.{Sent, Dad, Na, TpDad, TpNa, Lease, Release, Fix, Clear}
use Rattle.fcfs_states.specs.declared.state.Fcfs.{Fcfs}
use Rattle.fcfs_states.specs.declared.state.Fcfs.TheVariants.{NoBind, Tentative, Valid, TestLt, TestVp}
use Rattle.fcfs_states.specs.declared.times.Times.{Times}
use Rattle.fcfs_states.specs.Premises.{IsFcfsEvent}
use Rattle.fcfs_states.specs.States.{Same, IsSound}
use Rattle.fcfs_states.specs.Next.{Next, next, silence}
use Rattle.fcfs_states.specs.Table.{Row as FcfsRow}
use Rattle.fcfs_states.proofs.TableLemmas.{Row-next as FcfsRow-next, Row-only as FcfsRow-only, Row-kind, same_is, differ_is, one, two_ports, cases}
use Rattle.dhcp_states.specs.declared.bound.Bound.{Bound}
use Rattle.mix_rules.specs.declared.state.AddrState.{AddrState}
use Rattle.mix_rules.specs.States.{IsOf, IsBeside, IsSoundFor}
use Rattle.mix_rules.specs.Table.{Row, lease_to, Takes, none_begins, moves_on, fixed_at, free_with, fixed_sent, fixed_na, fixed_dad, fixed_sent_elsewhere, fixed_dad_elsewhere, fixed_na_elsewhere, fixed_trusted_dad, fixed_trusted_na, fixed_lease, fixed_release, bound_sent, bound_na, bound_dad, bound_sent_elsewhere, bound_dad_elsewhere, bound_na_elsewhere, bound_trusted_dad, bound_trusted_na, unassigned_sent, unassigned_dad, unassigned_na, unassigned_trusted_dad, unassigned_trusted_na, by_first_come, lease_in_fcfs_prefix, lease_of_0, lease_of_0_elsewhere, lease_of_0_unbound, lease_renews, lease_moves, lease_elsewhere_full, lease_elsewhere_claimed, lease_makes, lease_makes_beside, lease_unbound_full, lease_unbound_claimed, release_ends, release_elsewhere, release_unbound, fix, clear}
use Rattle.mix_rules.specs.Next.{Outcome, next_state, by_parts, is_dhcp, is_fcfs, is_taken_beside, may_claim, is_only_at, is_granted, ended_at, leased, bound_by}

-- beside a binding at p the state that stands takes its own row, in which room decides nothing
next_room : (k : Times) (t : ℕ) (room : Bool) (p : Port) (fcfs : Fcfs) (event : Ev) → IsOf p fcfs → fcfs ≢ NoBind → is_taken_beside p event ≡ true → next k t false fcfs event ≡ next k t room fcfs event
next_room k t room p NoBind event beside some taken = absurd (some refl)
next_room k t room p (Tentative q since two) event beside some taken = refl
next_room k t room p (TestLt q since two) event beside some taken = refl
next_room k t room p (TestVp q r since two) event beside some taken = absurd beside
next_room k t room p (Valid q until) (Sent r) beside some taken = rw (same_is r q (eqb-true (number_of r) (number_of p) taken ∙ sym beside))
next_room k t room p (Valid q until) (Dad r) beside some taken = rw (same_is r q (eqb-true (number_of r) (number_of p) taken ∙ sym beside))
next_room k t room p (Valid q until) (Na r) beside some taken = refl
next_room k t room p (Valid q until) TpDad beside some taken = refl
next_room k t room p (Valid q until) TpNa beside some taken = refl
next_room k t room p (Valid q until) (Lease r valid) beside some taken = refl
next_room k t room p (Valid q until) (Release r) beside some taken = refl
next_room k t room p (Valid q until) (Fix r) beside some taken = refl
next_room k t room p (Valid q until) Clear beside some taken = refl

tentative_some : (p : Port) (since : ℕ) (two : Bool) → Tentative p since two ≢ NoBind
tentative_some p since two e = cc

valid_some : (p : Port) (until : ℕ) → Valid p until ≢ NoBind
valid_some p until e = cc

test_lt_some : (p : Port) (since : ℕ) (two : Bool) → TestLt p since two ≢ NoBind
test_lt_some p since two e = cc

-- an address has a state of first come, or none
pub is_none_or_not : (fcfs : Fcfs) → (fcfs ≡ NoBind) ⊎ (fcfs ≢ NoBind)
is_none_or_not NoBind = inl refl
is_none_or_not (Tentative p since two) = inr (λ e. cc)
is_none_or_not (Valid p until) = inr (λ e. cc)
is_none_or_not (TestLt p since two) = inr (λ e. cc)
is_none_or_not (TestVp p q since two) = inr (λ e. cc)

-- the table of first come leaves the events of DHCP alone
next_lease : (k : Times) (t : ℕ) (room : Bool) (fcfs : Fcfs) (r : Port) (valid : ℕ) → next k t room fcfs (Lease r valid) ≡ (silence, fcfs)
next_lease k t room NoBind r valid = refl
next_lease k t room (Tentative p since two) r valid = refl
next_lease k t room (Valid p until) r valid = refl
next_lease k t room (TestLt p since two) r valid = refl
next_lease k t room (TestVp p q since two) r valid = refl

next_release : (k : Times) (t : ℕ) (room : Bool) (fcfs : Fcfs) (r : Port) → next k t room fcfs (Release r) ≡ (silence, fcfs)
next_release k t room NoBind r = refl
next_release k t room (Tentative p since two) r = refl
next_release k t room (Valid p until) r = refl
next_release k t room (TestLt p since two) r = refl
next_release k t room (TestVp p q since two) r = refl

-- an event that isn't the operator's moves each part by itself
pub next_parts : (m : Method) (k : Times) (t : ℕ) (room : Bool) (s : AddrState) (event : Ev) → IsFcfsEvent event → next_state m k t room s event ≡ by_parts m k t room s event
next_parts m k t room s (Sent r) kind = refl
next_parts m k t room s (Dad r) kind = refl
next_parts m k t room s (Na r) kind = refl
next_parts m k t room s TpDad kind = refl
next_parts m k t room s TpNa kind = refl
next_parts m k t room s (Lease r valid) kind = absurd kind
next_parts m k t room s (Release r) kind = absurd kind
next_parts m k t room s (Fix r) kind = absurd kind
next_parts m k t room s Clear kind = absurd kind

pub bound_stays : (m : Method) (t : ℕ) (room : Bool) (fcfs : Fcfs) (dhcp : Option Bound) (event : Ev) → IsFcfsEvent event → bound_by m t room None fcfs dhcp event ≡ dhcp
bound_stays m t room fcfs dhcp (Sent r) kind = refl
bound_stays m t room fcfs dhcp (Dad r) kind = refl
bound_stays m t room fcfs dhcp (Na r) kind = refl
bound_stays m t room fcfs dhcp TpDad kind = refl
bound_stays m t room fcfs dhcp TpNa kind = refl
bound_stays m t room fcfs dhcp (Lease r valid) kind = absurd kind
bound_stays m t room fcfs dhcp (Release r) kind = absurd kind
bound_stays m t room fcfs dhcp (Fix r) kind = absurd kind
bound_stays m t room fcfs dhcp Clear kind = absurd kind

some_is : (n : ℕ) → n ≢ 0 → (n == 0) ≡ false
some_is n some = elim (cases_Bool (n == 0)) [ inl is ↦ absurd (some (eqb-true n 0 is)) | inr is ↦ is ]

module _ (m : Method) (k : Times) (t : ℕ) (room : Bool) where
  fixed_row : (f : Port) (fcfs : Fcfs) (dhcp : Option Bound) (event : Ev) → Row m k t room (fixed_at f fcfs dhcp) event (next_state m k t room (fixed_at f fcfs dhcp) event).0 (next_state m k t room (fixed_at f fcfs dhcp) event).1
  fixed_row f fcfs dhcp (Sent r) = elim (cases r f) [ one same is ↦ rw is (fixed_sent same) | two_ports differ is ↦ rw is (fixed_sent_elsewhere differ) ]
  fixed_row f fcfs dhcp (Dad r) = elim (cases r f) [ one same is ↦ rw is (fixed_dad same) | two_ports differ is ↦ rw is (fixed_dad_elsewhere differ) ]
  fixed_row f fcfs dhcp (Na r) = elim (cases r f) [ one same is ↦ rw is (fixed_na same) | two_ports differ is ↦ rw is (fixed_na_elsewhere differ) ]
  fixed_row f fcfs dhcp TpDad = fixed_trusted_dad
  fixed_row f fcfs dhcp TpNa = fixed_trusted_na
  fixed_row f fcfs dhcp (Lease r valid) = fixed_lease
  fixed_row f fcfs dhcp (Release r) = fixed_release
  fixed_row f fcfs dhcp (Fix r) = fix
  fixed_row f fcfs dhcp Clear = clear

  takes_none : (event : Ev) → IsFcfsEvent event → Takes m k t room NoBind event (next k t false NoBind event).1
  takes_none (Sent r) kind = none_begins
  takes_none (Dad r) kind = none_begins
  takes_none (Na r) kind = none_begins
  takes_none TpDad kind = none_begins
  takes_none TpNa kind = none_begins
  takes_none (Lease r valid) kind = absurd kind
  takes_none (Release r) kind = absurd kind
  takes_none (Fix r) kind = absurd kind
  takes_none Clear kind = absurd kind

  takes : (p : Port) (fcfs : Fcfs) (event : Ev) → IsOf p fcfs → IsFcfsEvent event → is_taken_beside p event ≡ true → Takes m k t room fcfs event (next k t false fcfs event).1
  takes p fcfs event beside kind taken =
      elim (is_none_or_not fcfs) [
        | inl idle ↦ rw idle (takes_none event kind)
        | inr some ↦ rw (next_room k t room p fcfs event beside some taken) (moves_on some (FcfsRow-next k t room fcfs event kind))
      ]

  bound_row : (bound : Bound) (fcfs : Fcfs) (event : Ev) → IsFcfsEvent event → IsOf bound.p fcfs → Row m k t room (free_with fcfs (Some bound)) event (next_state m k t room (free_with fcfs (Some bound)) event).0 (next_state m k t room (free_with fcfs (Some bound)) event).1
  bound_row bound fcfs (Sent r) kind beside = elim (cases r bound.p) [ one same is ↦ rw is (bound_sent same (takes bound.p fcfs (Sent r) beside tt is)) | two_ports differ is ↦ rw is (bound_sent_elsewhere differ) ]
  bound_row bound fcfs (Dad r) kind beside = elim (cases r bound.p) [ one same is ↦ rw is (bound_dad same (takes bound.p fcfs (Dad r) beside tt is)) | two_ports differ is ↦ rw is (bound_dad_elsewhere differ) ]
  bound_row bound fcfs (Na r) kind beside = elim (cases r bound.p) [ one same is ↦ rw is (bound_na same (takes bound.p fcfs (Na r) beside tt is)) | two_ports differ is ↦ rw is (bound_na_elsewhere differ) ]
  bound_row bound fcfs TpDad kind beside = bound_trusted_dad
  bound_row bound fcfs TpNa kind beside = bound_trusted_na (takes bound.p fcfs TpNa beside tt refl)
  bound_row bound fcfs (Lease r valid) kind beside = absurd kind
  bound_row bound fcfs (Release r) kind beside = absurd kind
  bound_row bound fcfs (Fix r) kind beside = absurd kind
  bound_row bound fcfs Clear kind beside = absurd kind

  release_row : (r : Port) (fcfs : Fcfs) (dhcp : Option Bound) → Row m k t room (free_with fcfs dhcp) (Release r) silence (free_with fcfs (ended_at r dhcp))
  release_row r fcfs None = release_unbound
  release_row r fcfs (Some bound) = elim (cases bound.p r) [ one same is ↦ rw is (release_ends same) | two_ports differ is ↦ rw is (release_elsewhere differ) ]

  module _ (assigns : m ≢ ByFcfs) (r : Port) where
    lease_of_0_row : (fcfs : Fcfs) (dhcp : Option Bound) → Row m k t room (free_with fcfs dhcp) (Lease r 0) silence (free_with fcfs (ended_at r dhcp))
    lease_of_0_row fcfs None = lease_of_0_unbound assigns
    lease_of_0_row fcfs (Some bound) = elim (cases bound.p r) [ one same is ↦ rw is (lease_of_0 assigns same) | two_ports differ is ↦ rw is (lease_of_0_elsewhere assigns differ) ]

    module _ (valid : ℕ) (some : valid ≢ 0) where
      elsewhere_row : (bound : Bound) → ¬ Same bound.p r → (fcfs : Fcfs) → Row m k t room (free_with fcfs (Some bound)) (Lease r valid) silence (free_with fcfs (if may_claim room fcfs then lease_to m k t room r valid else Some bound))
      elsewhere_row bound differ NoBind = elim (cases_Bool room) [ inl is ↦ rw is (lease_moves assigns some differ refl) | inr is ↦ rw is (lease_elsewhere_full assigns some differ refl) ]
      elsewhere_row bound differ (Tentative p since two) = lease_elsewhere_claimed assigns some differ (λ e. cc)
      elsewhere_row bound differ (Valid p until) = lease_elsewhere_claimed assigns some differ (λ e. cc)
      elsewhere_row bound differ (TestLt p since two) = lease_elsewhere_claimed assigns some differ (λ e. cc)
      elsewhere_row bound differ (TestVp p q since two) = lease_elsewhere_claimed assigns some differ (λ e. cc)

      unbound_row : (fcfs : Fcfs) → Row m k t room (free_with fcfs None) (Lease r valid) silence (free_with fcfs (if may_claim room fcfs || is_only_at r fcfs then lease_to m k t room r valid else None))
      unbound_row NoBind = elim (cases_Bool room) [ inl is ↦ rw is (lease_makes assigns some refl) | inr is ↦ rw is (lease_unbound_full assigns some refl) ]
      unbound_row (Tentative p since two) = elim (cases p r) [ one same is ↦ rw is (lease_makes_beside assigns some (tentative_some p since two) same) | two_ports differ is ↦ rw is (lease_unbound_claimed assigns some differ) ]
      unbound_row (Valid p until) = elim (cases p r) [ one same is ↦ rw is (lease_makes_beside assigns some (valid_some p until) same) | two_ports differ is ↦ rw is (lease_unbound_claimed assigns some differ) ]
      unbound_row (TestLt p since two) = elim (cases p r) [ one same is ↦ rw is (lease_makes_beside assigns some (test_lt_some p since two) same) | two_ports differ is ↦ rw is (lease_unbound_claimed assigns some differ) ]
      unbound_row (TestVp p q since two) = lease_unbound_claimed assigns some (λ of. of)

      some_row : (fcfs : Fcfs) (dhcp : Option Bound) → Row m k t room (free_with fcfs dhcp) (Lease r valid) silence (free_with fcfs (if is_granted room r fcfs dhcp then lease_to m k t room r valid else dhcp))
      some_row fcfs None = unbound_row fcfs
      some_row fcfs (Some bound) = elim (cases bound.p r) [ one same is ↦ rw is (lease_renews assigns some same) | two_ports differ is ↦ rw is (elsewhere_row bound differ fcfs) ]

    lease_row : (valid : ℕ) (fcfs : Fcfs) (dhcp : Option Bound) → Row m k t room (free_with fcfs dhcp) (Lease r valid) silence (free_with fcfs (leased t room r valid fcfs dhcp))
    lease_row valid fcfs dhcp =
        elim (cases_eq valid 0) [
          | inl is ↦ rw is (lease_of_0_row fcfs dhcp)
          | inr some ↦ rw (some_is valid some) (some_row valid some fcfs dhcp)
        ]

module _ (k : Times) (t : ℕ) (room : Bool) where
  -- without an owner
  free_row : (m : Method) (fcfs : Fcfs) (event : Ev) → IsFcfsEvent event → Row m k t room (free_with fcfs None) event (by_parts m k t room (free_with fcfs None) event).0 (by_parts m k t room (free_with fcfs None) event).1
  free_row ByFcfs fcfs event kind = rw (bound_stays ByFcfs t room fcfs None event kind) (by_first_come (λ e. cc) (FcfsRow-next k t room fcfs event kind))
  free_row ByBoth fcfs event kind = rw (bound_stays ByBoth t room fcfs None event kind) (by_first_come (λ e. cc) (FcfsRow-next k t room fcfs event kind))
  free_row ByDhcp fcfs (Sent r) kind = unassigned_sent refl
  free_row ByDhcp fcfs (Dad r) kind = unassigned_dad refl
  free_row ByDhcp fcfs (Na r) kind = unassigned_na refl
  free_row ByDhcp fcfs TpDad kind = unassigned_trusted_dad refl
  free_row ByDhcp fcfs TpNa kind = unassigned_trusted_na refl
  free_row ByDhcp fcfs (Lease r valid) kind = absurd kind
  free_row ByDhcp fcfs (Release r) kind = absurd kind
  free_row ByDhcp fcfs (Fix r) kind = absurd kind
  free_row ByDhcp fcfs Clear kind = absurd kind

  leased_row : (m : Method) (r : Port) (valid : ℕ) (fcfs : Fcfs) (dhcp : Option Bound) → Row m k t room (free_with fcfs dhcp) (Lease r valid) silence (free_with fcfs (if is_fcfs m then dhcp else leased t room r valid fcfs dhcp))
  leased_row ByFcfs r valid fcfs dhcp = lease_in_fcfs_prefix refl
  leased_row ByDhcp r valid fcfs dhcp = lease_row ByDhcp k t room (λ e. cc) r valid fcfs dhcp
  leased_row ByBoth r valid fcfs dhcp = lease_row ByBoth k t room (λ e. cc) r valid fcfs dhcp

  seen_row : (m : Method) (fcfs : Fcfs) (dhcp : Option Bound) (event : Ev) → IsFcfsEvent event → IsBeside dhcp fcfs → Row m k t room (free_with fcfs dhcp) event (next_state m k t room (free_with fcfs dhcp) event).0 (next_state m k t room (free_with fcfs dhcp) event).1
  seen_row m fcfs (Some bound) event kind beside = bound_row m k t room bound fcfs event kind beside
  seen_row m fcfs None event kind beside = rw (next_parts m k t room (free_with fcfs None) event kind) (free_row m fcfs event kind)

  -- an event of DHCP at an address that isn't fixed
  lease_next : (m : Method) (r : Port) (valid : ℕ) (fcfs : Fcfs) (dhcp : Option Bound) → Row m k t room (free_with fcfs dhcp) (Lease r valid) (next_state m k t room (free_with fcfs dhcp) (Lease r valid)).0 (next_state m k t room (free_with fcfs dhcp) (Lease r valid)).1
  lease_next m r valid fcfs (Some bound) = leased_row m r valid fcfs (Some bound)
  lease_next ByDhcp r valid fcfs None = leased_row ByDhcp r valid fcfs None
  lease_next ByFcfs r valid fcfs None = rw (next_lease k t room fcfs r valid) (leased_row ByFcfs r valid fcfs None)
  lease_next ByBoth r valid fcfs None = rw (next_lease k t room fcfs r valid) (leased_row ByBoth r valid fcfs None)

  release_next : (m : Method) (r : Port) (fcfs : Fcfs) (dhcp : Option Bound) → Row m k t room (free_with fcfs dhcp) (Release r) (next_state m k t room (free_with fcfs dhcp) (Release r)).0 (next_state m k t room (free_with fcfs dhcp) (Release r)).1
  release_next m r fcfs (Some bound) = release_row m k t room r fcfs (Some bound)
  release_next ByDhcp r fcfs None = release_unbound
  release_next ByFcfs r fcfs None = rw (next_release k t room fcfs r) release_unbound
  release_next ByBoth r fcfs None = rw (next_release k t room fcfs r) release_unbound

  row_next : (m : Method) (fixed : Option Port) (fcfs : Fcfs) (dhcp : Option Bound) (event : Ev) → IsBeside dhcp fcfs
      → let s : AddrState = record { fixed = fixed; fcfs = fcfs; dhcp = dhcp } in Row m k t room s event (next_state m k t room s event).0 (next_state m k t room s event).1
  row_next m (Some f) fcfs dhcp event beside = fixed_row m k t room f fcfs dhcp event
  row_next m None fcfs dhcp (Sent r) beside = seen_row m fcfs dhcp (Sent r) tt beside
  row_next m None fcfs dhcp (Dad r) beside = seen_row m fcfs dhcp (Dad r) tt beside
  row_next m None fcfs dhcp (Na r) beside = seen_row m fcfs dhcp (Na r) tt beside
  row_next m None fcfs dhcp TpDad beside = seen_row m fcfs dhcp TpDad tt beside
  row_next m None fcfs dhcp TpNa beside = seen_row m fcfs dhcp TpNa tt beside
  row_next m None fcfs dhcp (Lease r valid) beside = lease_next m r valid fcfs dhcp
  row_next m None fcfs dhcp (Release r) beside = release_next m r fcfs dhcp
  row_next m None fcfs dhcp (Fix r) beside = fix
  row_next m None fcfs dhcp Clear beside = clear

-- the function gives a row
pub Row-next_state : (m : Method) (k : Times) (t : ℕ) (room : Bool) (s : AddrState) (event : Ev) → IsSoundFor m s → Row m k t room s event (next_state m k t room s event).0 (next_state m k t room s event).1
Row-next_state m k t room s event sound = row_next k t room m s.fixed s.fcfs s.dhcp event sound.beside

-- a row gives what the function gives
not_dhcp : (m : Method) → m ≢ ByDhcp → is_dhcp m ≡ false
not_dhcp ByFcfs other = refl
not_dhcp ByDhcp other = absurd (other refl)
not_dhcp ByBoth other = refl

not_fcfs : (m : Method) → m ≢ ByFcfs → is_fcfs m ≡ false
not_fcfs ByFcfs other = absurd (other refl)
not_fcfs ByDhcp other = refl
not_fcfs ByBoth other = refl

not_free : (room : Bool) (fcfs : Fcfs) → fcfs ≢ NoBind → may_claim room fcfs ≡ false
not_free room NoBind some = absurd (some refl)
not_free room (Tentative p since two) some = refl
not_free room (Valid p until) some = refl
not_free room (TestLt p since two) some = refl
not_free room (TestVp p q since two) some = refl

own_is : (p : Port) (fcfs : Fcfs) → fcfs ≢ NoBind → IsOf p fcfs → is_only_at p fcfs ≡ true
own_is p NoBind some of = absurd (some refl)
own_is p (Tentative q since two) some of = same_is q p of
own_is p (Valid q until) some of = same_is q p of
own_is p (TestLt q since two) some of = same_is q p of
own_is p (TestVp q r since two) some of = absurd of

other_is : (p : Port) (fcfs : Fcfs) → ¬ IsOf p fcfs → is_only_at p fcfs ≡ false
other_is p NoBind other = refl
other_is p (Tentative q since two) other = differ_is q p other
other_is p (Valid q until) other = differ_is q p other
other_is p (TestLt q since two) other = differ_is q p other
other_is p (TestVp q r since two) other = refl

other_some : (p : Port) (fcfs : Fcfs) → ¬ IsOf p fcfs → fcfs ≢ NoBind
other_some p NoBind other = absurd (other tt)
other_some p (Tentative q since two) other = λ e. cc
other_some p (Valid q until) other = λ e. cc
other_some p (TestLt q since two) other = λ e. cc
other_some p (TestVp q r since two) other = λ e. cc

none_stays : (k : Times) (t : ℕ) (event : Ev) → (next k t false NoBind event).1 ≡ NoBind
none_stays k t (Sent r) = refl
none_stays k t (Dad r) = refl
none_stays k t (Na r) = refl
none_stays k t TpDad = refl
none_stays k t TpNa = refl
none_stays k t (Lease r valid) = refl
none_stays k t (Release r) = refl
none_stays k t (Fix r) = refl
none_stays k t Clear = refl

module _ (k : Times) (t : ℕ) (room : Bool) where
  lease_is : (m : Method) → m ≢ ByFcfs → (r : Port) (valid : ℕ) (fcfs : Fcfs) (dhcp : Option Bound) → next_state m k t room (free_with fcfs dhcp) (Lease r valid) ≡ (silence, free_with fcfs (leased t room r valid fcfs dhcp))
  lease_is ByFcfs other r valid fcfs dhcp = absurd (other refl)
  lease_is ByDhcp other r valid fcfs None = refl
  lease_is ByDhcp other r valid fcfs (Some bound) = refl
  lease_is ByBoth other r valid fcfs None = rw (next_lease k t room fcfs r valid)
  lease_is ByBoth other r valid fcfs (Some bound) = refl

  fcfs_lease_is : (m : Method) → m ≡ ByFcfs → (r : Port) (valid : ℕ) (fcfs : Fcfs) (dhcp : Option Bound) → next_state m k t room (free_with fcfs dhcp) (Lease r valid) ≡ (silence, free_with fcfs dhcp)
  fcfs_lease_is ByFcfs is r valid fcfs None = rw (next_lease k t room fcfs r valid)
  fcfs_lease_is ByFcfs is r valid fcfs (Some bound) = refl
  fcfs_lease_is ByDhcp is r valid fcfs dhcp = cc
  fcfs_lease_is ByBoth is r valid fcfs dhcp = cc

  release_is : (m : Method) (r : Port) (fcfs : Fcfs) (dhcp : Option Bound) → next_state m k t room (free_with fcfs dhcp) (Release r) ≡ (silence, free_with fcfs (ended_at r dhcp))
  release_is m r fcfs (Some bound) = refl
  release_is ByFcfs r fcfs None = rw (next_release k t room fcfs r)
  release_is ByDhcp r fcfs None = refl
  release_is ByBoth r fcfs None = rw (next_release k t room fcfs r)

module _ {m : Method} {k : Times} {t : ℕ} {room : Bool} where
  Takes-only : {fcfs new : Fcfs} {event : Ev} → Takes m k t room fcfs event new → (p : Port) → IsOf p fcfs → IsSound fcfs → is_taken_beside p event ≡ true → new ≡ (next k t false fcfs event).1
  Takes-only (none_begins {event = event}) p beside sound taken = sym (none_stays k t event)
  Takes-only (moves_on {fcfs = fcfs} {event = event} some row) p beside sound taken = ap (λ (o : Next). o.1) (FcfsRow-only row sound) ∙ sym (ap (λ (o : Next). o.1) (next_room k t room p fcfs event beside some taken))

  first_only : (fcfs new : Fcfs) (event : Ev) (answer : Answer) → m ≢ ByDhcp → FcfsRow k t room fcfs event answer new → IsSound fcfs → let outcome : Outcome = (answer, free_with new None) in outcome ≡ next_state m k t room (free_with fcfs None) event
  first_only fcfs new event answer other row sound =
      let is : (let outcome : Next = (answer, new) in outcome ≡ next k t room fcfs event) = FcfsRow-only row sound in
      let kind : IsFcfsEvent event = Row-kind row in
      rw (next_parts m k t room (free_with fcfs None) event kind, bound_stays m t room fcfs None event kind, not_dhcp m other, ← is) refl

  pub Row-only : {s new : AddrState} {event : Ev} {answer : Answer} → Row m k t room s event answer new → IsSoundFor m s → let outcome : Outcome = (answer, new) in outcome ≡ next_state m k t room s event
  Row-only (fixed_sent {f = f} {r = r} same) sound = rw (same_is r f same)
  Row-only (fixed_na {f = f} {r = r} same) sound = rw (same_is r f same)
  Row-only (fixed_dad {f = f} {r = r} same) sound = rw (same_is r f same)
  Row-only (fixed_sent_elsewhere {f = f} {r = r} differ) sound = rw (differ_is r f differ)
  Row-only (fixed_dad_elsewhere {f = f} {r = r} differ) sound = rw (differ_is r f differ)
  Row-only (fixed_na_elsewhere {f = f} {r = r} differ) sound = rw (differ_is r f differ)
  Row-only fixed_trusted_dad sound = refl
  Row-only fixed_trusted_na sound = refl
  Row-only fixed_lease sound = refl
  Row-only fixed_release sound = refl
  Row-only (bound_sent {bound = bound} {r = r} same taken) sound = rw (same_is r bound.p same, Takes-only taken bound.p sound.beside sound.rival (same_is r bound.p same))
  Row-only (bound_na {bound = bound} {r = r} same taken) sound = rw (same_is r bound.p same, Takes-only taken bound.p sound.beside sound.rival (same_is r bound.p same))
  Row-only (bound_dad {bound = bound} {r = r} same taken) sound = rw (same_is r bound.p same, Takes-only taken bound.p sound.beside sound.rival (same_is r bound.p same))
  Row-only (bound_sent_elsewhere {bound = bound} {r = r} differ) sound = rw (differ_is r bound.p differ)
  Row-only (bound_dad_elsewhere {bound = bound} {r = r} differ) sound = rw (differ_is r bound.p differ)
  Row-only (bound_na_elsewhere {bound = bound} {r = r} differ) sound = rw (differ_is r bound.p differ)
  Row-only bound_trusted_dad sound = refl
  Row-only (bound_trusted_na {bound = bound} taken) sound = rw (Takes-only taken bound.p sound.beside sound.rival refl)
  Row-only (unassigned_sent is) sound = rw is
  Row-only (unassigned_dad is) sound = rw is
  Row-only (unassigned_na is) sound = rw is
  Row-only (unassigned_trusted_dad is) sound = rw is
  Row-only (unassigned_trusted_na is) sound = rw is
  Row-only (by_first_come {fcfs = fcfs} {new = new} {event = event} {answer = answer} other row) sound = first_only fcfs new event answer other row sound.rival
  Row-only (lease_in_fcfs_prefix {r = r} {valid = valid} {fcfs = fcfs} {dhcp = dhcp} is) sound = sym (fcfs_lease_is k t room _ is r valid fcfs dhcp)
  Row-only (lease_of_0 {bound = bound} {r = r} {fcfs = fcfs} other same) sound = rw (lease_is k t room m other r 0 fcfs (Some bound), same_is bound.p r same)
  Row-only (lease_of_0_elsewhere {bound = bound} {r = r} {fcfs = fcfs} other differ) sound = rw (lease_is k t room m other r 0 fcfs (Some bound), differ_is bound.p r differ)
  Row-only (lease_of_0_unbound {r = r} {fcfs = fcfs} other) sound = rw (lease_is k t room m other r 0 fcfs None)
  Row-only (lease_renews {bound = bound} {r = r} {valid = valid} {fcfs = fcfs} other some same) sound = rw (lease_is k t room m other r valid fcfs (Some bound), some_is valid some, same_is bound.p r same)
  Row-only (lease_moves {bound = bound} {r = r} {valid = valid} other some differ full) sound = rw (lease_is k t room m other r valid NoBind (Some bound), some_is valid some, differ_is bound.p r differ, full)
  Row-only (lease_elsewhere_full {bound = bound} {r = r} {valid = valid} other some differ full) sound = rw (lease_is k t room m other r valid NoBind (Some bound), some_is valid some, differ_is bound.p r differ, full)
  Row-only (lease_elsewhere_claimed {bound = bound} {r = r} {valid = valid} {fcfs = fcfs} other some differ claimed) sound = rw (lease_is k t room m other r valid fcfs (Some bound), some_is valid some, differ_is bound.p r differ, not_free room fcfs claimed)
  Row-only (lease_makes {r = r} {valid = valid} other some full) sound = rw (lease_is k t room m other r valid NoBind None, some_is valid some, full)
  Row-only (lease_makes_beside {r = r} {valid = valid} {fcfs = fcfs} other some claimed own) sound = rw (lease_is k t room m other r valid fcfs None, some_is valid some, not_free room fcfs claimed, own_is r fcfs claimed own)
  Row-only (lease_unbound_full {r = r} {valid = valid} other some full) sound = rw (lease_is k t room m other r valid NoBind None, some_is valid some, full)
  Row-only (lease_unbound_claimed {r = r} {valid = valid} {fcfs = fcfs} other some own) sound = rw (lease_is k t room m other r valid fcfs None, some_is valid some, not_free room fcfs (other_some r fcfs own), other_is r fcfs own)
  Row-only (release_ends {bound = bound} {r = r} {fcfs = fcfs} same) sound = rw (release_is k t room m r fcfs (Some bound), same_is bound.p r same)
  Row-only (release_elsewhere {bound = bound} {r = r} {fcfs = fcfs} differ) sound = rw (release_is k t room m r fcfs (Some bound), differ_is bound.p r differ)
  Row-only (release_unbound {r = r} {fcfs = fcfs}) sound = rw (release_is k t room m r fcfs None)
  Row-only fix sound = refl
  Row-only clear sound = refl
