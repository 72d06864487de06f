-- The table and the function that it is.
use Rattle.std.proofs.Common.{◌≡◌, ℕ, Bool, true, false, inl, inr, refl, sym, ◌∙◌, eqb-true, eq-eqb}
use Rattle.std.proofs.lemmas.Bool.{cases_Bool, eqb-false}
use Rattle.savi_kinds.specs.declared.port.Port.{Port}
use Rattle.savi_kinds.specs.Ports.{number_of}
use Rattle.fcfs_states.specs.declared.answer.Answer.{Answer}
use Rattle.fcfs_states.specs.declared.event.Ev.{Ev}
use Rattle.fcfs_states.specs.declared.event.Ev.TheVariants.{Sent, Dad, Na, TpDad, TpNa, Lease, Release, Fix, Clear}
use Rattle.fcfs_states.specs.declared.state.Fcfs.{Fcfs}
use Rattle.fcfs_states.specs.declared.state.Fcfs.TheVariants.{NoBind, Tentative, Valid, TestLt, TestVp}
use Rattle.fcfs_states.specs.declared.times.Times.{Times}
use Rattle.fcfs_states.specs.Premises.{IsFcfsEvent}
use Rattle.fcfs_states.specs.States.{Same, IsSound}
use Rattle.fcfs_states.specs.Table.{Row, no_bind_sent, no_bind_dad, no_bind_sent_full, no_bind_dad_full, no_bind_na, no_bind_trusted_dad, no_bind_trusted_na, tentative_sent, tentative_dad, tentative_sent_elsewhere, tentative_dad_elsewhere, tentative_na, tentative_trusted_dad, tentative_trusted_na, valid_sent, valid_na, valid_dad, valid_sent_elsewhere, valid_dad_elsewhere, valid_sent_full, valid_dad_full, valid_na_elsewhere, valid_trusted_dad, valid_trusted_na, test_lt_sent, test_lt_na, test_lt_dad, test_lt_sent_elsewhere, test_lt_dad_elsewhere, test_lt_na_elsewhere, test_lt_trusted_dad, test_lt_trusted_na, test_vp_sent, test_vp_na, test_vp_dad, test_vp_sent_rival, test_vp_dad_rival, test_vp_sent_elsewhere, test_vp_dad_elsewhere, test_vp_na_elsewhere, test_vp_trusted_dad, test_vp_trusted_na}
use Rattle.fcfs_states.specs.Next.{Next, next, next_no_bind, next_tentative, next_valid, next_test_lt, next_test_vp, is_same}

-- two ports are one, or not, with the test of it
pub same_is : (r p : Port) → Same r p → is_same r p ≡ true
same_is r p same = eq-eqb (number_of r) (number_of p) same

pub differ_is : (r p : Port) → ¬ Same r p → is_same r p ≡ false
differ_is r p differ = elim (cases_Bool (is_same r p)) [ inl is ↦ absurd (differ (eqb-true (number_of r) (number_of p) is)) | inr is ↦ is ]

pub data Cases (r p : Port) : Type 0 where
  one : Same r p → is_same r p ≡ true → Cases r p
  two_ports : ¬ Same r p → is_same r p ≡ false → Cases r p

pub cases : (r p : Port) → Cases r p
cases r p =
    elim (cases_Bool (is_same r p)) [
      | inl is ↦ one (eqb-true (number_of r) (number_of p) is) is
      | inr is ↦ two_ports (eqb-false (number_of r) (number_of p) is) is
    ]

pub Row-kind : {k : Times} {t : ℕ} {room : Bool} {state new : Fcfs} {event : Ev} {answer : Answer} → Row k t room state event answer new → IsFcfsEvent event
Row-kind (no_bind_sent _) = tt
Row-kind (no_bind_dad _) = tt
Row-kind (no_bind_sent_full _) = tt
Row-kind (no_bind_dad_full _) = tt
Row-kind no_bind_na = tt
Row-kind no_bind_trusted_dad = tt
Row-kind no_bind_trusted_na = tt
Row-kind (tentative_sent _) = tt
Row-kind (tentative_dad _) = tt
Row-kind (tentative_sent_elsewhere _) = tt
Row-kind (tentative_dad_elsewhere _) = tt
Row-kind tentative_na = tt
Row-kind tentative_trusted_dad = tt
Row-kind tentative_trusted_na = tt
Row-kind (valid_sent _) = tt
Row-kind (valid_na _) = tt
Row-kind (valid_dad _) = tt
Row-kind (valid_sent_elsewhere _ _) = tt
Row-kind (valid_dad_elsewhere _ _) = tt
Row-kind (valid_sent_full _ _) = tt
Row-kind (valid_dad_full _ _) = tt
Row-kind (valid_na_elsewhere _) = tt
Row-kind valid_trusted_dad = tt
Row-kind valid_trusted_na = tt
Row-kind (test_lt_sent _) = tt
Row-kind (test_lt_na _) = tt
Row-kind (test_lt_dad _) = tt
Row-kind (test_lt_sent_elsewhere _) = tt
Row-kind (test_lt_dad_elsewhere _) = tt
Row-kind (test_lt_na_elsewhere _) = tt
Row-kind test_lt_trusted_dad = tt
Row-kind test_lt_trusted_na = tt
Row-kind (test_vp_sent _) = tt
Row-kind (test_vp_na _) = tt
Row-kind (test_vp_dad _) = tt
Row-kind (test_vp_sent_rival _) = tt
Row-kind (test_vp_dad_rival _) = tt
Row-kind (test_vp_sent_elsewhere _ _) = tt
Row-kind (test_vp_dad_elsewhere _ _) = tt
Row-kind (test_vp_na_elsewhere _) = tt
Row-kind test_vp_trusted_dad = tt
Row-kind test_vp_trusted_na = tt

module _ (k : Times) (t : ℕ) where
  no_bind_row : (room : Bool) (event : Ev) → IsFcfsEvent event → Row k t room NoBind event (next_no_bind t room event).0 (next_no_bind t room event).1
  no_bind_row true (Sent r) kind = no_bind_sent refl
  no_bind_row false (Sent r) kind = no_bind_sent_full refl
  no_bind_row true (Dad r) kind = no_bind_dad refl
  no_bind_row false (Dad r) kind = no_bind_dad_full refl
  no_bind_row room (Na r) kind = no_bind_na
  no_bind_row room TpDad kind = no_bind_trusted_dad
  no_bind_row room TpNa kind = no_bind_trusted_na
  no_bind_row room (Lease p valid) kind = absurd kind
  no_bind_row room (Release p) kind = absurd kind
  no_bind_row room (Fix p) kind = absurd kind
  no_bind_row room Clear kind = absurd kind

  tentative_row : (room : Bool) (p : Port) (since : ℕ) (two : Bool) (event : Ev) → IsFcfsEvent event → Row k t room (Tentative p since two) event (next_tentative p (Tentative p since two) event).0 (next_tentative p (Tentative p since two) event).1
  tentative_row room p since two (Sent r) kind = elim (cases r p) [ one same is ↦ rw is (tentative_sent same) | two_ports differ is ↦ rw is (tentative_sent_elsewhere differ) ]
  tentative_row room p since two (Dad r) kind = elim (cases r p) [ one same is ↦ rw is (tentative_dad same) | two_ports differ is ↦ rw is (tentative_dad_elsewhere differ) ]
  tentative_row room p since two (Na r) kind = tentative_na
  tentative_row room p since two TpDad kind = tentative_trusted_dad
  tentative_row room p since two TpNa kind = tentative_trusted_na
  tentative_row room p since two (Lease q valid) kind = absurd kind
  tentative_row room p since two (Release q) kind = absurd kind
  tentative_row room p since two (Fix q) kind = absurd kind
  tentative_row room p since two Clear kind = absurd kind

  valid_row : (room : Bool) (p : Port) (until : ℕ) (event : Ev) → IsFcfsEvent event → Row k t room (Valid p until) event (next_valid k t room p (Valid p until) event).0 (next_valid k t room p (Valid p until) event).1
  valid_row true p until (Sent r) kind = elim (cases r p) [ one same is ↦ rw is (valid_sent same) | two_ports differ is ↦ rw is (valid_sent_elsewhere differ refl) ]
  valid_row false p until (Sent r) kind = elim (cases r p) [ one same is ↦ rw is (valid_sent same) | two_ports differ is ↦ rw is (valid_sent_full differ refl) ]
  valid_row true p until (Dad r) kind = elim (cases r p) [ one same is ↦ rw is (valid_dad same) | two_ports differ is ↦ rw is (valid_dad_elsewhere differ refl) ]
  valid_row false p until (Dad r) kind = elim (cases r p) [ one same is ↦ rw is (valid_dad same) | two_ports differ is ↦ rw is (valid_dad_full differ refl) ]
  valid_row room p until (Na r) kind = elim (cases r p) [ one same is ↦ rw is (valid_na same) | two_ports differ is ↦ rw is (valid_na_elsewhere differ) ]
  valid_row room p until TpDad kind = valid_trusted_dad
  valid_row room p until TpNa kind = valid_trusted_na
  valid_row room p until (Lease q valid) kind = absurd kind
  valid_row room p until (Release q) kind = absurd kind
  valid_row room p until (Fix q) kind = absurd kind
  valid_row room p until Clear kind = absurd kind

  test_lt_row : (room : Bool) (p : Port) (since : ℕ) (two : Bool) (event : Ev) → IsFcfsEvent event → Row k t room (TestLt p since two) event (next_test_lt k t p (TestLt p since two) event).0 (next_test_lt k t p (TestLt p since two) event).1
  test_lt_row room p since two (Sent r) kind = elim (cases r p) [ one same is ↦ rw is (test_lt_sent same) | two_ports differ is ↦ rw is (test_lt_sent_elsewhere differ) ]
  test_lt_row room p since two (Dad r) kind = elim (cases r p) [ one same is ↦ rw is (test_lt_dad same) | two_ports differ is ↦ rw is (test_lt_dad_elsewhere differ) ]
  test_lt_row room p since two (Na r) kind = elim (cases r p) [ one same is ↦ rw is (test_lt_na same) | two_ports differ is ↦ rw is (test_lt_na_elsewhere differ) ]
  test_lt_row room p since two TpDad kind = test_lt_trusted_dad
  test_lt_row room p since two TpNa kind = test_lt_trusted_na
  test_lt_row room p since two (Lease q valid) kind = absurd kind
  test_lt_row room p since two (Release q) kind = absurd kind
  test_lt_row room p since two (Fix q) kind = absurd kind
  test_lt_row room p since two Clear kind = absurd kind

  test_vp_row : (room : Bool) (p q : Port) (since : ℕ) (two : Bool) (event : Ev) → IsFcfsEvent event → Row k t room (TestVp p q since two) event (next_test_vp k t p q (TestVp p q since two) event).0 (next_test_vp k t p q (TestVp p q since two) event).1
  test_vp_row room p q since two (Sent r) kind =
      elim (cases r p) [
        | one same is ↦ rw is (test_vp_sent same)
        | two_ports differ is ↦ elim (cases r q) [ one rival rival_is ↦ rw (is, rival_is) (test_vp_sent_rival rival) | two_ports third third_is ↦ rw (is, third_is) (test_vp_sent_elsewhere differ third) ]
      ]
  test_vp_row room p q since two (Dad r) kind =
      elim (cases r p) [
        | one same is ↦ rw is (test_vp_dad same)
        | two_ports differ is ↦ elim (cases r q) [ one rival rival_is ↦ rw (is, rival_is) (test_vp_dad_rival rival) | two_ports third third_is ↦ rw (is, third_is) (test_vp_dad_elsewhere differ third) ]
      ]
  test_vp_row room p q since two (Na r) kind = elim (cases r p) [ one same is ↦ rw is (test_vp_na same) | two_ports differ is ↦ rw is (test_vp_na_elsewhere differ) ]
  test_vp_row room p q since two TpDad kind = test_vp_trusted_dad
  test_vp_row room p q since two TpNa kind = test_vp_trusted_na
  test_vp_row room p q since two (Lease r valid) kind = absurd kind
  test_vp_row room p q since two (Release r) kind = absurd kind
  test_vp_row room p q since two (Fix r) kind = absurd kind
  test_vp_row room p q since two Clear kind = absurd kind

-- the function gives a row
pub Row-next : (k : Times) (t : ℕ) (room : Bool) (state : Fcfs) (event : Ev) → IsFcfsEvent event → Row k t room state event (next k t room state event).0 (next k t room state event).1
Row-next k t room NoBind event kind = no_bind_row k t room event kind
Row-next k t room (Tentative p since two) event kind = tentative_row k t room p since two event kind
Row-next k t room (Valid p until) event kind = valid_row k t room p until event kind
Row-next k t room (TestLt p since two) event kind = test_lt_row k t room p since two event kind
Row-next k t room (TestVp p q since two) event kind = test_vp_row k t room p q since two event kind

-- a row gives what the function gives
pub Row-only : {k : Times} {t : ℕ} {room : Bool} {state new : Fcfs} {event : Ev} {answer : Answer} → Row k t room state event answer new → IsSound state → let outcome : Next = (answer, new) in outcome ≡ next k t room state event
Row-only (no_bind_sent is) sound = rw is
Row-only (no_bind_dad is) sound = rw is
Row-only (no_bind_sent_full is) sound = rw is
Row-only (no_bind_dad_full is) sound = rw is
Row-only no_bind_na sound = refl
Row-only no_bind_trusted_dad sound = refl
Row-only no_bind_trusted_na sound = refl
Row-only (tentative_sent {p = p} {r = r} same) sound = rw (same_is r p same)
Row-only (tentative_dad {p = p} {r = r} same) sound = rw (same_is r p same)
Row-only (tentative_sent_elsewhere {p = p} {r = r} differ) sound = rw (differ_is r p differ)
Row-only (tentative_dad_elsewhere {p = p} {r = r} differ) sound = rw (differ_is r p differ)
Row-only tentative_na sound = refl
Row-only tentative_trusted_dad sound = refl
Row-only tentative_trusted_na sound = refl
Row-only (valid_sent {p = p} {r = r} same) sound = rw (same_is r p same)
Row-only (valid_na {p = p} {r = r} same) sound = rw (same_is r p same)
Row-only (valid_dad {p = p} {r = r} same) sound = rw (same_is r p same)
Row-only (valid_sent_elsewhere {p = p} {r = r} differ is) sound = rw (differ_is r p differ, is)
Row-only (valid_dad_elsewhere {p = p} {r = r} differ is) sound = rw (differ_is r p differ, is)
Row-only (valid_sent_full {p = p} {r = r} differ is) sound = rw (differ_is r p differ, is)
Row-only (valid_dad_full {p = p} {r = r} differ is) sound = rw (differ_is r p differ, is)
Row-only (valid_na_elsewhere {p = p} {r = r} differ) sound = rw (differ_is r p differ)
Row-only valid_trusted_dad sound = refl
Row-only valid_trusted_na sound = refl
Row-only (test_lt_sent {p = p} {r = r} same) sound = rw (same_is r p same)
Row-only (test_lt_na {p = p} {r = r} same) sound = rw (same_is r p same)
Row-only (test_lt_dad {p = p} {r = r} same) sound = rw (same_is r p same)
Row-only (test_lt_sent_elsewhere {p = p} {r = r} differ) sound = rw (differ_is r p differ)
Row-only (test_lt_dad_elsewhere {p = p} {r = r} differ) sound = rw (differ_is r p differ)
Row-only (test_lt_na_elsewhere {p = p} {r = r} differ) sound = rw (differ_is r p differ)
Row-only test_lt_trusted_dad sound = refl
Row-only test_lt_trusted_na sound = refl
Row-only (test_vp_sent {p = p} {r = r} same) sound = rw (same_is r p same)
Row-only (test_vp_na {p = p} {r = r} same) sound = rw (same_is r p same)
Row-only (test_vp_dad {p = p} {r = r} same) sound = rw (same_is r p same)
Row-only (test_vp_sent_rival {p = p} {q = q} {r = r} rival) sound = rw (differ_is r p (λ same. sound (sym same ∙ rival)), same_is r q rival)
Row-only (test_vp_dad_rival {p = p} {q = q} {r = r} rival) sound = rw (differ_is r p (λ same. sound (sym same ∙ rival)), same_is r q rival)
Row-only (test_vp_sent_elsewhere {p = p} {q = q} {r = r} differ third) sound = rw (differ_is r p differ, differ_is r q third)
Row-only (test_vp_dad_elsewhere {p = p} {q = q} {r = r} differ third) sound = rw (differ_is r p differ, differ_is r q third)
Row-only (test_vp_na_elsewhere {p = p} {r = r} differ) sound = rw (differ_is r p differ)
Row-only test_vp_trusted_dad sound = refl
Row-only test_vp_trusted_na sound = refl
