-- What each row of the table keeps.
use Rattle.std.proofs.Common.{◌≡◌, ℕ, ◌+◌, ◌<◌, ◌≤◌, ◌^◌, Bool, true, false, refl, sym, ◌∙◌, arith}
use Rattle.savi_kinds.specs.declared.port.Port.{Port}
use Rattle.fcfs_states.specs.declared.answer.Answer.{Answer}
use Rattle.fcfs_states.specs.declared.event.Ev.{Ev}
use Rattle.fcfs_states.specs.declared.state.Fcfs.{Fcfs}
use Rattle.fcfs_states.specs.declared.state.Fcfs.TheVariants.{NoBind, Tentative, Valid, TestLt, TestVp}
use Rattle.fcfs_states.specs.declared.times.Times.{Times}
use Rattle.fcfs_states.specs.Premises.{AreTimes, MomentsFit}
use Rattle.fcfs_states.specs.States.{IsSound, IsLive}
use Rattle.fcfs_states.specs.Table.{Row, no_bind_sent, no_bind_dad, no_bind_sent_full, no_bind_dad_full, no_bind_na, no_bind_trusted_dad, no_bind_trusted_na, tentative_sent, tentative_dad, tentative_sent_elsewhere, tentative_dad_elsewhere, tentative_na, tentative_trusted_dad, tentative_trusted_na, valid_sent, valid_na, valid_dad, valid_sent_elsewhere, valid_dad_elsewhere, valid_sent_full, valid_dad_full, valid_na_elsewhere, valid_trusted_dad, valid_trusted_na, test_lt_sent, test_lt_na, test_lt_dad, test_lt_sent_elsewhere, test_lt_dad_elsewhere, test_lt_na_elsewhere, test_lt_trusted_dad, test_lt_trusted_na, test_vp_sent, test_vp_na, test_vp_dad, test_vp_sent_rival, test_vp_dad_rival, test_vp_sent_elsewhere, test_vp_dad_elsewhere, test_vp_na_elsewhere, test_vp_trusted_dad, test_vp_trusted_na}
use Rattle.fcfs_states.specs.Ageing.{IsRested}
use Rattle.fcfs_states.specs.FirstCome.{IsTestOf, IsHeardAt}
use Rattle.fcfs_states.proofs.AgeingLemmas.{rested_none, rested_late}

module _ {k : Times} {t : ℕ} {room : Bool} where
  pub Row-sound : {state new : Fcfs} {event : Ev} {answer : Answer} → Row k t room state event answer new → IsSound state → IsSound new
  Row-sound (no_bind_sent _) sound = tt
  Row-sound (no_bind_dad _) sound = tt
  Row-sound (no_bind_sent_full _) sound = sound
  Row-sound (no_bind_dad_full _) sound = sound
  Row-sound no_bind_na sound = sound
  Row-sound no_bind_trusted_dad sound = sound
  Row-sound no_bind_trusted_na sound = sound
  Row-sound (tentative_sent _) sound = sound
  Row-sound (tentative_dad _) sound = sound
  Row-sound (tentative_sent_elsewhere _) sound = sound
  Row-sound (tentative_dad_elsewhere _) sound = sound
  Row-sound tentative_na sound = sound
  Row-sound tentative_trusted_dad sound = sound
  Row-sound tentative_trusted_na sound = tt
  Row-sound (valid_sent _) sound = tt
  Row-sound (valid_na _) sound = tt
  Row-sound (valid_dad _) sound = tt
  Row-sound (valid_sent_elsewhere differ _) sound = λ same. differ (sym same)
  Row-sound (valid_dad_elsewhere differ _) sound = λ same. differ (sym same)
  Row-sound (valid_sent_full _ _) sound = sound
  Row-sound (valid_dad_full _ _) sound = sound
  Row-sound (valid_na_elsewhere _) sound = sound
  Row-sound valid_trusted_dad sound = tt
  Row-sound valid_trusted_na sound = sound
  Row-sound (test_lt_sent _) sound = tt
  Row-sound (test_lt_na _) sound = tt
  Row-sound (test_lt_dad _) sound = tt
  Row-sound (test_lt_sent_elsewhere _) sound = sound
  Row-sound (test_lt_dad_elsewhere _) sound = sound
  Row-sound (test_lt_na_elsewhere _) sound = sound
  Row-sound test_lt_trusted_dad sound = sound
  Row-sound test_lt_trusted_na sound = sound
  Row-sound (test_vp_sent _) sound = tt
  Row-sound (test_vp_na _) sound = tt
  Row-sound (test_vp_dad _) sound = tt
  Row-sound (test_vp_sent_rival _) sound = sound
  Row-sound (test_vp_dad_rival _) sound = sound
  Row-sound (test_vp_sent_elsewhere _ _) sound = sound
  Row-sound (test_vp_dad_elsewhere _ _) sound = sound
  Row-sound (test_vp_na_elsewhere _) sound = sound
  Row-sound test_vp_trusted_dad sound = sound
  Row-sound test_vp_trusted_na sound = sound

  pub Row-fits : {state new : Fcfs} {event : Ev} {answer : Answer} → Row k t room state event answer new → AreTimes k → t ≤ 2 ^ 62 → MomentsFit state → MomentsFit new
  Row-fits (no_bind_sent _) times early fits = omega arith
  Row-fits (no_bind_dad _) times early fits = omega arith
  Row-fits (no_bind_sent_full _) times early fits = fits
  Row-fits (no_bind_dad_full _) times early fits = fits
  Row-fits no_bind_na times early fits = fits
  Row-fits no_bind_trusted_dad times early fits = fits
  Row-fits no_bind_trusted_na times early fits = fits
  Row-fits (tentative_sent _) times early fits = fits
  Row-fits (tentative_dad _) times early fits = fits
  Row-fits (tentative_sent_elsewhere _) times early fits = fits
  Row-fits (tentative_dad_elsewhere _) times early fits = fits
  Row-fits tentative_na times early fits = fits
  Row-fits tentative_trusted_dad times early fits = fits
  Row-fits tentative_trusted_na times early fits = tt
  Row-fits (valid_sent _) times early fits = omega arith
  Row-fits (valid_na _) times early fits = omega arith
  Row-fits (valid_dad _) times early fits = omega arith
  Row-fits (valid_sent_elsewhere _ _) times early fits = omega arith
  Row-fits (valid_dad_elsewhere _ _) times early fits = omega arith
  Row-fits (valid_sent_full _ _) times early fits = fits
  Row-fits (valid_dad_full _ _) times early fits = fits
  Row-fits (valid_na_elsewhere _) times early fits = fits
  Row-fits valid_trusted_dad times early fits = omega arith
  Row-fits valid_trusted_na times early fits = fits
  Row-fits (test_lt_sent _) times early fits = omega arith
  Row-fits (test_lt_na _) times early fits = omega arith
  Row-fits (test_lt_dad _) times early fits = omega arith
  Row-fits (test_lt_sent_elsewhere _) times early fits = fits
  Row-fits (test_lt_dad_elsewhere _) times early fits = fits
  Row-fits (test_lt_na_elsewhere _) times early fits = fits
  Row-fits test_lt_trusted_dad times early fits = fits
  Row-fits test_lt_trusted_na times early fits = fits
  Row-fits (test_vp_sent _) times early fits = omega arith
  Row-fits (test_vp_na _) times early fits = omega arith
  Row-fits (test_vp_dad _) times early fits = omega arith
  Row-fits (test_vp_sent_rival _) times early fits = fits
  Row-fits (test_vp_dad_rival _) times early fits = fits
  Row-fits (test_vp_sent_elsewhere _ _) times early fits = fits
  Row-fits (test_vp_dad_elsewhere _ _) times early fits = fits
  Row-fits (test_vp_na_elsewhere _) times early fits = fits
  Row-fits test_vp_trusted_dad times early fits = fits
  Row-fits test_vp_trusted_na times early fits = fits

  pub Row-rested : {state new : Fcfs} {event : Ev} {answer : Answer} → Row k t room state event answer new → AreTimes k → IsRested k t state → IsRested k t new
  Row-rested (no_bind_sent {r = r} _) times rest = rested_late k times t (Tentative r t true) (t + k.gap) refl (omega arith)
  Row-rested (no_bind_dad {r = r} _) times rest = rested_late k times t (Tentative r t false) (t + k.test) refl (omega arith)
  Row-rested (no_bind_sent_full _) times rest = rest
  Row-rested (no_bind_dad_full _) times rest = rest
  Row-rested no_bind_na times rest = rest
  Row-rested no_bind_trusted_dad times rest = rest
  Row-rested no_bind_trusted_na times rest = rest
  Row-rested (tentative_sent _) times rest = rest
  Row-rested (tentative_dad _) times rest = rest
  Row-rested (tentative_sent_elsewhere _) times rest = rest
  Row-rested (tentative_dad_elsewhere _) times rest = rest
  Row-rested tentative_na times rest = rest
  Row-rested tentative_trusted_dad times rest = rest
  Row-rested tentative_trusted_na times rest = rested_none k t NoBind refl
  Row-rested (valid_sent {p = p} _) times rest = rested_late k times t (Valid p (t + k.life)) (t + k.life) refl (omega arith)
  Row-rested (valid_na {p = p} _) times rest = rested_late k times t (Valid p (t + k.life)) (t + k.life) refl (omega arith)
  Row-rested (valid_dad {p = p} _) times rest = rested_late k times t (Valid p (t + k.life)) (t + k.life) refl (omega arith)
  Row-rested (valid_sent_elsewhere {p = p} {r = r} _ _) times rest = rested_late k times t (TestVp p r t true) (t + k.gap) refl (omega arith)
  Row-rested (valid_dad_elsewhere {p = p} {r = r} _ _) times rest = rested_late k times t (TestVp p r t true) (t + k.gap) refl (omega arith)
  Row-rested (valid_sent_full _ _) times rest = rest
  Row-rested (valid_dad_full _ _) times rest = rest
  Row-rested (valid_na_elsewhere _) times rest = rest
  Row-rested (valid_trusted_dad {p = p}) times rest = rested_late k times t (TestLt p t true) (t + k.gap) refl (omega arith)
  Row-rested valid_trusted_na times rest = rest
  Row-rested (test_lt_sent {p = p} _) times rest = rested_late k times t (Valid p (t + k.life)) (t + k.life) refl (omega arith)
  Row-rested (test_lt_na {p = p} _) times rest = rested_late k times t (Valid p (t + k.life)) (t + k.life) refl (omega arith)
  Row-rested (test_lt_dad {p = p} _) times rest = rested_late k times t (Valid p (t + k.life)) (t + k.life) refl (omega arith)
  Row-rested (test_lt_sent_elsewhere _) times rest = rest
  Row-rested (test_lt_dad_elsewhere _) times rest = rest
  Row-rested (test_lt_na_elsewhere _) times rest = rest
  Row-rested test_lt_trusted_dad times rest = rest
  Row-rested test_lt_trusted_na times rest = rest
  Row-rested (test_vp_sent {p = p} _) times rest = rested_late k times t (Valid p (t + k.life)) (t + k.life) refl (omega arith)
  Row-rested (test_vp_na {p = p} _) times rest = rested_late k times t (Valid p (t + k.life)) (t + k.life) refl (omega arith)
  Row-rested (test_vp_dad {p = p} _) times rest = rested_late k times t (Valid p (t + k.life)) (t + k.life) refl (omega arith)
  Row-rested (test_vp_sent_rival _) times rest = rest
  Row-rested (test_vp_dad_rival _) times rest = rest
  Row-rested (test_vp_sent_elsewhere _ _) times rest = rest
  Row-rested (test_vp_dad_elsewhere _ _) times rest = rest
  Row-rested (test_vp_na_elsewhere _) times rest = rest
  Row-rested test_vp_trusted_dad times rest = rest
  Row-rested test_vp_trusted_na times rest = rest

  -- no event ends that an address is live
  pub Row-live : {state new : Fcfs} {event : Ev} {answer : Answer} → Row k t room state event answer new → (port : Port) → IsLive state port → IsLive new port
  Row-live (no_bind_sent _) port live = absurd live
  Row-live (no_bind_dad _) port live = absurd live
  Row-live (no_bind_sent_full _) port live = absurd live
  Row-live (no_bind_dad_full _) port live = absurd live
  Row-live no_bind_na port live = absurd live
  Row-live no_bind_trusted_dad port live = absurd live
  Row-live no_bind_trusted_na port live = absurd live
  Row-live (tentative_sent _) port live = absurd live
  Row-live (tentative_dad _) port live = absurd live
  Row-live (tentative_sent_elsewhere _) port live = absurd live
  Row-live (tentative_dad_elsewhere _) port live = absurd live
  Row-live tentative_na port live = absurd live
  Row-live tentative_trusted_dad port live = absurd live
  Row-live tentative_trusted_na port live = absurd live
  Row-live (valid_sent _) port live = live
  Row-live (valid_na _) port live = live
  Row-live (valid_dad _) port live = live
  Row-live (valid_sent_elsewhere _ _) port live = live
  Row-live (valid_dad_elsewhere _ _) port live = live
  Row-live (valid_sent_full _ _) port live = live
  Row-live (valid_dad_full _ _) port live = live
  Row-live (valid_na_elsewhere _) port live = live
  Row-live valid_trusted_dad port live = live
  Row-live valid_trusted_na port live = live
  Row-live (test_lt_sent _) port live = live
  Row-live (test_lt_na _) port live = live
  Row-live (test_lt_dad _) port live = live
  Row-live (test_lt_sent_elsewhere _) port live = live
  Row-live (test_lt_dad_elsewhere _) port live = live
  Row-live (test_lt_na_elsewhere _) port live = live
  Row-live test_lt_trusted_dad port live = live
  Row-live test_lt_trusted_na port live = live
  Row-live (test_vp_sent _) port live = live
  Row-live (test_vp_na _) port live = live
  Row-live (test_vp_dad _) port live = live
  Row-live (test_vp_sent_rival _) port live = live
  Row-live (test_vp_dad_rival _) port live = live
  Row-live (test_vp_sent_elsewhere _ _) port live = live
  Row-live (test_vp_dad_elsewhere _ _) port live = live
  Row-live (test_vp_na_elsewhere _) port live = live
  Row-live test_vp_trusted_dad port live = live
  Row-live test_vp_trusted_na port live = live

  -- a test that is older than the event was there before, and the event is none of its holder
  pub Row-test : {state new : Fcfs} {event : Ev} {answer : Answer} → Row k t room state event answer new → IsSound state → (port : Port) (moment : ℕ) → IsTestOf port moment new → moment < t → (¬ IsHeardAt port event) × (new ≡ state)
  Row-test (no_bind_sent _) sound port moment test late = absurd test
  Row-test (no_bind_dad _) sound port moment test late = absurd test
  Row-test (no_bind_sent_full _) sound port moment test late = absurd test
  Row-test (no_bind_dad_full _) sound port moment test late = absurd test
  Row-test no_bind_na sound port moment test late = absurd test
  Row-test no_bind_trusted_dad sound port moment test late = absurd test
  Row-test no_bind_trusted_na sound port moment test late = absurd test
  Row-test (tentative_sent _) sound port moment test late = absurd test
  Row-test (tentative_dad _) sound port moment test late = absurd test
  Row-test (tentative_sent_elsewhere _) sound port moment test late = absurd test
  Row-test (tentative_dad_elsewhere _) sound port moment test late = absurd test
  Row-test tentative_na sound port moment test late = absurd test
  Row-test tentative_trusted_dad sound port moment test late = absurd test
  Row-test tentative_trusted_na sound port moment test late = absurd test
  Row-test (valid_sent _) sound port moment test late = absurd test
  Row-test (valid_na _) sound port moment test late = absurd test
  Row-test (valid_dad _) sound port moment test late = absurd test
  Row-test (valid_sent_elsewhere _ _) sound port moment test late = absurd (let is : t ≡ moment = test.1 in omega arith)
  Row-test (valid_dad_elsewhere _ _) sound port moment test late = absurd (let is : t ≡ moment = test.1 in omega arith)
  Row-test (valid_sent_full _ _) sound port moment test late = absurd test
  Row-test (valid_dad_full _ _) sound port moment test late = absurd test
  Row-test (valid_na_elsewhere _) sound port moment test late = absurd test
  Row-test valid_trusted_dad sound port moment test late = absurd (let is : t ≡ moment = test.1 in omega arith)
  Row-test valid_trusted_na sound port moment test late = absurd test
  Row-test (test_lt_sent _) sound port moment test late = absurd test
  Row-test (test_lt_na _) sound port moment test late = absurd test
  Row-test (test_lt_dad _) sound port moment test late = absurd test
  Row-test (test_lt_sent_elsewhere differ) sound port moment test late = (λ heard. differ (heard ∙ sym test.0), refl)
  Row-test (test_lt_dad_elsewhere differ) sound port moment test late = (λ heard. differ (heard ∙ sym test.0), refl)
  Row-test (test_lt_na_elsewhere differ) sound port moment test late = (λ heard. differ (heard ∙ sym test.0), refl)
  Row-test test_lt_trusted_dad sound port moment test late = (λ heard. heard, refl)
  Row-test test_lt_trusted_na sound port moment test late = (λ heard. heard, refl)
  Row-test (test_vp_sent _) sound port moment test late = absurd test
  Row-test (test_vp_na _) sound port moment test late = absurd test
  Row-test (test_vp_dad _) sound port moment test late = absurd test
  Row-test (test_vp_sent_rival rival) sound port moment test late = (λ heard. sound (test.0 ∙ sym heard ∙ rival), refl)
  Row-test (test_vp_dad_rival rival) sound port moment test late = (λ heard. sound (test.0 ∙ sym heard ∙ rival), refl)
  Row-test (test_vp_sent_elsewhere differ _) sound port moment test late = (λ heard. differ (heard ∙ sym test.0), refl)
  Row-test (test_vp_dad_elsewhere differ _) sound port moment test late = (λ heard. differ (heard ∙ sym test.0), refl)
  Row-test (test_vp_na_elsewhere differ) sound port moment test late = (λ heard. differ (heard ∙ sym test.0), refl)
  Row-test test_vp_trusted_dad sound port moment test late = (λ heard. heard, refl)
  Row-test test_vp_trusted_na sound port moment test late = (λ heard. heard, refl)
