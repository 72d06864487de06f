-- The table of first come, first served: a line for each state and event (RFC 6620 section 3.2 for what the states mean; the
-- rows are this switch's own).
use Rattle.std.specs.Prelude.{ℕ, ◌≡◌, ◌+◌, Bool, true, false, Option, Some, None}
use Rattle.savi_kinds.specs.declared.port.Port.{Port}
use Rattle.savi_kinds.specs.declared.verdict.Rule.{Rule}
use Rattle.savi_kinds.specs.declared.verdict.Rule.TheVariants.{PortFull, WrongPort, Unverified, Contested, NaTarget}
use Rattle.savi_kinds.specs.declared.verdict.Scope.{Scope}
use Rattle.savi_kinds.specs.declared.verdict.Scope.TheVariants.{All, TrustedOnly, TrustedAnd}
use Rattle.savi_kinds.specs.declared.verdict.Verdict.TheVariants.{Pass, Drop}
use Rattle.fcfs_states.specs.declared.answer.Answer.{Answer}
use Rattle.fcfs_states.specs.declared.answer.Probe.{Probe}
use Rattle.fcfs_states.specs.declared.answer.Probe.TheVariants.{Trusted, To}
use Rattle.fcfs_states.specs.declared.event.Ev.{Ev}
use Rattle.fcfs_states.specs.declared.event.Ev.TheVariants.{Sent, Dad, Na, TpDad, TpNa}
use Rattle.fcfs_states.specs.declared.state.Fcfs.{Fcfs}
use Rattle.fcfs_states.specs.declared.state.Fcfs.TheVariants.{NoBind, Tentative, Valid, TestLt, TestVp}
use Rattle.fcfs_states.specs.declared.times.Times.{Times}
use Rattle.fcfs_states.specs.States.{Same}

-- the frame goes to these ports
abbrev pub passes : Scope → Option Probe → Answer
passes scope probe = record { verdict = Some (Pass scope); probe = probe }

-- the frame is dropped by this rule
abbrev pub drops : Rule → Option Probe → Answer
drops rule probe = record { verdict = Some (Drop rule); probe = probe }

-- an event at t, where room says whether its port may hold one more address: the state before, the event, the answer,
-- the state after. p is the holder, q another port that claims the address, r the port of the event.
module _ (k : Times) (t : ℕ) (room : Bool) where
  pub data Row : Fcfs → Ev → Answer → Fcfs → Type 0 where
    -- no port has the address
    no_bind_sent : {r : Port} → room ≡ true → Row NoBind (Sent r) (drops Unverified (Some Trusted)) (Tentative r t true)
    no_bind_dad : {r : Port} → room ≡ true → Row NoBind (Dad r) (passes TrustedOnly None) (Tentative r t false)
    no_bind_sent_full : {r : Port} → room ≡ false → Row NoBind (Sent r) (drops PortFull None) NoBind
    no_bind_dad_full : {r : Port} → room ≡ false → Row NoBind (Dad r) (drops PortFull None) NoBind
    no_bind_na : {r : Port} → Row NoBind (Na r) (drops NaTarget None) NoBind
    no_bind_trusted_dad : Row NoBind TpDad (passes TrustedOnly None) NoBind
    no_bind_trusted_na : Row NoBind TpNa (passes All None) NoBind
    -- p claims it
    tentative_sent : {p r : Port} {since : ℕ} {two : Bool} → Same r p → Row (Tentative p since two) (Sent r) (drops Unverified None) (Tentative p since two)
    tentative_dad : {p r : Port} {since : ℕ} {two : Bool} → Same r p → Row (Tentative p since two) (Dad r) (passes TrustedOnly None) (Tentative p since two)
    tentative_sent_elsewhere : {p r : Port} {since : ℕ} {two : Bool} → ¬ Same r p → Row (Tentative p since two) (Sent r) (drops Contested None) (Tentative p since two)
    tentative_dad_elsewhere : {p r : Port} {since : ℕ} {two : Bool} → ¬ Same r p → Row (Tentative p since two) (Dad r) (drops Contested None) (Tentative p since two)
    tentative_na : {p r : Port} {since : ℕ} {two : Bool} → Row (Tentative p since two) (Na r) (drops NaTarget None) (Tentative p since two)
    tentative_trusted_dad : {p : Port} {since : ℕ} {two : Bool} → Row (Tentative p since two) TpDad (passes (TrustedAnd p) None) (Tentative p since two)
    tentative_trusted_na : {p : Port} {since : ℕ} {two : Bool} → Row (Tentative p since two) TpNa (passes All None) NoBind
    -- it is bound to p
    valid_sent : {p r : Port} {until : ℕ} → Same r p → Row (Valid p until) (Sent r) (passes All None) (Valid p (t + k.life))
    valid_na : {p r : Port} {until : ℕ} → Same r p → Row (Valid p until) (Na r) (passes All None) (Valid p (t + k.life))
    valid_dad : {p r : Port} {until : ℕ} → Same r p → Row (Valid p until) (Dad r) (passes TrustedOnly None) (Valid p (t + k.life))
    valid_sent_elsewhere : {p r : Port} {until : ℕ} → ¬ Same r p → room ≡ true → Row (Valid p until) (Sent r) (drops WrongPort (Some (To p))) (TestVp p r t true)
    valid_dad_elsewhere : {p r : Port} {until : ℕ} → ¬ Same r p → room ≡ true → Row (Valid p until) (Dad r) (passes (TrustedAnd p) (Some (To p))) (TestVp p r t true)
    valid_sent_full : {p r : Port} {until : ℕ} → ¬ Same r p → room ≡ false → Row (Valid p until) (Sent r) (drops PortFull None) (Valid p until)
    valid_dad_full : {p r : Port} {until : ℕ} → ¬ Same r p → room ≡ false → Row (Valid p until) (Dad r) (drops PortFull None) (Valid p until)
    valid_na_elsewhere : {p r : Port} {until : ℕ} → ¬ Same r p → Row (Valid p until) (Na r) (drops NaTarget None) (Valid p until)
    valid_trusted_dad : {p : Port} {until : ℕ} → Row (Valid p until) TpDad (passes (TrustedAnd p) (Some (To p))) (TestLt p t true)
    valid_trusted_na : {p : Port} {until : ℕ} → Row (Valid p until) TpNa (passes All None) (Valid p until)
    -- p is tested, since it may be gone
    test_lt_sent : {p r : Port} {since : ℕ} {two : Bool} → Same r p → Row (TestLt p since two) (Sent r) (passes All None) (Valid p (t + k.life))
    test_lt_na : {p r : Port} {since : ℕ} {two : Bool} → Same r p → Row (TestLt p since two) (Na r) (passes All None) (Valid p (t + k.life))
    test_lt_dad : {p r : Port} {since : ℕ} {two : Bool} → Same r p → Row (TestLt p since two) (Dad r) (passes TrustedOnly None) (Valid p (t + k.life))
    test_lt_sent_elsewhere : {p r : Port} {since : ℕ} {two : Bool} → ¬ Same r p → Row (TestLt p since two) (Sent r) (drops Contested None) (TestLt p since two)
    test_lt_dad_elsewhere : {p r : Port} {since : ℕ} {two : Bool} → ¬ Same r p → Row (TestLt p since two) (Dad r) (drops Contested None) (TestLt p since two)
    test_lt_na_elsewhere : {p r : Port} {since : ℕ} {two : Bool} → ¬ Same r p → Row (TestLt p since two) (Na r) (drops NaTarget None) (TestLt p since two)
    test_lt_trusted_dad : {p : Port} {since : ℕ} {two : Bool} → Row (TestLt p since two) TpDad (passes (TrustedAnd p) None) (TestLt p since two)
    test_lt_trusted_na : {p : Port} {since : ℕ} {two : Bool} → Row (TestLt p since two) TpNa (passes All None) (TestLt p since two)
    -- p is tested, since q claims the address too
    test_vp_sent : {p q r : Port} {since : ℕ} {two : Bool} → Same r p → Row (TestVp p q since two) (Sent r) (passes All None) (Valid p (t + k.life))
    test_vp_na : {p q r : Port} {since : ℕ} {two : Bool} → Same r p → Row (TestVp p q since two) (Na r) (passes All None) (Valid p (t + k.life))
    test_vp_dad : {p q r : Port} {since : ℕ} {two : Bool} → Same r p → Row (TestVp p q since two) (Dad r) (passes TrustedOnly None) (Valid p (t + k.life))
    test_vp_sent_rival : {p q r : Port} {since : ℕ} {two : Bool} → Same r q → Row (TestVp p q since two) (Sent r) (drops WrongPort None) (TestVp p q since two)
    test_vp_dad_rival : {p q r : Port} {since : ℕ} {two : Bool} → Same r q → Row (TestVp p q since two) (Dad r) (passes (TrustedAnd p) None) (TestVp p q since two)
    test_vp_sent_elsewhere : {p q r : Port} {since : ℕ} {two : Bool} → ¬ Same r p → ¬ Same r q → Row (TestVp p q since two) (Sent r) (drops Contested None) (TestVp p q since two)
    test_vp_dad_elsewhere : {p q r : Port} {since : ℕ} {two : Bool} → ¬ Same r p → ¬ Same r q → Row (TestVp p q since two) (Dad r) (drops Contested None) (TestVp p q since two)
    test_vp_na_elsewhere : {p q r : Port} {since : ℕ} {two : Bool} → ¬ Same r p → Row (TestVp p q since two) (Na r) (drops NaTarget None) (TestVp p q since two)
    test_vp_trusted_dad : {p q : Port} {since : ℕ} {two : Bool} → Row (TestVp p q since two) TpDad (passes (TrustedAnd p) None) (TestVp p q since two)
    test_vp_trusted_na : {p q : Port} {since : ℕ} {two : Bool} → Row (TestVp p q since two) TpNa (passes All None) (TestVp p q since two)
