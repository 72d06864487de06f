-- The same table as a function: the answer to an event, and the state after it. A law says that it is the one row.
use Rattle.std.specs.Prelude.{ℕ, ◌+◌, ◌==◌, Bool, true, false, Some, None, if◌then◌else◌}
use Rattle.savi_kinds.specs.declared.port.Port.{Port}
use Rattle.savi_kinds.specs.Ports.{number_of}
use Rattle.savi_kinds.specs.declared.verdict.Rule.TheVariants.{PortFull, WrongPort, Unverified, Contested, NaTarget}
use Rattle.savi_kinds.specs.declared.verdict.Scope.TheVariants.{All, TrustedOnly, TrustedAnd}
use Rattle.fcfs_states.specs.declared.answer.Answer.{Answer}
use Rattle.fcfs_states.specs.declared.answer.Probe.TheVariants.{Trusted, To}
use Rattle.fcfs_states.specs.declared.event.Ev.{Ev}
use Rattle.fcfs_states.specs.declared.event.Ev.TheVariants.{Sent, Dad, Na, TpDad, TpNa}
use Rattle.fcfs_states.specs.declared.state.Fcfs.{Fcfs}
use Rattle.fcfs_states.specs.declared.state.Fcfs.TheVariants.{NoBind, Tentative, Valid, TestLt, TestVp}
use Rattle.fcfs_states.specs.declared.times.Times.{Times}
use Rattle.fcfs_states.specs.Table.{passes, drops}

-- an answer, and the state after it
abbrev pub Next : Type 0
Next = Answer × Fcfs

-- no verdict, no probe
abbrev pub silence : Answer
silence = record { verdict = None; probe = None }

-- whether two ports are one
abbrev pub is_same : Port → Port → Bool
is_same p q = number_of p == number_of q

abbrev pub next_no_bind : ℕ → Bool → Ev → Next
next_no_bind t room (Sent r) = if room then (drops Unverified (Some Trusted), Tentative r t true) else (drops PortFull None, NoBind)
next_no_bind t room (Dad r) = if room then (passes TrustedOnly None, Tentative r t false) else (drops PortFull None, NoBind)
next_no_bind t room (Na r) = (drops NaTarget None, NoBind)
next_no_bind t room TpDad = (passes TrustedOnly None, NoBind)
next_no_bind t room TpNa = (passes All None, NoBind)
next_no_bind t room _ = (silence, NoBind)

-- claimed by p
abbrev pub next_tentative : Port → Fcfs → Ev → Next
next_tentative p state (Sent r) = (if is_same r p then drops Unverified None else drops Contested None, state)
next_tentative p state (Dad r) = (if is_same r p then passes TrustedOnly None else drops Contested None, state)
next_tentative p state (Na r) = (drops NaTarget None, state)
next_tentative p state TpDad = (passes (TrustedAnd p) None, state)
next_tentative p state TpNa = (passes All None, NoBind)
next_tentative p state _ = (silence, state)

-- bound to p
abbrev pub next_valid : Times → ℕ → Bool → Port → Fcfs → Ev → Next
next_valid k t room p state (Sent r) =
    if is_same r p
    then (passes All None, Valid p (t + k.life))
    else (if room then (drops WrongPort (Some (To p)), TestVp p r t true) else (drops PortFull None, state))
next_valid k t room p state (Dad r) =
    if is_same r p
    then (passes TrustedOnly None, Valid p (t + k.life))
    else (if room then (passes (TrustedAnd p) (Some (To p)), TestVp p r t true) else (drops PortFull None, state))
next_valid k t room p state (Na r) =
    if is_same r p then (passes All None, Valid p (t + k.life)) else (drops NaTarget None, state)
next_valid k t room p state TpDad = (passes (TrustedAnd p) (Some (To p)), TestLt p t true)
next_valid k t room p state TpNa = (passes All None, state)
next_valid k t room p state _ = (silence, state)

-- p is tested and was heard: it is bound again
abbrev pub heard : Times → ℕ → Port → Answer → Next
heard k t p answer = (answer, Valid p (t + k.life))

-- p is tested, since it may be gone
abbrev pub next_test_lt : Times → ℕ → Port → Fcfs → Ev → Next
next_test_lt k t p state (Sent r) = if is_same r p then heard k t p (passes All None) else (drops Contested None, state)
next_test_lt k t p state (Dad r) = if is_same r p then heard k t p (passes TrustedOnly None) else (drops Contested None, state)
next_test_lt k t p state (Na r) = if is_same r p then heard k t p (passes All None) else (drops NaTarget None, state)
next_test_lt k t p state TpDad = (passes (TrustedAnd p) None, state)
next_test_lt k t p state TpNa = (passes All None, state)
next_test_lt k t p state _ = (silence, state)

-- p is tested, since q claims the address too
abbrev pub next_test_vp : Times → ℕ → Port → Port → Fcfs → Ev → Next
next_test_vp k t p q state (Sent r) =
    if is_same r p
    then heard k t p (passes All None)
    else (if is_same r q then drops WrongPort None else drops Contested None, state)
next_test_vp k t p q state (Dad r) =
    if is_same r p
    then heard k t p (passes TrustedOnly None)
    else (if is_same r q then passes (TrustedAnd p) None else drops Contested None, state)
next_test_vp k t p q state (Na r) = if is_same r p then heard k t p (passes All None) else (drops NaTarget None, state)
next_test_vp k t p q state TpDad = (passes (TrustedAnd p) None, state)
next_test_vp k t p q state TpNa = (passes All None, state)
next_test_vp k t p q state _ = (silence, state)

-- what an event at t comes to, where room says whether its port may hold one more address
abbrev pub next : Times → ℕ → Bool → Fcfs → Ev → Next
next k t room NoBind event = next_no_bind t room event
next k t room (Tentative p since two) event = next_tentative p (Tentative p since two) event
next k t room (Valid p until) event = next_valid k t room p (Valid p until) event
next k t room (TestLt p since two) event = next_test_lt k t p (TestLt p since two) event
next k t room (TestVp p q since two) event = next_test_vp k t p q (TestVp p q since two) event
