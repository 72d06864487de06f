use Rattle.std.proofs.Common.{◌≡◌, true, ℕ, List, arith, ap, ◌∙◌, sym, length, inl, inr, map, refl, subst}
use Rattle.std.specs.List.Sorted.{IsStrictlyIncreasing}
use Rattle.savi_kinds.specs.declared.plan.PortPlan.{PortPlan}
use Rattle.savi_kinds.specs.Ports.{number_of}
use Rattle.savi_kinds.specs.ValidPlan.{numbers_of}
use Rattle.savi_ends.specs.declared.world.Std.{Std}
use Rattle.savi_ends.specs.declared.world.Ends.{Ends}
use Rattle.savi_ends.specs.Faults.{Rose}
use Rattle.savi_ends.specs.Places.{Book, Place, PortKey, ControlKey, BothFresh}
use Rattle.switch_ports.specs.Named.{named_by}
use Rattle.switch_ports.specs.Live.{AreOpened, IsNextOf, OthersSame}
use Rattle.switch_report.specs.RunLines.{cannot_open_line, control_word, journal_word}
use Rattle.switch_run.specs.Causes.{ports_in}
use Rattle.switch_run.specs.Live.{IsServeOf}
use Rattle.switch_run.specs.Session.{ToldBy}
use Rattle.switch_run.proofs.Ending.{Closes, control_same, stays_all}
use Rattle.switch_run.proofs.Handling.{handled_one}
use Rattle.switch_run.proofs.LiveThrough.{HandledLive, HandledPlan, HandledPorts, live_closes, live_control, live_control_back, live_control_out, live_control_unopened, live_handled, live_journal_unopened, live_others, live_out, live_port_unopened, live_unused, numbers_count, numbers_len, clock_by}
use Rattle.switch_run.proofs.Recast.{told_by}
use Rattle.switch_run.proofs.Through.{Laws}
use Rattle.switch_run.proofs.serving.serve_plan.Given as given
use Rattle.switch_run.proofs.serving.serve_plan.Goals as goal

-- a port could not be opened

next_of : (g : given.Over) (c : goal.After-drop-plan-in-Some-5 g) → IsNextOf (numbers_of c.args.plan.ports) (length c.open_live.new.held.items) (number_of c.in-Some.port)
next_of g c = subst (λ (l : List PortPlan). IsNextOf (numbers_of l) (length c.open_live.new.held.items) (number_of c.in-Some.port)) c.as_slice.ensures c.in-Some.ensures.failed

first_ports : (g : given.Over) (c : goal.After-drop-plan-in-Some-5 g) → HandledPorts (numbers_of c.args.plan.ports) c.open_live.new.held.items c.open_live.new.held.items (ports_in c.args.plan (g.W.World.book c.args.world.now)) (ports_in c.args.plan (g.W.World.book c.keep_live.new.world))
first_ports g c =
    let S = g.row.W-S.Denot in
    let K = g.row.W-K.Denot in
    let C = g.row.W-C.Denot in
    let held = c.open_live.new.held.items in
    let old = (g.W.World.book c.args.world.now).ports in
    let mid = (g.W.World.book c.open_live.new.world).ports in
    live_handled (BothFresh g.W.S.Source.faults g.W.K.Sink.faults) c.args.plan.ports (numbers_of c.args.plan.ports) _ held held old mid _ (g.W.World.book c.keep_live.new.world).ports _
    (subst (λ (l : List PortPlan). AreOpened {S = S} {K = K} {C = C} (BothFresh g.W.S.Source.faults g.W.K.Sink.faults) (numbers_of l) (named_by l old) (named_by l mid) held) c.as_slice.ensures c.open_live.ensures.opened)
    (subst (λ (l : List PortPlan). OthersSame {X = Ends S K C} (numbers_of l) (length held) old mid) c.as_slice.ensures c.open_live.ensures.others)
    refl refl (ap (map number_of) c.as_slice-in-Some.ensures.value ∙ c.in-Ok.ensures.numbers) c.keep_live.ensures.kept c.keep_live.ensures.others refl

first_others : (g : given.Over) (c : goal.After-drop-plan-in-Some-5 g) → OthersSame (numbers_of c.args.plan.ports) (length c.open_live.new.held.items) (g.W.World.book c.args.world.now).ports (g.W.World.book c.keep_live.new.world).ports
first_others g c =
    let S = g.row.W-S.Denot in
    let K = g.row.W-K.Denot in
    let C = g.row.W-C.Denot in
    let held = c.open_live.new.held.items in
    let old = (g.W.World.book c.args.world.now).ports in
    let mid = (g.W.World.book c.open_live.new.world).ports in
    live_others (numbers_of c.args.plan.ports) _ held held old mid _ (g.W.World.book c.keep_live.new.world).ports _
    (subst (λ (l : List PortPlan). OthersSame {X = Ends S K C} (numbers_of l) (length held) old mid) c.as_slice.ensures c.open_live.ensures.others)
    refl refl (ap (map number_of) c.as_slice-in-Some.ensures.value ∙ c.in-Ok.ensures.numbers) c.keep_live.ensures.others refl

pub keep_live-requires-clause-rising : goal.keep_live-requires-clause-rising
keep_live-requires-clause-rising g c κs within = subst (λ (l : List ℕ). IsStrictlyIncreasing l) (sym (ap (map number_of) c.as_slice-in-Some.ensures.value ∙ c.in-Ok.ensures.numbers)) c.requires.built.valid.ports

pub keep_live-requires-clause-few : goal.keep_live-requires-clause-few
keep_live-requires-clause-few g c κs within =
    let next : IsNextOf (numbers_of c.args.plan.ports) (length c.open_live.new.held.items) (number_of c.in-Some.port) =
    subst (λ (l : List PortPlan). IsNextOf (numbers_of l) (length c.open_live.new.held.items) (number_of c.in-Some.port)) c.as_slice.ensures c.in-Some.ensures.failed in
    let count = numbers_count c.args.plan c.as_slice-in-Some.result.now (ap (map number_of) c.as_slice-in-Some.ensures.value ∙ c.in-Ok.ensures.numbers) in
    omega (arith, next.0, numbers_len c.args.plan, count)

pub keep_live-requires-clause-out : goal.keep_live-requires-clause-out
keep_live-requires-clause-out g c κs within =
    let S = g.row.W-S.Denot in
    let K = g.row.W-K.Denot in
    let C = g.row.W-C.Denot in
    let held = c.open_live.new.held.items in
    let old = (g.W.World.book c.args.world.now).ports in
    let mid = (g.W.World.book c.open_live.new.world).ports in
    live_out (BothFresh g.W.S.Source.faults g.W.K.Sink.faults) c.args.plan.ports (numbers_of c.args.plan.ports) _ held held old mid _
    (subst (λ (l : List PortPlan). AreOpened {S = S} {K = K} {C = C} (BothFresh g.W.S.Source.faults g.W.K.Sink.faults) (numbers_of l) (named_by l old) (named_by l mid) held) c.as_slice.ensures c.open_live.ensures.opened)
    refl (ap (map number_of) c.as_slice-in-Some.ensures.value ∙ c.in-Ok.ensures.numbers) refl

pub returns-in-Some-clause-open : goal.returns-in-Some-clause-open
returns-in-Some-clause-open g c = λ seven.
    let S = g.row.W-S.Denot in
    let K = g.row.W-K.Denot in
    let C = g.row.W-C.Denot in
    let faults : Book S K C → ℕ = λ b. b.faults in
    ap faults c.keep_live.ensures.rest ∙ c.in-Some.ensures.once

pub returns-in-Some-clause-unopened : goal.returns-in-Some-clause-unopened
returns-in-Some-clause-unopened g c = λ seven.
    let S = g.row.W-S.Denot in
    let K = g.row.W-K.Denot in
    let C = g.row.W-C.Denot in
    inl (live_port_unopened c.args.plan _ c.open_live.new.held.items (number_of c.in-Some.port) _ _ c.requires.built.valid.ports (next_of g c) (first_ports g c) (first_others g c)
    (ap (λ (b : Book S K C). b.control) c.keep_live.ensures.rest ∙ ap (λ (b : Book S K C). b.control) c.open_live.ensures.rest)
    (ap (λ (b : Book S K C). b.outputs) c.keep_live.ensures.rest ∙ ap (λ (b : Book S K C). b.outputs) c.open_live.ensures.rest)
    (subst (λ (name : List ℕ). ToldBy g.W.K.Sink.faults g.W.K.Sink.written c.args.errors.now c.tell_unopened-put.new.sink (cannot_open_line name)) (c.as_str.ensures.value ∙ c.port_name.ensures)
    (told_by g.W.K.Sink.faults g.W.K.Sink.written c.tell_unopened-put.result _ _ _ c.tell_unopened-put.ensures.extends c.tell_unopened-put.ensures.cause)))

pub returns-in-Some-clause-unused : goal.returns-in-Some-clause-unused
returns-in-Some-clause-unused g c = λ one_of.
    let S = g.row.W-S.Denot in
    let K = g.row.W-K.Denot in
    let C = g.row.W-C.Denot in
    let next = next_of g c in
    live_unused c.args.plan c.open_live.new.held.items _ _ (omega (arith, next.0, numbers_len c.args.plan)) (first_ports g c) (first_others g c)
    (control_same true c.args.plan.control _ _ (ap (λ (b : Book S K C). b.control) c.keep_live.ensures.rest ∙ ap (λ (b : Book S K C). b.control) c.open_live.ensures.rest))
    (ap (λ (b : Book S K C). b.ticker) c.keep_live.ensures.rest ∙ ap (λ (b : Book S K C). b.ticker) c.open_live.ensures.rest)
    (λ name. ap (λ (b : Book S K C). b.outputs name) c.keep_live.ensures.rest ∙ ap (λ (b : Book S K C). b.outputs name) c.open_live.ensures.rest)

-- control could not be opened

all_ports : (g : given.Over) (c : goal.After-drop-plan-in-Err-5 g) → HandledPorts (numbers_of c.args.plan.ports) c.open_live.new.held.items c.open_live.new.held.items (ports_in c.args.plan (g.W.World.book c.args.world.now)) (ports_in c.args.plan (g.W.World.book c.keep_live-in-Err.new.world))
all_ports g c =
    let S = g.row.W-S.Denot in
    let K = g.row.W-K.Denot in
    let C = g.row.W-C.Denot in
    let held = c.open_live.new.held.items in
    let old = (g.W.World.book c.args.world.now).ports in
    let mid = (g.W.World.book c.open_live.new.world).ports in
    live_handled (BothFresh g.W.S.Source.faults g.W.K.Sink.faults) c.args.plan.ports (numbers_of c.args.plan.ports) _ held held old mid (g.W.World.book c.open_live_control.new.world).ports (g.W.World.book c.keep_live-in-Err.new.world).ports _
    (subst (λ (l : List PortPlan). AreOpened {S = S} {K = K} {C = C} (BothFresh g.W.S.Source.faults g.W.K.Sink.faults) (numbers_of l) (named_by l old) (named_by l mid) held) c.as_slice.ensures c.open_live.ensures.opened)
    (subst (λ (l : List PortPlan). OthersSame {X = Ends S K C} (numbers_of l) (length held) old mid) c.as_slice.ensures c.open_live.ensures.others)
    (ap (λ (b : Book S K C). b.ports) c.open_live_control.ensures.rest)
    refl (ap (map number_of) c.as_slice-in-Err.ensures.value ∙ c.in-Ok.ensures.numbers) c.keep_live-in-Err.ensures.kept c.keep_live-in-Err.ensures.others refl

all_others : (g : given.Over) (c : goal.After-drop-plan-in-Err-5 g) → OthersSame (numbers_of c.args.plan.ports) (length c.open_live.new.held.items) (g.W.World.book c.args.world.now).ports (g.W.World.book c.keep_live-in-Err.new.world).ports
all_others g c =
    let S = g.row.W-S.Denot in
    let K = g.row.W-K.Denot in
    let C = g.row.W-C.Denot in
    let held = c.open_live.new.held.items in
    let old = (g.W.World.book c.args.world.now).ports in
    let mid = (g.W.World.book c.open_live.new.world).ports in
    live_others (numbers_of c.args.plan.ports) _ held held old mid (g.W.World.book c.open_live_control.new.world).ports (g.W.World.book c.keep_live-in-Err.new.world).ports _
    (subst (λ (l : List PortPlan). OthersSame {X = Ends S K C} (numbers_of l) (length held) old mid) c.as_slice.ensures c.open_live.ensures.others)
    (ap (λ (b : Book S K C). b.ports) c.open_live_control.ensures.rest) refl (ap (map number_of) c.as_slice-in-Err.ensures.value ∙ c.in-Ok.ensures.numbers) c.keep_live-in-Err.ensures.others refl

pub keep_live-requires-in-Err-clause-rising : goal.keep_live-requires-in-Err-clause-rising
keep_live-requires-in-Err-clause-rising g c κs within = subst (λ (l : List ℕ). IsStrictlyIncreasing l) (sym (ap (map number_of) c.as_slice-in-Err.ensures.value ∙ c.in-Ok.ensures.numbers)) c.requires.built.valid.ports

pub keep_live-requires-in-Err-clause-few : goal.keep_live-requires-in-Err-clause-few
keep_live-requires-in-Err-clause-few g c κs within =
    let all : length c.open_live.new.held.items ≡ length c.args.plan.ports = c.open_live.ensures.all c.in_default-open_live.is ∙ ap length c.as_slice.ensures in
    let count = numbers_count c.args.plan c.as_slice-in-Err.result.now (ap (map number_of) c.as_slice-in-Err.ensures.value ∙ c.in-Ok.ensures.numbers) in
    omega (arith, all, count)

pub keep_live-requires-in-Err-clause-out : goal.keep_live-requires-in-Err-clause-out
keep_live-requires-in-Err-clause-out g c κs within =
    let S = g.row.W-S.Denot in
    let K = g.row.W-K.Denot in
    let C = g.row.W-C.Denot in
    let held = c.open_live.new.held.items in
    let old = (g.W.World.book c.args.world.now).ports in
    let mid = (g.W.World.book c.open_live.new.world).ports in
    live_out (BothFresh g.W.S.Source.faults g.W.K.Sink.faults) c.args.plan.ports (numbers_of c.args.plan.ports) _ held held old mid _
    (subst (λ (l : List PortPlan). AreOpened {S = S} {K = K} {C = C} (BothFresh g.W.S.Source.faults g.W.K.Sink.faults) (numbers_of l) (named_by l old) (named_by l mid) held) c.as_slice.ensures c.open_live.ensures.opened)
    refl (ap (map number_of) c.as_slice-in-Err.ensures.value ∙ c.in-Ok.ensures.numbers) (ap (λ (b : Book S K C). b.ports) c.open_live_control.ensures.rest)

pub returns-in-Err-clause-open : goal.returns-in-Err-clause-open
returns-in-Err-clause-open g c = λ seven.
    let S = g.row.W-S.Denot in
    let K = g.row.W-K.Denot in
    let C = g.row.W-C.Denot in
    let faults : Book S K C → ℕ = λ b. b.faults in
    subst (λ (n : ℕ). Rose n (g.W.World.book c.keep_live-in-Err.new.world).faults) c.in_default-open_live.ensures.still (ap faults c.keep_live-in-Err.ensures.rest ∙ c.in-Err.ensures.once)

pub returns-in-Err-clause-unopened : goal.returns-in-Err-clause-unopened
returns-in-Err-clause-unopened g c = λ seven.
    let S = g.row.W-S.Denot in
    let K = g.row.W-K.Denot in
    let C = g.row.W-C.Denot in
    inr (inl (live_control_unopened c.args.plan _ c.open_live.new.held.items _ _ c.in-Err.ensures.named (c.open_live.ensures.all c.in_default-open_live.is ∙ ap length c.as_slice.ensures) (all_ports g c) (all_others g c)
    (ap (λ (b : Book S K C). b.control) c.keep_live-in-Err.ensures.rest ∙ c.in-Err.ensures.as_it_was ∙ ap (λ (b : Book S K C). b.control) c.open_live.ensures.rest)
    (ap (λ (b : Book S K C). b.outputs) c.keep_live-in-Err.ensures.rest ∙ ap (λ (b : Book S K C). b.outputs) c.open_live_control.ensures.rest ∙ ap (λ (b : Book S K C). b.outputs) c.open_live.ensures.rest)
    (told_by g.W.K.Sink.faults g.W.K.Sink.written c.tell_unopened-put-in-Err.result _ _ (cannot_open_line control_word) c.tell_unopened-put-in-Err.ensures.extends c.tell_unopened-put-in-Err.ensures.cause)))

pub returns-in-Err-clause-unused : goal.returns-in-Err-clause-unused
returns-in-Err-clause-unused g c = λ one_of.
    let S = g.row.W-S.Denot in
    let K = g.row.W-K.Denot in
    let C = g.row.W-C.Denot in
    let all : length c.open_live.new.held.items ≡ length c.args.plan.ports = c.open_live.ensures.all c.in_default-open_live.is ∙ ap length c.as_slice.ensures in
    live_unused c.args.plan c.open_live.new.held.items _ _ (omega (arith, all)) (all_ports g c) (all_others g c)
    (control_same true c.args.plan.control _ _ (ap (λ (b : Book S K C). b.control) c.keep_live-in-Err.ensures.rest ∙ c.in-Err.ensures.as_it_was ∙ ap (λ (b : Book S K C). b.control) c.open_live.ensures.rest))
    (ap (λ (b : Book S K C). b.ticker) c.keep_live-in-Err.ensures.rest ∙ ap (λ (b : Book S K C). b.ticker) c.open_live_control.ensures.rest ∙ ap (λ (b : Book S K C). b.ticker) c.open_live.ensures.rest)
    (λ name. ap (λ (b : Book S K C). b.outputs name) c.keep_live-in-Err.ensures.rest ∙ ap (λ (b : Book S K C). b.outputs name) c.open_live_control.ensures.rest ∙ ap (λ (b : Book S K C). b.outputs name) c.open_live.ensures.rest)

-- the journal could not be opened

pub keep_live-requires-in-Err-output-clause-rising : goal.keep_live-requires-in-Err-output-clause-rising
keep_live-requires-in-Err-output-clause-rising g c κs within = subst (λ (l : List ℕ). IsStrictlyIncreasing l) (sym (ap (map number_of) c.as_slice-in-Err-output.ensures.value ∙ c.in-Ok.ensures.numbers)) c.requires.built.valid.ports

pub keep_live-requires-in-Err-output-clause-few : goal.keep_live-requires-in-Err-output-clause-few
keep_live-requires-in-Err-output-clause-few g c κs within =
    let all : length c.open_live.new.held.items ≡ length c.args.plan.ports = c.open_live.ensures.all c.in_default-open_live.is ∙ ap length c.as_slice.ensures in
    let count = numbers_count c.args.plan c.as_slice-in-Err-output.result.now (ap (map number_of) c.as_slice-in-Err-output.ensures.value ∙ c.in-Ok.ensures.numbers) in
    omega (arith, all, count)

pub keep_live-requires-in-Err-output-clause-out : goal.keep_live-requires-in-Err-output-clause-out
keep_live-requires-in-Err-output-clause-out g c κs within =
    let S = g.row.W-S.Denot in
    let K = g.row.W-K.Denot in
    let C = g.row.W-C.Denot in
    let held = c.open_live.new.held.items in
    let old = (g.W.World.book c.args.world.now).ports in
    let mid = (g.W.World.book c.open_live.new.world).ports in
    live_out (BothFresh g.W.S.Source.faults g.W.K.Sink.faults) c.args.plan.ports (numbers_of c.args.plan.ports) _ held held old mid _
    (subst (λ (l : List PortPlan). AreOpened {S = S} {K = K} {C = C} (BothFresh g.W.S.Source.faults g.W.K.Sink.faults) (numbers_of l) (named_by l old) (named_by l mid) held) c.as_slice.ensures c.open_live.ensures.opened)
    refl (ap (map number_of) c.as_slice-in-Err-output.ensures.value ∙ c.in-Ok.ensures.numbers)
    (ap (λ (b : Book S K C). b.ports) c.output.ensures.rest ∙ ap (λ (b : Book S K C). b.ports) c.open_live_control.ensures.rest)

pub keep_live_control-requires-clause-out : goal.keep_live_control-requires-clause-out
keep_live_control-requires-clause-out g c κs within =
    let S = g.row.W-S.Denot in
    let K = g.row.W-K.Denot in
    let C = g.row.W-C.Denot in
    live_control_out (BothFresh g.W.S.Source.faults g.W.K.Sink.faults) c.args.plan.control c.in-Ok-open_live_control.control c.in-Ok-open_live_control.control _ (g.W.World.book c.open_live_control.new.world).control _ c.in-Ok-open_live_control.ensures.opened refl
    (ap (λ (b : Book S K C). b.control) c.keep_live-in-Err-output.ensures.rest ∙ ap (λ (b : Book S K C). b.control) c.output.ensures.rest)

unopened_ports : (g : given.Over) (c : goal.After-drop-plan-in-Err-output-5 g) → HandledPorts (numbers_of c.args.plan.ports) c.open_live.new.held.items c.open_live.new.held.items (ports_in c.args.plan (g.W.World.book c.args.world.now)) (ports_in c.args.plan (g.W.World.book c.keep_live_control.new.world))
unopened_ports g c =
    let S = g.row.W-S.Denot in
    let K = g.row.W-K.Denot in
    let C = g.row.W-C.Denot in
    let ports : Book S K C → PortKey → Place (Ends S K C) = λ b. b.ports in
    let held = c.open_live.new.held.items in
    let old = (g.W.World.book c.args.world.now).ports in
    let mid = (g.W.World.book c.open_live.new.world).ports in
    live_handled (BothFresh g.W.S.Source.faults g.W.K.Sink.faults) c.args.plan.ports (numbers_of c.args.plan.ports) _ held held old mid (ports (g.W.World.book c.output.new.self)) (ports (g.W.World.book c.keep_live-in-Err-output.new.world)) _
    (subst (λ (l : List PortPlan). AreOpened {S = S} {K = K} {C = C} (BothFresh g.W.S.Source.faults g.W.K.Sink.faults) (numbers_of l) (named_by l old) (named_by l mid) held) c.as_slice.ensures c.open_live.ensures.opened)
    (subst (λ (l : List PortPlan). OthersSame {X = Ends S K C} (numbers_of l) (length held) old mid) c.as_slice.ensures c.open_live.ensures.others)
    (ap ports c.output.ensures.rest ∙ ap ports c.open_live_control.ensures.rest)
    refl (ap (map number_of) c.as_slice-in-Err-output.ensures.value ∙ c.in-Ok.ensures.numbers) c.keep_live-in-Err-output.ensures.kept c.keep_live-in-Err-output.ensures.others (ap ports c.keep_live_control.ensures.rest)

unopened_others : (g : given.Over) (c : goal.After-drop-plan-in-Err-output-5 g) → OthersSame (numbers_of c.args.plan.ports) (length c.open_live.new.held.items) (g.W.World.book c.args.world.now).ports (g.W.World.book c.keep_live_control.new.world).ports
unopened_others g c =
    let S = g.row.W-S.Denot in
    let K = g.row.W-K.Denot in
    let C = g.row.W-C.Denot in
    let ports : Book S K C → PortKey → Place (Ends S K C) = λ b. b.ports in
    let held = c.open_live.new.held.items in
    let old = (g.W.World.book c.args.world.now).ports in
    let mid = (g.W.World.book c.open_live.new.world).ports in
    live_others (numbers_of c.args.plan.ports) _ held held old mid (ports (g.W.World.book c.output.new.self)) (ports (g.W.World.book c.keep_live-in-Err-output.new.world)) _
    (subst (λ (l : List PortPlan). OthersSame {X = Ends S K C} (numbers_of l) (length held) old mid) c.as_slice.ensures c.open_live.ensures.others)
    (ap ports c.output.ensures.rest ∙ ap ports c.open_live_control.ensures.rest) refl (ap (map number_of) c.as_slice-in-Err-output.ensures.value ∙ c.in-Ok.ensures.numbers) c.keep_live-in-Err-output.ensures.others (ap ports c.keep_live_control.ensures.rest)

unopened_control : (g : given.Over) (c : goal.After-drop-plan-in-Err-output-5 g) → HandledLive c.args.plan.control c.in-Ok-open_live_control.control c.in-Ok-open_live_control.control (g.W.World.book c.args.world.now).control (g.W.World.book c.keep_live_control.new.world).control
unopened_control g c =
    let S = g.row.W-S.Denot in
    let K = g.row.W-K.Denot in
    let C = g.row.W-C.Denot in
    let control : Book S K C → ControlKey → Place (Ends S K C) = λ b. b.control in
    live_control (BothFresh g.W.S.Source.faults g.W.K.Sink.faults) c.args.plan.control c.in-Ok-open_live_control.control c.in-Ok-open_live_control.control _ (control (g.W.World.book c.open_live.new.world)) (control (g.W.World.book c.open_live_control.new.world)) (control (g.W.World.book c.keep_live-in-Err-output.new.world)) _ _
    (ap control c.open_live.ensures.rest) c.in-Ok-open_live_control.ensures.opened refl (ap control c.keep_live-in-Err-output.ensures.rest ∙ ap control c.output.ensures.rest)
    c.keep_live_control.ensures.kept c.keep_live_control.ensures.none refl

unopened_outputs : (g : given.Over) (c : goal.After-drop-plan-in-Err-output-5 g) → (name : List ℕ) → (g.W.World.book c.keep_live_control.new.world).outputs name ≡ (g.W.World.book c.args.world.now).outputs name
unopened_outputs g c name =
    let S = g.row.W-S.Denot in
    let K = g.row.W-K.Denot in
    let C = g.row.W-C.Denot in
    let output : Book S K C → Place K = λ b. b.outputs name in
    ap output c.keep_live_control.ensures.rest ∙ ap output c.keep_live-in-Err-output.ensures.rest
    ∙ stays_all (g.W.World.book c.open_live_control.new.world).outputs (g.W.World.book c.output.new.self).outputs c.as_str-2.result.now c.in-Err-output.ensures.opens.err c.in-Err-output.ensures.others name
    ∙ ap output c.open_live_control.ensures.rest ∙ ap output c.open_live.ensures.rest

unopened_ticker : (g : given.Over) (c : goal.After-drop-plan-in-Err-output-5 g) → (g.W.World.book c.keep_live_control.new.world).ticker ≡ (g.W.World.book c.args.world.now).ticker
unopened_ticker g c =
    let S = g.row.W-S.Denot in
    let K = g.row.W-K.Denot in
    let C = g.row.W-C.Denot in
    let ticker : Book S K C → Place C = λ b. b.ticker in
    ap ticker c.keep_live_control.ensures.rest ∙ ap ticker c.keep_live-in-Err-output.ensures.rest ∙ ap ticker c.output.ensures.rest ∙ ap ticker c.open_live_control.ensures.rest ∙ ap ticker c.open_live.ensures.rest

pub returns-in-Err-output-clause-open : goal.returns-in-Err-output-clause-open
returns-in-Err-output-clause-open g c = λ seven.
    let S = g.row.W-S.Denot in
    let K = g.row.W-K.Denot in
    let C = g.row.W-C.Denot in
    let faults : Book S K C → ℕ = λ b. b.faults in
    subst (λ (n : ℕ). Rose n (g.W.World.book c.keep_live_control.new.world).faults) (c.in-Ok-open_live_control.ensures.still ∙ c.in_default-open_live.ensures.still)
    (ap faults c.keep_live_control.ensures.rest ∙ ap faults c.keep_live-in-Err-output.ensures.rest ∙ c.in-Err-output.ensures.opens.once)

pub returns-in-Err-output-clause-unopened : goal.returns-in-Err-output-clause-unopened
returns-in-Err-output-clause-unopened g c = λ seven.
    inr (inr (live_journal_unopened c.args.plan _ c.open_live.new.held.items c.in-Ok-open_live_control.control _ _ (c.open_live.ensures.all c.in_default-open_live.is ∙ ap length c.as_slice.ensures)
    (unopened_ports g c) (unopened_others g c) (unopened_control g c) (unopened_outputs g c)
    (told_by g.W.K.Sink.faults g.W.K.Sink.written c.tell_unopened-put-in-Err-output.result _ _ (cannot_open_line journal_word) c.tell_unopened-put-in-Err-output.ensures.extends c.tell_unopened-put-in-Err-output.ensures.cause)))

pub returns-in-Err-output-clause-unticked : goal.returns-in-Err-output-clause-unticked
returns-in-Err-output-clause-unticked g c = λ seven. unopened_ticker g c

pub returns-in-Err-output-clause-unused : goal.returns-in-Err-output-clause-unused
returns-in-Err-output-clause-unused g c = λ one_of.
    let all : length c.open_live.new.held.items ≡ length c.args.plan.ports = c.open_live.ensures.all c.in_default-open_live.is ∙ ap length c.as_slice.ensures in
    live_unused c.args.plan c.open_live.new.held.items _ _ (omega (arith, all)) (unopened_ports g c) (unopened_others g c) (live_control_back c.args.plan.control c.in-Ok-open_live_control.control _ _ (unopened_control g c)) (unopened_ticker g c) (unopened_outputs g c)

-- all was opened

pub keep_live-requires-2-clause-rising : goal.keep_live-requires-2-clause-rising
keep_live-requires-2-clause-rising g c κs within = subst (λ (l : List ℕ). IsStrictlyIncreasing l) (sym (ap (map number_of) c.as_slice-2.ensures.value ∙ c.in-Ok.ensures.numbers)) c.requires.built.valid.ports

pub keep_live-requires-2-clause-few : goal.keep_live-requires-2-clause-few
keep_live-requires-2-clause-few g c κs within =
    let all : length c.open_live.new.held.items ≡ length c.args.plan.ports = c.open_live.ensures.all c.in_default-open_live.is ∙ ap length c.as_slice.ensures in
    let count = numbers_count c.args.plan c.as_slice-2.result.now (ap (map number_of) c.as_slice-2.ensures.value ∙ c.in-Ok.ensures.numbers) in
    omega (arith, all, count, c.serve-ready.ensures.ports, c.serve-ready.result.ready.ports.ok.0, c.open_live.new.held.ok.0)

pub keep_live-requires-2-clause-out : goal.keep_live-requires-2-clause-out
keep_live-requires-2-clause-out g c κs within =
    let S = g.row.W-S.Denot in
    let K = g.row.W-K.Denot in
    let C = g.row.W-C.Denot in
    let ports : Book S K C → PortKey → Place (Ends S K C) = λ b. b.ports in
    let held = c.open_live.new.held.items in
    let old = (g.W.World.book c.args.world.now).ports in
    let mid = (g.W.World.book c.open_live.new.world).ports in
    live_out (BothFresh g.W.S.Source.faults g.W.K.Sink.faults) c.args.plan.ports (numbers_of c.args.plan.ports) _ held c.serve-ready.result.ready.ports.items old mid _
    (subst (λ (l : List PortPlan). AreOpened {S = S} {K = K} {C = C} (BothFresh g.W.S.Source.faults g.W.K.Sink.faults) (numbers_of l) (named_by l old) (named_by l mid) held) c.as_slice.ensures c.open_live.ensures.opened)
    (omega (arith, c.serve-ready.ensures.ports, c.serve-ready.result.ready.ports.ok.0, c.open_live.new.held.ok.0)) (ap (map number_of) c.as_slice-2.ensures.value ∙ c.in-Ok.ensures.numbers)
    (ap ports c.ticker.ensures.rest ∙ ap ports c.output.ensures.rest ∙ ap ports c.open_live_control.ensures.rest)

pub keep_live_control-requires-2-clause-out : goal.keep_live_control-requires-2-clause-out
keep_live_control-requires-2-clause-out g c κs within =
    let S = g.row.W-S.Denot in
    let K = g.row.W-K.Denot in
    let C = g.row.W-C.Denot in
    let control : Book S K C → ControlKey → Place (Ends S K C) = λ b. b.control in
    live_control_out (BothFresh g.W.S.Source.faults g.W.K.Sink.faults) c.args.plan.control c.in-Ok-open_live_control.control c.serve-ready.result.ready.control _ (g.W.World.book c.open_live_control.new.world).control _ c.in-Ok-open_live_control.ensures.opened c.serve-ready.ensures.control
    (ap control c.keep_live-2.ensures.rest ∙ ap control c.ticker.ensures.rest ∙ ap control c.output.ensures.rest)

std_before : (g : given.Over) (c : goal.After-drop-numbers-2 g) → (g.W.World.book c.keep_output.new.self).std ≡ (g.W.World.book c.args.world.now).std
std_before g c =
    let S = g.row.W-S.Denot in
    let K = g.row.W-K.Denot in
    let C = g.row.W-C.Denot in
    let std : Book S K C → Std → Place K = λ b. b.std in
    ap std c.keep_output.ensures.rest ∙ ap std c.keep_ticker.ensures.rest ∙ ap std c.keep_live_control-2.ensures.rest ∙ ap std c.keep_live-2.ensures.rest ∙ ap std c.ticker.ensures.rest ∙ ap std c.output.ensures.rest ∙ ap std c.open_live_control.ensures.rest ∙ ap std c.open_live.ensures.rest

handled_plan : (g : given.Over) (c : goal.After-drop-numbers-2 g) → HandledPlan c.args.plan (record { ports = c.open_live.new.held; control = c.in-Ok-open_live_control.control; ticker = c.ticker.result; journal = c.in-Ok-output.sink }) c.serve-ready.result.ready c.in-Ok-output.sink c.serve-ready.result.ready.journal (g.W.World.book c.args.world.now) (g.W.World.book c.conclude.new.world)
handled_plan g c =
    let S = g.row.W-S.Denot in
    let K = g.row.W-K.Denot in
    let C = g.row.W-C.Denot in
    let ports : Book S K C → PortKey → Place (Ends S K C) = λ b. b.ports in
    let control : Book S K C → ControlKey → Place (Ends S K C) = λ b. b.control in
    let ticker : Book S K C → Place C = λ b. b.ticker in
    let outputs : Book S K C → List ℕ → Place K = λ b. b.outputs in
    let held = c.open_live.new.held.items in
    let old = (g.W.World.book c.args.world.now).ports in
    let mid = (g.W.World.book c.open_live.new.world).ports in
    record {
      planned = c.open_live.ensures.all c.in_default-open_live.is ∙ ap length c.as_slice.ensures;
      ports = live_handled (BothFresh g.W.S.Source.faults g.W.K.Sink.faults) c.args.plan.ports (numbers_of c.args.plan.ports) _ held c.serve-ready.result.ready.ports.items old mid (ports (g.W.World.book c.ticker.new.self)) (ports (g.W.World.book c.keep_live-2.new.world)) _
          (subst (λ (l : List PortPlan). AreOpened {S = S} {K = K} {C = C} (BothFresh g.W.S.Source.faults g.W.K.Sink.faults) (numbers_of l) (named_by l old) (named_by l mid) held) c.as_slice.ensures c.open_live.ensures.opened)
          (subst (λ (l : List PortPlan). OthersSame {X = Ends S K C} (numbers_of l) (length held) old mid) c.as_slice.ensures c.open_live.ensures.others)
          (ap ports c.ticker.ensures.rest ∙ ap ports c.output.ensures.rest ∙ ap ports c.open_live_control.ensures.rest)
          (omega (arith, c.serve-ready.ensures.ports, c.serve-ready.result.ready.ports.ok.0, c.open_live.new.held.ok.0)) (ap (map number_of) c.as_slice-2.ensures.value ∙ c.in-Ok.ensures.numbers) c.keep_live-2.ensures.kept c.keep_live-2.ensures.others
          (ap ports c.conclude.ensures.rest ∙ ap ports c.keep_output.ensures.rest ∙ ap ports c.keep_ticker.ensures.rest ∙ ap ports c.keep_live_control-2.ensures.rest);
      others = live_others (numbers_of c.args.plan.ports) _ held c.serve-ready.result.ready.ports.items old mid (ports (g.W.World.book c.ticker.new.self)) (ports (g.W.World.book c.keep_live-2.new.world)) _
          (subst (λ (l : List PortPlan). OthersSame {X = Ends S K C} (numbers_of l) (length held) old mid) c.as_slice.ensures c.open_live.ensures.others)
          (ap ports c.ticker.ensures.rest ∙ ap ports c.output.ensures.rest ∙ ap ports c.open_live_control.ensures.rest)
          (omega (arith, c.serve-ready.ensures.ports, c.serve-ready.result.ready.ports.ok.0, c.open_live.new.held.ok.0)) (ap (map number_of) c.as_slice-2.ensures.value ∙ c.in-Ok.ensures.numbers) c.keep_live-2.ensures.others
          (ap ports c.conclude.ensures.rest ∙ ap ports c.keep_output.ensures.rest ∙ ap ports c.keep_ticker.ensures.rest ∙ ap ports c.keep_live_control-2.ensures.rest);
      control = live_control (BothFresh g.W.S.Source.faults g.W.K.Sink.faults) c.args.plan.control c.in-Ok-open_live_control.control c.serve-ready.result.ready.control _ (control (g.W.World.book c.open_live.new.world)) (control (g.W.World.book c.open_live_control.new.world)) (control (g.W.World.book c.keep_live-2.new.world)) (control (g.W.World.book c.keep_live_control-2.new.world)) _
          (ap control c.open_live.ensures.rest) c.in-Ok-open_live_control.ensures.opened c.serve-ready.ensures.control (ap control c.keep_live-2.ensures.rest ∙ ap control c.ticker.ensures.rest ∙ ap control c.output.ensures.rest)
          c.keep_live_control-2.ensures.kept c.keep_live_control-2.ensures.none (ap control c.conclude.ensures.rest ∙ ap control c.keep_output.ensures.rest ∙ ap control c.keep_ticker.ensures.rest);
      ticker = clock_by _ _ _ (ticker (g.W.World.book c.output.new.self)) (ticker (g.W.World.book c.keep_ticker.new.self)) _
          (ap ticker c.output.ensures.rest ∙ ap ticker c.open_live_control.ensures.rest ∙ ap ticker c.open_live.ensures.rest) c.ticker.ensures.hands.told c.keep_ticker.ensures.kept
          (ap ticker c.conclude.ensures.rest ∙ ap ticker c.keep_output.ensures.rest);
      journal = handled_one c.as_str-2.result.now c.as_str-3.result.now c.args.plan.journal c.in-Ok-output.sink c.serve-ready.result.ready.journal _ (outputs (g.W.World.book c.open_live_control.new.world)) (outputs (g.W.World.book c.output.new.self)) (outputs (g.W.World.book c.keep_ticker.new.self)) (outputs (g.W.World.book c.keep_output.new.self)) _
          (c.as_str-2.ensures ∙ c.in-Ok.ensures.journal) (c.as_str-3.ensures ∙ c.in-Ok.ensures.journal)
          (ap outputs c.open_live_control.ensures.rest ∙ ap outputs c.open_live.ensures.rest) c.in-Ok-output.ensures.opens.told c.in-Ok-output.ensures.others
          (ap outputs c.keep_ticker.ensures.rest ∙ ap outputs c.keep_live_control-2.ensures.rest ∙ ap outputs c.keep_live-2.ensures.rest ∙ ap outputs c.ticker.ensures.rest) c.keep_output.ensures.kept c.keep_output.ensures.others (ap outputs c.conclude.ensures.rest);
    }

laws : (g : given.Over) (c : goal.After-drop-numbers-2 g) → Laws
laws g c = record { alone = c.know_sessions.ensures.alone; access = c.know_sessions.ensures.access; first_come = c.know_sessions.ensures.first_come }

final : (g : given.Over) (c : goal.After-drop-numbers-2 g) → Closes true g.W.S.Source.left g.W.K.Sink.written c.args.plan (ToldBy g.W.K.Sink.faults g.W.K.Sink.written c.args.errors.now c.conclude.new.errors)
    (IsServeOf g.W.S.Source.left g.W.K.Sink.written g.W.S.Source.faults g.W.K.Sink.faults g.W.C.Clock.readings c.args.plan (ToldBy g.W.K.Sink.faults g.W.K.Sink.written c.args.errors.now c.conclude.new.errors) (g.W.World.book c.args.world.now) (g.W.World.book c.conclude.new.world) c.conclude.result)
    (g.W.World.book c.args.world.now) (g.W.World.book c.conclude.new.world) c.conclude.result
final g c =
    live_closes g.W.S.Source.left g.W.K.Sink.written g.W.S.Source.faults g.W.K.Sink.faults g.W.C.Clock.readings c.args.plan _ _ c.serve-ready.result.ready c.serve-ready.result.outcome _ (g.W.World.book c.keep_output.new.self) _ c.conclude.result
    (laws g c) (handled_plan g c) (std_before g c)
    c.serve-ready.ensures.none c.serve-ready.ensures.served c.conclude.ensures.none c.conclude.ensures.some

pub returns-clause-status : goal.returns-clause-status
returns-clause-status g c = (final g c).one_of

pub returns-clause-usage : goal.returns-clause-usage
returns-clause-usage g c = (final g c).usage

pub returns-clause-config : goal.returns-clause-config
returns-clause-config g c = (final g c).config

pub returns-clause-open : goal.returns-clause-open
returns-clause-open g c = λ seven. absurd ((final g c).opening seven)

pub returns-clause-still : goal.returns-clause-still
returns-clause-still g c = λ other.
    let S = g.row.W-S.Denot in
    let K = g.row.W-K.Denot in
    let C = g.row.W-C.Denot in
    let faults : Book S K C → ℕ = λ b. b.faults in
    ap faults c.conclude.ensures.rest ∙ ap faults c.keep_output.ensures.rest ∙ ap faults c.keep_ticker.ensures.rest ∙ ap faults c.keep_live_control-2.ensures.rest ∙ ap faults c.keep_live-2.ensures.rest ∙ ap faults c.ticker.ensures.rest
    ∙ c.in-Ok-output.ensures.opens.still ∙ c.in-Ok-open_live_control.ensures.still ∙ c.in_default-open_live.ensures.still

pub returns-clause-unopened : goal.returns-clause-unopened
returns-clause-unopened g c = λ seven. absurd ((final g c).opening seven)

pub returns-clause-unticked : goal.returns-clause-unticked
returns-clause-unticked g c = λ seven. absurd ((final g c).opening seven)

pub returns-clause-memory : goal.returns-clause-memory
returns-clause-memory g c = (final g c).memory

pub returns-clause-unplayed : goal.returns-clause-unplayed
returns-clause-unplayed g c = λ one. inr ((final g c).unplayed one)

pub returns-clause-session : goal.returns-clause-session
returns-clause-session g c = (final g c).session

pub returns-clause-quiet : goal.returns-clause-quiet
returns-clause-quiet g c = (final g c).quiet

pub returns-clause-unused : goal.returns-clause-unused
returns-clause-unused g c = (final g c).unused

pub returns-clause-others : goal.returns-clause-others
returns-clause-others g c =
    let K = g.row.W-K.Denot in
    λ other apart. c.conclude.ensures.others other apart ∙ ap (λ (p : Std → Place K). p other) (std_before g c)
