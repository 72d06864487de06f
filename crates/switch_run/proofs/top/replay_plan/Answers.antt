use Rattle.std.proofs.Common.{◌≡◌, ℕ, false, List, Option, Some, None, IfNone, Vec, Global, ap, ◌∙◌, inl, inr, refl, subst}
use Rattle.savi_kinds.specs.declared.plan.PortPlan.{PortPlan}
use Rattle.savi_ends.specs.declared.world.Std.{Std}
use Rattle.savi_ends.specs.declared.world.Ends.{Ends}
use Rattle.savi_ends.specs.Faults.{Rose}
use Rattle.savi_ends.specs.Places.{Book, Place, PortKey, ControlKey, BothFresh}
use Rattle.switch_ports.specs.Openings.{IsOff}
use Rattle.port_worker.specs.declared.port_ends.PortEnds.{PortEnds}
use Rattle.port_worker.specs.Replays.{ports_held}
use Rattle.switch_ports.specs.Openings.{ports_of, IsNextBehind}
use Rattle.switch_report.specs.RunLines.{cannot_open_line, control_word, journal_word}
use Rattle.switch_run.specs.declared.outcome.Outcome.{Outcome}
use Rattle.switch_run.specs.Causes.{ports_in}
use Rattle.switch_run.specs.Session.{IsSessionOf, ToldBy}
use Rattle.switch_run.proofs.Ending.{Closes, closes, control_same, stays_all, unused_by}
use Rattle.switch_run.proofs.Through.{Handled, HandledAll, HandledControl, Laws, control_back, control_unopened, journal_unopened, port_unopened, ports_off, ports_off_next}
use Rattle.switch_run.proofs.Handling.{apart_all, apart_back, apart_first, control_by, control_out, handled_by, handled_one, opened_as, others_by, out_back, same_ports}
use Rattle.switch_run.proofs.Recast.{told_by}
use Rattle.switch_run.proofs.top.replay_plan.Given as given
use Rattle.switch_run.proofs.top.replay_plan.Goals as goal

-- a port could not be opened

pub keep_all-requires-clause-apart : goal.keep_all-requires-clause-apart
keep_all-requires-clause-apart g c κs within =
    apart_first c.open_all.new.held.items c.args.plan.ports c.in-Some-open_all.port c.requires.built.valid.ports
    (subst (λ (l : List PortPlan). IsNextBehind c.in-Some-open_all.port (ports_held c.open_all.new.held.items) (ports_of l)) c.as_slice.ensures c.in-Some-open_all.ensures.failed)

pub keep_all-requires-clause-out : goal.keep_all-requires-clause-out
keep_all-requires-clause-out g c κs within =
    out_back (BothFresh g.W.S.Source.faults g.W.K.Sink.faults) _ c.open_all.new.held.items c.open_all.new.held.items (g.W.World.book c.args.world.now).ports (g.W.World.book c.open_all.new.world).ports _ c.open_all.ensures.opened (same_ports _) refl

pub returns-in-Some-open_all-clause-open : goal.returns-in-Some-open_all-clause-open
returns-in-Some-open_all-clause-open g c = λ seven.
    let S = g.row.W-S.Denot in
    let K = g.row.W-K.Denot in
    let C = g.row.W-C.Denot in
    let faults : Book S K C → ℕ = λ b. b.faults in
    ap faults c.keep_all.ensures.rest ∙ c.in-Some-open_all.ensures.once

pub returns-in-Some-open_all-clause-unopened : goal.returns-in-Some-open_all-clause-unopened
returns-in-Some-open_all-clause-unopened g c = λ seven.
    let S = g.row.W-S.Denot in
    let K = g.row.W-K.Denot in
    let C = g.row.W-C.Denot in
    inl (port_unopened c.args.plan _ c.open_all.new.held.items c.in-Some-open_all.port _ _ c.requires.built.valid.ports
    (subst (λ (l : List PortPlan). IsNextBehind c.in-Some-open_all.port (ports_held c.open_all.new.held.items) (ports_of l)) c.as_slice.ensures c.in-Some-open_all.ensures.failed)
    (handled_by (BothFresh g.W.S.Source.faults g.W.K.Sink.faults) c.args.plan.ports _ _ _ (g.W.World.book c.open_all.new.world).ports _ (g.W.World.book c.keep_all.new.world).ports _ (opened_as (BothFresh g.W.S.Source.faults g.W.K.Sink.faults) _ c.args.plan.ports c.open_all.new.held.items (g.W.World.book c.args.world.now).ports (g.W.World.book c.open_all.new.world).ports c.as_slice.ensures c.open_all.ensures.opened) c.open_all.ensures.others refl (same_ports _) c.keep_all.ensures.kept c.keep_all.ensures.others refl)
    (others_by c.open_all.new.held.items c.open_all.new.held.items _ (g.W.World.book c.open_all.new.world).ports _ (g.W.World.book c.keep_all.new.world).ports _ c.open_all.ensures.others refl (same_ports _) c.keep_all.ensures.others refl)
    (ap (λ (b : Book S K C). b.control) c.keep_all.ensures.rest ∙ ap (λ (b : Book S K C). b.control) c.open_all.ensures.rest)
    (ap (λ (b : Book S K C). b.outputs) c.keep_all.ensures.rest ∙ ap (λ (b : Book S K C). b.outputs) c.open_all.ensures.rest)
    (subst (λ (name : List ℕ). ToldBy g.W.K.Sink.faults g.W.K.Sink.written c.args.errors.now c.tell_unopened-put.new.sink (cannot_open_line name)) (c.as_str.ensures.value ∙ c.port_name.ensures)
    (told_by g.W.K.Sink.faults g.W.K.Sink.written c.tell_unopened-put.result _ _ _ c.tell_unopened-put.ensures.extends c.tell_unopened-put.ensures.cause)))

pub returns-in-Some-open_all-clause-unused : goal.returns-in-Some-open_all-clause-unused
returns-in-Some-open_all-clause-unused g c = λ one_of.
    let S = g.row.W-S.Denot in
    let K = g.row.W-K.Denot in
    let C = g.row.W-C.Denot in
    unused_by c.args.plan c.open_all.new.held.items _ _
    (handled_by (BothFresh g.W.S.Source.faults g.W.K.Sink.faults) c.args.plan.ports _ _ _ (g.W.World.book c.open_all.new.world).ports _ (g.W.World.book c.keep_all.new.world).ports _ (opened_as (BothFresh g.W.S.Source.faults g.W.K.Sink.faults) _ c.args.plan.ports c.open_all.new.held.items (g.W.World.book c.args.world.now).ports (g.W.World.book c.open_all.new.world).ports c.as_slice.ensures c.open_all.ensures.opened) c.open_all.ensures.others refl (same_ports _) c.keep_all.ensures.kept c.keep_all.ensures.others refl)
    (ports_off_next c.args.plan c.open_all.new.held.items c.in-Some-open_all.port _ _ (subst (λ (l : List PortPlan). IsNextBehind c.in-Some-open_all.port (ports_held c.open_all.new.held.items) (ports_of l)) c.as_slice.ensures c.in-Some-open_all.ensures.failed) (others_by c.open_all.new.held.items c.open_all.new.held.items _ (g.W.World.book c.open_all.new.world).ports _ (g.W.World.book c.keep_all.new.world).ports _ c.open_all.ensures.others refl (same_ports _) c.keep_all.ensures.others refl))
    (control_same false c.args.plan.control _ _ (ap (λ (b : Book S K C). b.control) c.keep_all.ensures.rest ∙ ap (λ (b : Book S K C). b.control) c.open_all.ensures.rest))
    (ap (λ (b : Book S K C). b.ticker) c.keep_all.ensures.rest ∙ ap (λ (b : Book S K C). b.ticker) c.open_all.ensures.rest)
    (λ name. ap (λ (b : Book S K C). b.outputs name) c.keep_all.ensures.rest ∙ ap (λ (b : Book S K C). b.outputs name) c.open_all.ensures.rest)

-- control could not be opened

pub keep_all-requires-in-Err-clause-apart : goal.keep_all-requires-in-Err-clause-apart
keep_all-requires-in-Err-clause-apart g c κs within =
    apart_all c.open_all.new.held.items c.args.plan.ports c.requires.built.valid.ports (c.open_all.ensures.all c.in_default-open_all.is ∙ ap ports_of c.as_slice.ensures)

pub keep_all-requires-in-Err-clause-out : goal.keep_all-requires-in-Err-clause-out
keep_all-requires-in-Err-clause-out g c κs within =
    let S = g.row.W-S.Denot in
    let K = g.row.W-K.Denot in
    let C = g.row.W-C.Denot in
    out_back (BothFresh g.W.S.Source.faults g.W.K.Sink.faults) _ c.open_all.new.held.items c.open_all.new.held.items (g.W.World.book c.args.world.now).ports (g.W.World.book c.open_all.new.world).ports _ c.open_all.ensures.opened (same_ports _) (ap (λ (b : Book S K C). b.ports) c.open_control.ensures.rest)

pub returns-in-Err-clause-open : goal.returns-in-Err-clause-open
returns-in-Err-clause-open g c = λ seven.
    let S = g.row.W-S.Denot in
    let K = g.row.W-K.Denot in
    let C = g.row.W-C.Denot in
    let faults : Book S K C → ℕ = λ b. b.faults in
    subst (λ (n : ℕ). Rose n (g.W.World.book c.keep_all-in-Err.new.world).faults) c.in_default-open_all.ensures.still (ap faults c.keep_all-in-Err.ensures.rest ∙ c.in-Err.ensures.once)

pub returns-in-Err-clause-unopened : goal.returns-in-Err-clause-unopened
returns-in-Err-clause-unopened g c = λ seven.
    let S = g.row.W-S.Denot in
    let K = g.row.W-K.Denot in
    let C = g.row.W-C.Denot in
    inr (inl (control_unopened c.args.plan _ c.open_all.new.held.items _ _ c.in-Err.ensures.named (c.open_all.ensures.all c.in_default-open_all.is ∙ ap ports_of c.as_slice.ensures)
    (handled_by (BothFresh g.W.S.Source.faults g.W.K.Sink.faults) c.args.plan.ports _ _ _ (g.W.World.book c.open_all.new.world).ports (g.W.World.book c.open_control.new.world).ports (g.W.World.book c.keep_all-in-Err.new.world).ports _ (opened_as (BothFresh g.W.S.Source.faults g.W.K.Sink.faults) _ c.args.plan.ports c.open_all.new.held.items (g.W.World.book c.args.world.now).ports (g.W.World.book c.open_all.new.world).ports c.as_slice.ensures c.open_all.ensures.opened) c.open_all.ensures.others (ap (λ (b : Book S K C). b.ports) c.open_control.ensures.rest) (same_ports _) c.keep_all-in-Err.ensures.kept c.keep_all-in-Err.ensures.others refl)
    (others_by c.open_all.new.held.items c.open_all.new.held.items _ (g.W.World.book c.open_all.new.world).ports (g.W.World.book c.open_control.new.world).ports (g.W.World.book c.keep_all-in-Err.new.world).ports _ c.open_all.ensures.others (ap (λ (b : Book S K C). b.ports) c.open_control.ensures.rest) (same_ports _) c.keep_all-in-Err.ensures.others refl)
    (ap (λ (b : Book S K C). b.control) c.keep_all-in-Err.ensures.rest ∙ c.in-Err.ensures.as_it_was ∙ ap (λ (b : Book S K C). b.control) c.open_all.ensures.rest)
    (ap (λ (b : Book S K C). b.outputs) c.keep_all-in-Err.ensures.rest ∙ ap (λ (b : Book S K C). b.outputs) c.open_control.ensures.rest ∙ ap (λ (b : Book S K C). b.outputs) c.open_all.ensures.rest)
    (told_by g.W.K.Sink.faults g.W.K.Sink.written c.tell_unopened-put-in-Err.result _ _ (cannot_open_line control_word) c.tell_unopened-put-in-Err.ensures.extends c.tell_unopened-put-in-Err.ensures.cause)))

pub returns-in-Err-clause-unused : goal.returns-in-Err-clause-unused
returns-in-Err-clause-unused g c = λ one_of.
    let S = g.row.W-S.Denot in
    let K = g.row.W-K.Denot in
    let C = g.row.W-C.Denot in
    unused_by c.args.plan c.open_all.new.held.items _ _
    (handled_by (BothFresh g.W.S.Source.faults g.W.K.Sink.faults) c.args.plan.ports _ _ _ (g.W.World.book c.open_all.new.world).ports (g.W.World.book c.open_control.new.world).ports (g.W.World.book c.keep_all-in-Err.new.world).ports _ (opened_as (BothFresh g.W.S.Source.faults g.W.K.Sink.faults) _ c.args.plan.ports c.open_all.new.held.items (g.W.World.book c.args.world.now).ports (g.W.World.book c.open_all.new.world).ports c.as_slice.ensures c.open_all.ensures.opened) c.open_all.ensures.others (ap (λ (b : Book S K C). b.ports) c.open_control.ensures.rest) (same_ports _) c.keep_all-in-Err.ensures.kept c.keep_all-in-Err.ensures.others refl)
    (ports_off c.args.plan c.open_all.new.held.items _ _ (c.open_all.ensures.all c.in_default-open_all.is ∙ ap ports_of c.as_slice.ensures) (others_by c.open_all.new.held.items c.open_all.new.held.items _ (g.W.World.book c.open_all.new.world).ports (g.W.World.book c.open_control.new.world).ports (g.W.World.book c.keep_all-in-Err.new.world).ports _ c.open_all.ensures.others (ap (λ (b : Book S K C). b.ports) c.open_control.ensures.rest) (same_ports _) c.keep_all-in-Err.ensures.others refl))
    (control_same false c.args.plan.control _ _ (ap (λ (b : Book S K C). b.control) c.keep_all-in-Err.ensures.rest ∙ c.in-Err.ensures.as_it_was ∙ ap (λ (b : Book S K C). b.control) c.open_all.ensures.rest))
    (ap (λ (b : Book S K C). b.ticker) c.keep_all-in-Err.ensures.rest ∙ ap (λ (b : Book S K C). b.ticker) c.open_control.ensures.rest ∙ ap (λ (b : Book S K C). b.ticker) c.open_all.ensures.rest)
    (λ name. ap (λ (b : Book S K C). b.outputs name) c.keep_all-in-Err.ensures.rest ∙ ap (λ (b : Book S K C). b.outputs name) c.open_control.ensures.rest ∙ ap (λ (b : Book S K C). b.outputs name) c.open_all.ensures.rest)

-- the journal could not be opened

pub keep_all-requires-in-Err-output-clause-apart : goal.keep_all-requires-in-Err-output-clause-apart
keep_all-requires-in-Err-output-clause-apart g c κs within =
    apart_all c.open_all.new.held.items c.args.plan.ports c.requires.built.valid.ports (c.open_all.ensures.all c.in_default-open_all.is ∙ ap ports_of c.as_slice.ensures)

pub keep_all-requires-in-Err-output-clause-out : goal.keep_all-requires-in-Err-output-clause-out
keep_all-requires-in-Err-output-clause-out g c κs within =
    let S = g.row.W-S.Denot in
    let K = g.row.W-K.Denot in
    let C = g.row.W-C.Denot in
    out_back (BothFresh g.W.S.Source.faults g.W.K.Sink.faults) _ c.open_all.new.held.items c.open_all.new.held.items (g.W.World.book c.args.world.now).ports (g.W.World.book c.open_all.new.world).ports _ c.open_all.ensures.opened (same_ports _)
    (ap (λ (b : Book S K C). b.ports) c.output.ensures.rest ∙ ap (λ (b : Book S K C). b.ports) c.open_control.ensures.rest)

pub keep_control-requires-clause-out : goal.keep_control-requires-clause-out
keep_control-requires-clause-out g c κs within =
    let S = g.row.W-S.Denot in
    let K = g.row.W-K.Denot in
    let C = g.row.W-C.Denot in
    control_out (BothFresh g.W.S.Source.faults g.W.K.Sink.faults) c.args.plan.control c.in-Ok.control c.in-Ok.control _ (g.W.World.book c.open_control.new.world).control _ c.in-Ok.ensures.opened refl
    (ap (λ (b : Book S K C). b.control) c.keep_all-in-Err-output.ensures.rest ∙ ap (λ (b : Book S K C). b.control) c.output.ensures.rest)

unopened_ports : (g : given.Over) (c : goal.After-drop-plan-in-Err-output-5 g) → Handled c.open_all.new.held.items c.open_all.new.held.items (ports_in c.args.plan (g.W.World.book c.args.world.now)) (ports_in c.args.plan (g.W.World.book c.keep_control.new.world))
unopened_ports g c =
    let S = g.row.W-S.Denot in
    let K = g.row.W-K.Denot in
    let C = g.row.W-C.Denot in
    let ports : Book S K C → PortKey → Place (Ends S K C) = λ b. b.ports in
    handled_by (BothFresh g.W.S.Source.faults g.W.K.Sink.faults) c.args.plan.ports _ _ _ (ports (g.W.World.book c.open_all.new.world)) (ports (g.W.World.book c.output.new.self)) (ports (g.W.World.book c.keep_all-in-Err-output.new.world)) _ (opened_as (BothFresh g.W.S.Source.faults g.W.K.Sink.faults) _ c.args.plan.ports c.open_all.new.held.items (g.W.World.book c.args.world.now).ports (g.W.World.book c.open_all.new.world).ports c.as_slice.ensures c.open_all.ensures.opened) c.open_all.ensures.others
    (ap ports c.output.ensures.rest ∙ ap ports c.open_control.ensures.rest) (same_ports _) c.keep_all-in-Err-output.ensures.kept c.keep_all-in-Err-output.ensures.others (ap ports c.keep_control.ensures.rest)

unopened_others : (g : given.Over) (c : goal.After-drop-plan-in-Err-output-5 g) → (key : PortKey) → IsOff c.open_all.new.held.items key.number → (g.W.World.book c.keep_control.new.world).ports key ≡ (g.W.World.book c.args.world.now).ports key
unopened_others g c =
    let S = g.row.W-S.Denot in
    let K = g.row.W-K.Denot in
    let C = g.row.W-C.Denot in
    let ports : Book S K C → PortKey → Place (Ends S K C) = λ b. b.ports in
    others_by c.open_all.new.held.items c.open_all.new.held.items _ (ports (g.W.World.book c.open_all.new.world)) (ports (g.W.World.book c.output.new.self)) (ports (g.W.World.book c.keep_all-in-Err-output.new.world)) _ c.open_all.ensures.others
    (ap ports c.output.ensures.rest ∙ ap ports c.open_control.ensures.rest) (same_ports _) c.keep_all-in-Err-output.ensures.others (ap ports c.keep_control.ensures.rest)

unopened_control : (g : given.Over) (c : goal.After-drop-plan-in-Err-output-5 g) → HandledControl c.args.plan.control c.in-Ok.control c.in-Ok.control (g.W.World.book c.args.world.now).control (g.W.World.book c.keep_control.new.world).control
unopened_control g c =
    let S = g.row.W-S.Denot in
    let K = g.row.W-K.Denot in
    let C = g.row.W-C.Denot in
    let control : Book S K C → ControlKey → Place (Ends S K C) = λ b. b.control in
    control_by (BothFresh g.W.S.Source.faults g.W.K.Sink.faults) c.args.plan.control c.in-Ok.control c.in-Ok.control _ (control (g.W.World.book c.open_all.new.world)) (control (g.W.World.book c.open_control.new.world)) (control (g.W.World.book c.keep_all-in-Err-output.new.world)) _ _
    (ap control c.open_all.ensures.rest) c.in-Ok.ensures.opened refl (ap control c.keep_all-in-Err-output.ensures.rest ∙ ap control c.output.ensures.rest)
    c.keep_control.ensures.kept c.keep_control.ensures.none refl

unopened_outputs : (g : given.Over) (c : goal.After-drop-plan-in-Err-output-5 g) → (name : List ℕ) → (g.W.World.book c.keep_control.new.world).outputs name ≡ (g.W.World.book c.args.world.now).outputs name
unopened_outputs g c name =
    let S = g.row.W-S.Denot in
    let K = g.row.W-K.Denot in
    let C = g.row.W-C.Denot in
    let output : Book S K C → Place K = λ b. b.outputs name in
    ap output c.keep_control.ensures.rest ∙ ap output c.keep_all-in-Err-output.ensures.rest
    ∙ stays_all (g.W.World.book c.open_control.new.world).outputs (g.W.World.book c.output.new.self).outputs c.as_str-2.result.now c.in-Err-output.ensures.opens.err c.in-Err-output.ensures.others name
    ∙ ap output c.open_control.ensures.rest ∙ ap output c.open_all.ensures.rest

pub returns-in-Err-output-clause-open : goal.returns-in-Err-output-clause-open
returns-in-Err-output-clause-open g c = λ seven.
    let S = g.row.W-S.Denot in
    let K = g.row.W-K.Denot in
    let C = g.row.W-C.Denot in
    let faults : Book S K C → ℕ = λ b. b.faults in
    subst (λ (n : ℕ). Rose n (g.W.World.book c.keep_control.new.world).faults) (c.in-Ok.ensures.still ∙ c.in_default-open_all.ensures.still)
    (ap faults c.keep_control.ensures.rest ∙ ap faults c.keep_all-in-Err-output.ensures.rest ∙ c.in-Err-output.ensures.opens.once)

pub returns-in-Err-output-clause-unopened : goal.returns-in-Err-output-clause-unopened
returns-in-Err-output-clause-unopened g c = λ seven.
    inr (inr (journal_unopened c.args.plan _ c.open_all.new.held.items c.in-Ok.control _ _ (c.open_all.ensures.all c.in_default-open_all.is ∙ ap ports_of c.as_slice.ensures)
    (unopened_ports g c) (unopened_others g c) (unopened_control g c) (unopened_outputs g c)
    (told_by g.W.K.Sink.faults g.W.K.Sink.written c.tell_unopened-put-in-Err-output.result _ _ (cannot_open_line journal_word) c.tell_unopened-put-in-Err-output.ensures.extends c.tell_unopened-put-in-Err-output.ensures.cause)))

pub returns-in-Err-output-clause-unused : goal.returns-in-Err-output-clause-unused
returns-in-Err-output-clause-unused g c = λ one_of.
    let S = g.row.W-S.Denot in
    let K = g.row.W-K.Denot in
    let C = g.row.W-C.Denot in
    let ticker : Book S K C → Place C = λ b. b.ticker in
    unused_by c.args.plan c.open_all.new.held.items _ _ (unopened_ports g c) (ports_off c.args.plan c.open_all.new.held.items _ _ (c.open_all.ensures.all c.in_default-open_all.is ∙ ap ports_of c.as_slice.ensures) (unopened_others g c)) (control_back c.args.plan.control c.in-Ok.control _ _ (unopened_control g c))
    (ap ticker c.keep_control.ensures.rest ∙ ap ticker c.keep_all-in-Err-output.ensures.rest ∙ ap ticker c.output.ensures.rest ∙ ap ticker c.open_control.ensures.rest ∙ ap ticker c.open_all.ensures.rest)
    (unopened_outputs g c)

-- all was opened

pub keep_all-requires-2-clause-apart : goal.keep_all-requires-2-clause-apart
keep_all-requires-2-clause-apart g c κs within =
    apart_back c.open_all.new.held.items c.play-control.result.ports.items c.play-control.ensures.ports
    (apart_all c.open_all.new.held.items c.args.plan.ports c.requires.built.valid.ports (c.open_all.ensures.all c.in_default-open_all.is ∙ ap ports_of c.as_slice.ensures))

pub keep_all-requires-2-clause-out : goal.keep_all-requires-2-clause-out
keep_all-requires-2-clause-out g c κs within =
    let S = g.row.W-S.Denot in
    let K = g.row.W-K.Denot in
    let C = g.row.W-C.Denot in
    out_back (BothFresh g.W.S.Source.faults g.W.K.Sink.faults) _ c.open_all.new.held.items c.play-control.result.ports.items (g.W.World.book c.args.world.now).ports (g.W.World.book c.open_all.new.world).ports _ c.open_all.ensures.opened c.play-control.ensures.ports
    (ap (λ (b : Book S K C). b.ports) c.output.ensures.rest ∙ ap (λ (b : Book S K C). b.ports) c.open_control.ensures.rest)

pub keep_control-requires-2-clause-out : goal.keep_control-requires-2-clause-out
keep_control-requires-2-clause-out g c κs within =
    let S = g.row.W-S.Denot in
    let K = g.row.W-K.Denot in
    let C = g.row.W-C.Denot in
    control_out (BothFresh g.W.S.Source.faults g.W.K.Sink.faults) c.args.plan.control c.in-Ok.control c.play-control.result.control _ (g.W.World.book c.open_control.new.world).control _ c.in-Ok.ensures.opened c.play-control.ensures.control
    (ap (λ (b : Book S K C). b.control) c.keep_all-2.ensures.rest ∙ ap (λ (b : Book S K C). b.control) c.output.ensures.rest)

std_before : (g : given.Over) (c : goal.After-drop-journal-inside-2 g) → (g.W.World.book c.keep_output.new.self).std ≡ (g.W.World.book c.args.world.now).std
std_before g c =
    let S = g.row.W-S.Denot in
    let K = g.row.W-K.Denot in
    let C = g.row.W-C.Denot in
    let std : Book S K C → Std → Place K = λ b. b.std in
    ap std c.keep_output.ensures.rest ∙ ap std c.keep_control-2.ensures.rest ∙ ap std c.keep_all-2.ensures.rest ∙ ap std c.output.ensures.rest ∙ ap std c.open_control.ensures.rest ∙ ap std c.open_all.ensures.rest

ticker_same : (g : given.Over) (c : goal.After-drop-journal-inside-2 g) → (g.W.World.book c.conclude.new.world).ticker ≡ (g.W.World.book c.args.world.now).ticker
ticker_same g c =
    let S = g.row.W-S.Denot in
    let K = g.row.W-K.Denot in
    let C = g.row.W-C.Denot in
    let ticker : Book S K C → Place C = λ b. b.ticker in
    ap ticker c.conclude.ensures.rest ∙ ap ticker c.keep_output.ensures.rest ∙ ap ticker c.keep_control-2.ensures.rest ∙ ap ticker c.keep_all-2.ensures.rest ∙ ap ticker c.output.ensures.rest ∙ ap ticker c.open_control.ensures.rest ∙ ap ticker c.open_all.ensures.rest

handled_all : (g : given.Over) (c : goal.After-drop-journal-inside-2 g) → HandledAll c.args.plan c.in-Ok.control c.play-control.result.control c.open_all.new.held.items c.play-control.result.ports.items c.in-Ok-output.sink c.play-control.result.journal (g.W.World.book c.args.world.now) (g.W.World.book c.conclude.new.world)
handled_all g c =
    let S = g.row.W-S.Denot in
    let K = g.row.W-K.Denot in
    let C = g.row.W-C.Denot in
    let ports : Book S K C → PortKey → Place (Ends S K C) = λ b. b.ports in
    let control : Book S K C → ControlKey → Place (Ends S K C) = λ b. b.control in
    let outputs : Book S K C → List ℕ → Place K = λ b. b.outputs in
    record {
      planned = c.open_all.ensures.all c.in_default-open_all.is ∙ ap ports_of c.as_slice.ensures;
      ports = handled_by (BothFresh g.W.S.Source.faults g.W.K.Sink.faults) c.args.plan.ports _ _ _ (ports (g.W.World.book c.open_all.new.world)) (ports (g.W.World.book c.output.new.self)) (ports (g.W.World.book c.keep_all-2.new.world)) _ (opened_as (BothFresh g.W.S.Source.faults g.W.K.Sink.faults) _ c.args.plan.ports c.open_all.new.held.items (g.W.World.book c.args.world.now).ports (g.W.World.book c.open_all.new.world).ports c.as_slice.ensures c.open_all.ensures.opened) c.open_all.ensures.others
          (ap ports c.output.ensures.rest ∙ ap ports c.open_control.ensures.rest) c.play-control.ensures.ports c.keep_all-2.ensures.kept c.keep_all-2.ensures.others
          (ap ports c.conclude.ensures.rest ∙ ap ports c.keep_output.ensures.rest ∙ ap ports c.keep_control-2.ensures.rest);
      others = others_by c.open_all.new.held.items _ _ (ports (g.W.World.book c.open_all.new.world)) (ports (g.W.World.book c.output.new.self)) (ports (g.W.World.book c.keep_all-2.new.world)) _ c.open_all.ensures.others
          (ap ports c.output.ensures.rest ∙ ap ports c.open_control.ensures.rest) c.play-control.ensures.ports c.keep_all-2.ensures.others
          (ap ports c.conclude.ensures.rest ∙ ap ports c.keep_output.ensures.rest ∙ ap ports c.keep_control-2.ensures.rest);
      ends = control_by (BothFresh g.W.S.Source.faults g.W.K.Sink.faults) c.args.plan.control c.in-Ok.control c.play-control.result.control _ (control (g.W.World.book c.open_all.new.world)) (control (g.W.World.book c.open_control.new.world)) (control (g.W.World.book c.keep_all-2.new.world)) (control (g.W.World.book c.keep_control-2.new.world)) _
          (ap control c.open_all.ensures.rest) c.in-Ok.ensures.opened c.play-control.ensures.control (ap control c.keep_all-2.ensures.rest ∙ ap control c.output.ensures.rest)
          c.keep_control-2.ensures.kept c.keep_control-2.ensures.none (ap control c.conclude.ensures.rest ∙ ap control c.keep_output.ensures.rest);
      journal = handled_one c.as_str-2.result.now c.as_str-3.result.now c.args.plan.journal c.in-Ok-output.sink c.play-control.result.journal _ (outputs (g.W.World.book c.open_control.new.world)) (outputs (g.W.World.book c.output.new.self)) (outputs (g.W.World.book c.keep_control-2.new.world)) (outputs (g.W.World.book c.keep_output.new.self)) _
          (c.as_str-2.ensures ∙ c.in-Some.ensures.journal) (c.as_str-3.ensures ∙ c.in-Some.ensures.journal)
          (ap outputs c.open_control.ensures.rest ∙ ap outputs c.open_all.ensures.rest) c.in-Ok-output.ensures.opens.told c.in-Ok-output.ensures.others
          (ap outputs c.keep_control-2.ensures.rest ∙ ap outputs c.keep_all-2.ensures.rest) c.keep_output.ensures.kept c.keep_output.ensures.others (ap outputs c.conclude.ensures.rest);
    }

laws : (g : given.Over) (c : goal.After-drop-journal-inside-2 g) → Laws
laws g c = record { alone = c.know_sessions.ensures.alone; access = c.know_sessions.ensures.access; first_come = c.know_sessions.ensures.first_come }

-- without memory the ports came back as they were
none_of : {S K C : Type 0} (A B : Type 0) (outcome : Option Outcome) (held back : Vec (PortEnds S K C) Global) → IfNone outcome (A × (back ≡ held) × B) → IfNone outcome (A × (back.items ≡ held.items) × B)
none_of A B None held back same = (same.0, ap (λ v. v.items) same.1, same.2)
none_of A B (Some o) held back same = tt

final : (g : given.Over) (c : goal.After-drop-journal-inside-2 g) → Closes false g.W.S.Source.left g.W.K.Sink.written c.args.plan (ToldBy g.W.K.Sink.faults g.W.K.Sink.written c.args.errors.now c.conclude.new.errors)
    (IsSessionOf g.W.S.Source.left g.W.K.Sink.written g.W.S.Source.faults g.W.K.Sink.faults c.args.plan (ToldBy g.W.K.Sink.faults g.W.K.Sink.written c.args.errors.now c.conclude.new.errors) (g.W.World.book c.args.world.now) (g.W.World.book c.conclude.new.world) c.conclude.result)
    (g.W.World.book c.args.world.now) (g.W.World.book c.conclude.new.world) c.conclude.result
final g c =
    closes g.W.S.Source.left g.W.K.Sink.written g.W.S.Source.faults g.W.K.Sink.faults c.args.plan _ c.in-Ok.control c.play-control.result.control c.open_all.new.held.items c.play-control.result.ports.items c.in-Ok-output.sink c.play-control.result.journal _ _ c.conclude.result
    c.play-control.result.outcome (g.W.World.book c.keep_output.new.self) (laws g c) (handled_all g c) (ticker_same g c) (std_before g c) c.open_all.ensures.readers
    (none_of _ _ c.play-control.result.outcome c.open_all.new.held c.play-control.result.ports c.play-control.ensures.none) c.play-control.ensures.played c.conclude.ensures.none c.conclude.ensures.some

pub returns-clause-status : goal.returns-clause-status
returns-clause-status g c = (final g c).one_of

pub returns-clause-usage : goal.returns-clause-usage
returns-clause-usage g c = (final g c).usage

pub returns-clause-config : goal.returns-clause-config
returns-clause-config g c = (final g c).config

pub returns-clause-open : goal.returns-clause-open
returns-clause-open g c = λ seven. absurd ((final g c).opening seven)

pub returns-clause-still : goal.returns-clause-still
returns-clause-still g c = λ other.
    let S = g.row.W-S.Denot in
    let K = g.row.W-K.Denot in
    let C = g.row.W-C.Denot in
    let faults : Book S K C → ℕ = λ b. b.faults in
    ap faults c.conclude.ensures.rest ∙ ap faults c.keep_output.ensures.rest ∙ ap faults c.keep_control-2.ensures.rest ∙ ap faults c.keep_all-2.ensures.rest ∙ c.in-Ok-output.ensures.opens.still ∙ c.in-Ok.ensures.still ∙ c.in_default-open_all.ensures.still

pub returns-clause-unopened : goal.returns-clause-unopened
returns-clause-unopened g c = λ seven. absurd ((final g c).opening seven)

pub returns-clause-memory : goal.returns-clause-memory
returns-clause-memory g c = (final g c).memory

pub returns-clause-unplayed : goal.returns-clause-unplayed
returns-clause-unplayed g c = λ one. inr ((final g c).unplayed one)

pub returns-clause-session : goal.returns-clause-session
returns-clause-session g c = (final g c).session

pub returns-clause-quiet : goal.returns-clause-quiet
returns-clause-quiet g c = (final g c).quiet

pub returns-clause-unused : goal.returns-clause-unused
returns-clause-unused g c = (final g c).unused

pub returns-clause-others : goal.returns-clause-others
returns-clause-others g c =
    let K = g.row.W-K.Denot in
    λ other apart. c.conclude.ensures.others other apart ∙ ap (λ (p : Std → Place K). p other) (std_before g c)
