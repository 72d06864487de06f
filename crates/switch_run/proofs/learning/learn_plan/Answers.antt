use Rattle.std.proofs.Common.{◌≡◌, ◌≢◌, ℕ, List, IfSome, false, sym, ap, ◌∙◌, refl, subst}
use Rattle.std.specs.Prelude.{All}
use Rattle.savi_kinds.specs.declared.plan.PortPlan.{PortPlan}
use Rattle.savi_ends.specs.declared.world.Std.TheVariants.{Out}
use Rattle.savi_ends.specs.declared.world.Ends.{Ends}
use Rattle.savi_ends.specs.Places.{Book, Place, PortKey, BothFresh}
use Rattle.port_worker.specs.declared.port_ends.PortEnds.{PortEnds}
use Rattle.port_worker.specs.Pairs.{EachPair}
use Rattle.port_worker.specs.Replays.{IsUnread, ports_held}
use Rattle.port_worker.specs.Served.{IsSamePort}
use Rattle.port_worker.proofs.Closing.{of_vectors}
use Rattle.learn_run.specs.declared.learning.Ending.{Ending}
use Rattle.learn_run.specs.Learning.{LearnsEnds}
use Rattle.switch_ports.specs.Openings.{ports_of, IsNextBehind}
use Rattle.switch_report.specs.RunLines.{cannot_open_line}
use Rattle.switch_run.specs.Causes.{IsOneOf, quiet_statuses, statuses}
use Rattle.switch_run.specs.Learnings.{ending_lines, is_done, learned_status}
use Rattle.switch_run.specs.Session.{ToldBy}
use Rattle.switch_run.proofs.Ending.{control_same, unused_by}
use Rattle.switch_run.proofs.Through.{port_unopened, ports_off_next}
use Rattle.switch_run.proofs.Handling.{apart_all, apart_back, apart_first, handled_by, opened_as, others_by, out_back, same_ports}
use Rattle.switch_run.proofs.LearnThrough.{learned_one_of, learning_of, never_learned}
use Rattle.switch_run.proofs.Recast.{told_by}
use Rattle.switch_run.proofs.learning.learn_plan.Given as given
use Rattle.switch_run.proofs.learning.learn_plan.Goals as goal

-- a port could not be opened

pub keep_all-requires-clause-apart : goal.keep_all-requires-clause-apart
keep_all-requires-clause-apart g c κs within =
    apart_first c.open_all.new.held.items c.args.plan.now.ports c.in-Some-open_all.port c.requires.built.valid.ports
    (subst (λ (l : List PortPlan). IsNextBehind c.in-Some-open_all.port (ports_held c.open_all.new.held.items) (ports_of l)) c.as_slice.ensures c.in-Some-open_all.ensures.failed)

pub keep_all-requires-clause-out : goal.keep_all-requires-clause-out
keep_all-requires-clause-out g c κs within =
    out_back (BothFresh g.W.S.Source.faults g.W.K.Sink.faults) _ c.open_all.new.held.items c.open_all.new.held.items (g.W.World.book c.args.world.now).ports (g.W.World.book c.open_all.new.world).ports _ c.open_all.ensures.opened (same_ports _) refl

pub returns-in-Some-open_all-clause-open : goal.returns-in-Some-open_all-clause-open
returns-in-Some-open_all-clause-open g c = λ seven.
    let S = g.row.W-S.Denot in
    let K = g.row.W-K.Denot in
    let C = g.row.W-C.Denot in
    let faults : Book S K C → ℕ = λ b. b.faults in
    ap faults c.keep_all.ensures.rest ∙ c.in-Some-open_all.ensures.once

pub returns-in-Some-open_all-clause-unopened : goal.returns-in-Some-open_all-clause-unopened
returns-in-Some-open_all-clause-unopened g c = λ seven.
    let S = g.row.W-S.Denot in
    let K = g.row.W-K.Denot in
    let C = g.row.W-C.Denot in
    port_unopened c.args.plan.now _ c.open_all.new.held.items c.in-Some-open_all.port _ _ c.requires.built.valid.ports
    (subst (λ (l : List PortPlan). IsNextBehind c.in-Some-open_all.port (ports_held c.open_all.new.held.items) (ports_of l)) c.as_slice.ensures c.in-Some-open_all.ensures.failed)
    (handled_by (BothFresh g.W.S.Source.faults g.W.K.Sink.faults) c.args.plan.now.ports _ _ _ (g.W.World.book c.open_all.new.world).ports _ (g.W.World.book c.keep_all.new.world).ports _ (opened_as (BothFresh g.W.S.Source.faults g.W.K.Sink.faults) _ c.args.plan.now.ports c.open_all.new.held.items (g.W.World.book c.args.world.now).ports (g.W.World.book c.open_all.new.world).ports c.as_slice.ensures c.open_all.ensures.opened) c.open_all.ensures.others refl (same_ports _) c.keep_all.ensures.kept c.keep_all.ensures.others refl)
    (others_by c.open_all.new.held.items c.open_all.new.held.items _ (g.W.World.book c.open_all.new.world).ports _ (g.W.World.book c.keep_all.new.world).ports _ c.open_all.ensures.others refl (same_ports _) c.keep_all.ensures.others refl)
    (ap (λ (b : Book S K C). b.control) c.keep_all.ensures.rest ∙ ap (λ (b : Book S K C). b.control) c.open_all.ensures.rest)
    (ap (λ (b : Book S K C). b.outputs) c.keep_all.ensures.rest ∙ ap (λ (b : Book S K C). b.outputs) c.open_all.ensures.rest)
    (subst (λ (name : List ℕ). ToldBy g.W.K.Sink.faults g.W.K.Sink.written c.args.errors.now c.tell_unopened-put.new.sink (cannot_open_line name)) (c.as_str.ensures.value ∙ c.port_name.ensures)
    (told_by g.W.K.Sink.faults g.W.K.Sink.written c.tell_unopened-put.result _ _ _ c.tell_unopened-put.ensures.extends c.tell_unopened-put.ensures.cause))

pub returns-in-Some-open_all-clause-unused : goal.returns-in-Some-open_all-clause-unused
returns-in-Some-open_all-clause-unused g c = λ one_of.
    let S = g.row.W-S.Denot in
    let K = g.row.W-K.Denot in
    let C = g.row.W-C.Denot in
    unused_by c.args.plan.now c.open_all.new.held.items _ _
    (handled_by (BothFresh g.W.S.Source.faults g.W.K.Sink.faults) c.args.plan.now.ports _ _ _ (g.W.World.book c.open_all.new.world).ports _ (g.W.World.book c.keep_all.new.world).ports _ (opened_as (BothFresh g.W.S.Source.faults g.W.K.Sink.faults) _ c.args.plan.now.ports c.open_all.new.held.items (g.W.World.book c.args.world.now).ports (g.W.World.book c.open_all.new.world).ports c.as_slice.ensures c.open_all.ensures.opened) c.open_all.ensures.others refl (same_ports _) c.keep_all.ensures.kept c.keep_all.ensures.others refl)
    (ports_off_next c.args.plan.now c.open_all.new.held.items c.in-Some-open_all.port _ _ (subst (λ (l : List PortPlan). IsNextBehind c.in-Some-open_all.port (ports_held c.open_all.new.held.items) (ports_of l)) c.as_slice.ensures c.in-Some-open_all.ensures.failed) (others_by c.open_all.new.held.items c.open_all.new.held.items _ (g.W.World.book c.open_all.new.world).ports _ (g.W.World.book c.keep_all.new.world).ports _ c.open_all.ensures.others refl (same_ports _) c.keep_all.ensures.others refl))
    (control_same false c.args.plan.now.control _ _ (ap (λ (b : Book S K C). b.control) c.keep_all.ensures.rest ∙ ap (λ (b : Book S K C). b.control) c.open_all.ensures.rest))
    (ap (λ (b : Book S K C). b.ticker) c.keep_all.ensures.rest ∙ ap (λ (b : Book S K C). b.ticker) c.open_all.ensures.rest)
    (λ name. ap (λ (b : Book S K C). b.outputs name) c.keep_all.ensures.rest ∙ ap (λ (b : Book S K C). b.outputs name) c.open_all.ensures.rest)

-- all was opened, and the inputs were read

pub learn-put-requires-clause-planned : goal.learn-put-requires-clause-planned
learn-put-requires-clause-planned g c =
    ap ports_held c.deref_mut.ensures.value ∙ c.open_all.ensures.all c.in_default-open_all.is ∙ ap ports_of c.as_slice.ensures

pub learn-put-requires-clause-unread : goal.learn-put-requires-clause-unread
learn-put-requires-clause-unread g c =
    let P = PortEnds g.row.W-S.Denot g.row.W-K.Denot g.row.W-C.Denot in
    subst (λ (l : List P). All IsUnread l) (sym c.deref_mut.ensures.value) c.open_all.ensures.unread

pub learn-put-requires-clause-begun : goal.learn-put-requires-clause-begun
learn-put-requires-clause-begun g c = (c.args.window, c.in-Some.ensures.begun)

pub keep_all-requires-2-clause-apart : goal.keep_all-requires-2-clause-apart
keep_all-requires-2-clause-apart g c κs within =
    apart_back c.open_all.new.held.items _
    (of_vectors (EachPair IsSamePort) c.open_all.new.held.len c.open_all.new.held.items c.deref_mut.result.now c.learn-put.new.ports c.deref_mut.ensures.value (sym c.deref_mut.ensures.len) c.learn-put.ensures.ports.size c.learn-put.ensures.ports)
    (apart_all c.open_all.new.held.items c.args.plan.now.ports c.requires.built.valid.ports (c.open_all.ensures.all c.in_default-open_all.is ∙ ap ports_of c.as_slice.ensures))

pub keep_all-requires-2-clause-out : goal.keep_all-requires-2-clause-out
keep_all-requires-2-clause-out g c κs within =
    let S = g.row.W-S.Denot in
    let K = g.row.W-K.Denot in
    let C = g.row.W-C.Denot in
    out_back (BothFresh g.W.S.Source.faults g.W.K.Sink.faults) _ c.open_all.new.held.items _ (g.W.World.book c.args.world.now).ports (g.W.World.book c.open_all.new.world).ports _ c.open_all.ensures.opened
    (of_vectors (EachPair IsSamePort) c.open_all.new.held.len c.open_all.new.held.items c.deref_mut.result.now c.learn-put.new.ports c.deref_mut.ensures.value (sym c.deref_mut.ensures.len) c.learn-put.ensures.ports.size c.learn-put.ensures.ports)
    (ap (λ (b : Book S K C). b.ports) c.keep_std.ensures.rest ∙ ap (λ (b : Book S K C). b.ports) c.std-out.ensures.rest)

cause_is : (g : given.Over) (c : goal.After-drop-learning-6 g) → c.status_by.result ≡ learned_status (is_done c.learn-put.result) c.learn-put.new.self.endings.items
cause_is g c = c.status_by.ensures ∙ ap (λ (l : List Ending). learned_status (is_done c.learn-put.result) l) c.endings-2.ensures

never_is : (g : given.Over) (c : goal.After-drop-learning-6 g) (n : ℕ) → IsOneOf quiet_statuses n → c.status_by.result ≢ n
never_is g c n = never_learned (is_done c.learn-put.result) c.learn-put.new.self.endings.items c.status_by.result n (cause_is g c)

never_quiet : (g : given.Over) (c : goal.After-drop-learning-6 g) → IsOneOf quiet_statuses c.status_by.result → ⊥
never_quiet g c quiet = never_is g c c.status_by.result quiet refl

pub returns-clause-status : goal.returns-clause-status
returns-clause-status g c = subst (λ (n : ℕ). IsOneOf statuses n) (sym (cause_is g c)) (learned_one_of (is_done c.learn-put.result) c.learn-put.new.self.endings.items)

pub returns-clause-usage : goal.returns-clause-usage
returns-clause-usage g c = never_is g c 2 refl

pub returns-clause-config : goal.returns-clause-config
returns-clause-config g c = never_is g c 3 refl

pub returns-clause-memory : goal.returns-clause-memory
returns-clause-memory g c = λ one. absurd (never_is g c 1 refl one)

pub returns-clause-unplayed : goal.returns-clause-unplayed
returns-clause-unplayed g c = λ one. absurd (never_is g c 1 refl one)

pub returns-clause-open : goal.returns-clause-open
returns-clause-open g c = λ seven. absurd (never_is g c 7 refl seven)

pub returns-clause-still : goal.returns-clause-still
returns-clause-still g c = λ other.
    let S = g.row.W-S.Denot in
    let K = g.row.W-K.Denot in
    let C = g.row.W-C.Denot in
    let faults : Book S K C → ℕ = λ b. b.faults in
    ap faults c.keep_all-2.ensures.rest ∙ ap faults c.keep_std.ensures.rest ∙ ap faults c.std-out.ensures.rest ∙ c.in_default-open_all.ensures.still

pub returns-clause-unopened : goal.returns-clause-unopened
returns-clause-unopened g c = λ seven. absurd (never_is g c 7 refl seven)

pub returns-clause-quiet : goal.returns-clause-quiet
returns-clause-quiet g c = λ quiet. absurd (never_quiet g c quiet)

pub returns-clause-unused : goal.returns-clause-unused
returns-clause-unused g c = λ quiet. absurd (never_quiet g c quiet)

pub returns-clause-learning : goal.returns-clause-learning
returns-clause-learning g c = λ one_of.
    let S = g.row.W-S.Denot in
    let K = g.row.W-K.Denot in
    let C = g.row.W-C.Denot in
    let ports : Book S K C → PortKey → Place (Ends S K C) = λ b. b.ports in
    let b0 = g.W.World.book c.args.world.now in
    let b1 = g.W.World.book c.open_all.new.world in
    let b2 = g.W.World.book c.std-out.new.self in
    let b3 = g.W.World.book c.keep_std.new.self in
    let b4 = g.W.World.book c.keep_all-2.new.world in
    let held = c.open_all.new.held.items in
    let pairs = of_vectors (EachPair IsSamePort) c.open_all.new.held.len held c.deref_mut.result.now c.learn-put.new.ports c.deref_mut.ensures.value (sym c.deref_mut.ensures.len) c.learn-put.ensures.ports.size c.learn-put.ensures.ports in
    let same : b3.ports ≡ b1.ports = ap ports c.keep_std.ensures.rest ∙ ap ports c.std-out.ensures.rest in
    learning_of g.W.S.Source.left g.W.K.Sink.written g.W.S.Source.faults g.W.K.Sink.faults c.args.plan.now c.args.window _ c.learn-put.new.self.endings.items c.learn-put.result held _ c.std-out.result c.learn-put.new.out b0 b4 c.status_by.result
    (c.open_all.ensures.all c.in_default-open_all.is ∙ ap ports_of c.as_slice.ensures)
    (handled_by (BothFresh g.W.S.Source.faults g.W.K.Sink.faults) c.args.plan.now.ports _ _ _ (ports b1) (ports b3) (ports b4) _ (opened_as (BothFresh g.W.S.Source.faults g.W.K.Sink.faults) _ c.args.plan.now.ports held b0.ports b1.ports c.as_slice.ensures c.open_all.ensures.opened) c.open_all.ensures.others
    same pairs c.keep_all-2.ensures.kept c.keep_all-2.ensures.others refl)
    (others_by held _ _ (ports b1) (ports b3) (ports b4) _ c.open_all.ensures.others same pairs c.keep_all-2.ensures.others refl)
    c.open_all.ensures.readers
    (subst (λ (p : Place K). IfSome p.stands (λ t. c.std-out.result ≡ t)) (ap (λ (b : Book S K C). b.std Out) c.open_all.ensures.rest) c.std-out.ensures.hands.told)
    (ap (λ (b : Book S K C). (b.std Out).stands) c.keep_all-2.ensures.rest ∙ c.keep_std.ensures.kept)
    (of_vectors (λ old new. LearnsEnds g.W.S.Source.left g.W.S.Source.faults g.W.K.Sink.written g.W.K.Sink.faults c.args.plan.now c.args.window c.learn-put.new.self.endings.items c.learn-put.result old new c.std-out.result c.learn-put.new.out)
    c.open_all.new.held.len held c.deref_mut.result.now c.learn-put.new.ports c.deref_mut.ensures.value (sym c.deref_mut.ensures.len) c.learn-put.ensures.ports.size
    (c.learn-put.ensures.learns c.args.window c.in-Some.ensures.begun))
    (subst (λ (l : List Ending). ToldBy g.W.K.Sink.faults g.W.K.Sink.written c.args.errors.now c.tell_endings.new.errors (ending_lines l)) c.endings.ensures c.tell_endings.ensures)
    (cause_is g c)

pub returns-clause-others : goal.returns-clause-others
returns-clause-others g c =
    let S = g.row.W-S.Denot in
    let K = g.row.W-K.Denot in
    let C = g.row.W-C.Denot in
    λ other apart.
    ap (λ (b : Book S K C). b.std other) c.keep_all-2.ensures.rest ∙ c.keep_std.ensures.others other apart ∙ c.std-out.ensures.others other apart ∙ ap (λ (b : Book S K C). b.std other) c.open_all.ensures.rest
