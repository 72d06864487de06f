use Rattle.std.proofs.Common.{◌≤◌, ◌^◌, List, ◌∷◌, length, sym, ap, ◌∙◌, subst, arith}
use Rattle.savi_kinds.specs.declared.plan.Plan.{Plan}
use Rattle.savi_kinds.specs.declared.plan.PortPlan.{PortPlan}
use Rattle.hist_store.specs.Rows.{Row}
use Rattle.load_gen.specs.LoadPlan.{IsLoadPlan}
use Rattle.savi_segments.specs.Segments.{IsWholeSession}
use Rattle.load_run.specs.LoadHistory.{load_segments}
use Rattle.load_run.proofs.Inputs.{as_many_ports, five, load_was_replayed}
use Rattle.load_run.proofs.Roomy.{load_is_ordinary}
use Rattle.load_run.proofs.replaying.replay_load.Goals as goal

pub ends_of-requires : goal.ends_of-requires
ends_of-requires c =
    let plan = c.in_ok-plan.field-0.plan in
    as_many_ports plan c.in_ok-plan.field-0.captures.items c.args.seed c.args.frames c.in_ok-plan.ensures.plan.ports c.in_ok-plan.ensures.captures
    ∙ sym (ap (λ (ports : List PortPlan). length ports) c.as_slice.ensures)

pub replay_session-requires-clause-unread : goal.replay_session-requires-clause-unread
replay_session-requires-clause-unread c = λ k d inside. (c.in_ok-ports.ensures.fresh k d inside).unread

pub returns-in-Ok-clause-replayed : goal.returns-in-Ok-clause-replayed
returns-in-Ok-clause-replayed c =
    let within : c.args.frames ≤ 2 ^ 32 = omega arith in
    let plan = c.in_ok-plan.field-0.plan in
    let left = c.in-Ok.ensures.replayed in
    let segments : List (List Row) = c.in-Ok.field-0.core.past ∷ left.before in
    let served = left.all.0 in
    record {
      before = left.before;
      base = left.base;
      all = (
        load_was_replayed plan c.args.seed c.args.frames segments c.in-Ok.field-0.ready.control c.in_ok-ports.ports.items c.in-Ok.field-0.ready.ports.items
            c.in_ok-plan.ensures.plan.ports within c.in_ok-ports.ensures.fresh (c.in_ok-ports.ensures.octets ∙ c.in_ok-plan.ensures.captures) served
            ∙ ap (λ (p : Plan). load_segments p c.args.seed c.args.frames) (sym c.in-Ok.ensures.plan),
        subst (λ (p : Plan). IsWholeSession p segments) (sym c.in-Ok.ensures.plan) served.session,
        left.all.1.entries_are,
      );
    }

pub returns-in-Ok-clause-ordinary : goal.returns-in-Ok-clause-ordinary
returns-in-Ok-clause-ordinary c = λ few.
    let plan = c.in-Ok.field-0.core.plan in
    let is : IsLoadPlan plan = subst (λ (p : Plan). IsLoadPlan p) (sym c.in-Ok.ensures.plan) c.in_ok-plan.ensures.plan in
    load_is_ordinary plan (five plan is.ports) is.entries is.bytes c.args.seed c.args.frames few
