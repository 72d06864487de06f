use Rattle.std.proofs.Common.{ℕ, Some, List, ap, sym, subst, ◌∙◌}
use Rattle.savi_kinds.specs.declared.verdict.Rule.TheVariants.{OffLink}
use Rattle.fcfs_states.specs.declared.event.Ev.TheVariants.{Sent}
use Rattle.savi_access.specs.Rules.{AccessRules, AccessBase}
use Rattle.savi_access.specs.Marks.{Mark}
use Rattle.savi_access.specs.Judged.{Judged, answered_or, is_passed, message}
use Rattle.savi_access.specs.Plans.{rules_of}
use Rattle.access_table.specs.Steps.{FollowsStep}
use Rattle.access_table.proofs.Following.{passes_on, stops_here}
use Rattle.access_table.proofs.table.AccessTable.sourced.Goals as goal

pub returns-in-Pass-clause-judged : goal.returns-in-Pass-clause-judged
returns-in-Pass-clause-judged c =
    let r : AccessRules = rules_of c.args.plan.now in
    let step : AccessBase → List Mark → Judged = λ base past. answered_or r base c.args.self.now.vlan c.args.port c.args.t OffLink past c.args.ip.now.src.0 (Sent c.args.port) in
    let behind : FollowsStep r c.args.t c.event-sent.new.self c.message.new.self c.message.result (λ base past. message r base c.args.self.now.vlan c.args.port c.args.t past c.args.read.now) =
    subst (λ (v : ℕ). FollowsStep r c.args.t c.event-sent.new.self c.message.new.self c.message.result (λ base past. message r base v c.args.port c.args.t past c.args.read.now)) c.event-sent.ensures.vlan c.message.ensures.judged
    in
    passes_on r c.args.self.now.vlan c.args.t c.args.port c.args.self.now c.event-sent.new.self c.message.new.self c.args.read.now c.event-sent.result c.message.result step (ap is_passed c.in-Pass.is) (c.event-sent.ensures.judged c.args.port) behind

pub returns-in-Drop-clause-judged : goal.returns-in-Drop-clause-judged
returns-in-Drop-clause-judged c =
    let r : AccessRules = rules_of c.args.plan.now in
    let step : AccessBase → List Mark → Judged = λ base past. answered_or r base c.args.self.now.vlan c.args.port c.args.t OffLink past c.args.ip.now.src.0 (Sent c.args.port) in
    stops_here r c.args.self.now.vlan c.args.t c.args.port c.args.self.now c.event-sent.new.self c.args.read.now c.event-sent.result step (ap is_passed c.in-Drop.is) (c.event-sent.ensures.judged c.args.port)

pub message-requires-clause-port : goal.message-requires-clause-port
message-requires-clause-port c = c.requires.port ∙ ap Some (sym c.event-sent.ensures.vlan)
