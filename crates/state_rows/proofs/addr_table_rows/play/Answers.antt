use Rattle.std.proofs.Common.{Some, refl}
use Rattle.savi_kinds.specs.declared.plan.Method.TheVariants.{Mixed}
use Rattle.state_rows.proofs.addr_table_rows.play.Goals as goal

pub event-answer-requires-clause-sound : goal.event-answer-requires-clause-sound
event-answer-requires-clause-sound g c = c.age.ensures.sound (λ a. Some Mixed) c.requires c.args.step.now.3.0

pub event-answer-requires-clause-fixable : goal.event-answer-requires-clause-fixable
event-answer-requires-clause-fixable g c = c.event_of-ev.ensures c.age.new.table.per_port c.args.step.now.3.0 c.age.new.table.rows

pub returns : goal.returns
returns g c = c.event-answer.ensures.sound (λ a. Some Mixed) refl (c.age.ensures.sound (λ a. Some Mixed) c.requires)
