use Rattle.std.proofs.Common.{ℕ, length, ap, sym, ◌∙◌}
use Rattle.savi_kinds.specs.declared.entry.Act.TheVariants as acts
use Rattle.savi_history.specs.Events as events
use Rattle.savi_core.specs.Machines.{Machine}
use Rattle.savi_core.proofs.Remembering.{held-reverse}
use Rattle.savi_core.proofs.machine.Core.frame_act.Goals as goal

pub returns : goal.returns
returns c =
    ap (λ (n : ℕ). acts.Frame c.args.port c.args.stamp n (length c.args.octets.now)) (c.held.ensures ∙ sym (held-reverse c.self.inside.hist.rows))
    ∙ ap (λ (m : Machine). events.frame_act m.past c.args.port c.args.stamp c.args.octets.now) c.self.view_is
