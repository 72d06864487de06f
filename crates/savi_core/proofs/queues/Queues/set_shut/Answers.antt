use Rattle.std.proofs.Common.{Bool, sym, ap, ◌∙◌}
use Rattle.savi_kinds.specs.Ports.{number_of}
use Rattle.savi_core.specs.Rings.{Rings, shut_in, with_shut}
use Rattle.savi_core.proofs.Shutting.{with_port, without_port}
use Rattle.savi_core.proofs.queues.Queues.set_shut.Goals.{then-is_shut, else-is_shut}
use Rattle.savi_core.proofs.queues.Queues.set_shut.Goals as goal

pub returns-clause-shut : goal.returns-clause-shut
returns-clause-shut c =
    let number = number_of c.args.port in
    let set = c.self.inside.shut in
    elim c.if-is_shut.branch [
      | then-is_shut w ↦
          ap shut_in w.self-is
          ∙ with_port set w.with-self-inside.result c.args.port w.with-self-inside.ensures.members
          ∙ ap (λ (b : Bool). with_shut number b (shut_in set)) (sym w.if-is_shut.true)
          ∙ ap (λ (rings : Rings). with_shut number c.args.is_shut (shut_in rings.shut)) c.self.view_is
      | else-is_shut w ↦
          ap shut_in w.self-is
          ∙ without_port set w.without-self-inside.result c.args.port w.without-self-inside.ensures.members
          ∙ ap (λ (b : Bool). with_shut number b (shut_in set)) (sym w.if-is_shut.false)
          ∙ ap (λ (rings : Rings). with_shut number c.args.is_shut (shut_in rings.shut)) c.self.view_is
    ]
