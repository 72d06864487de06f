use Rattle.std.proofs.Common.{◌∙◌, sym, ap}
use Rattle.savi_kinds.specs.Ports.{number_of}
use Rattle.savi_core.specs.Rings.{Rings, shut_in}
use Rattle.savi_core.proofs.Shutting.{port_at}
use Rattle.savi_core.proofs.queues.Queues.is_shut.Goals as goal

pub returns : goal.returns
returns c = c.contains.ensures ∙ sym (port_at c.self.inside.shut c.args.port) ∙ ap (λ (r : Rings). shut_in r.shut (number_of c.args.port)) c.self.view_is
