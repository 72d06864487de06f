use Rattle.std.proofs.Common.{ap, ◌∙◌, sym}
use Rattle.egress_ring.specs.declared.item.Item.{Item as Queued}
use Rattle.savi_core.specs.Lanes.{Lane}
use Rattle.savi_core.specs.Rings.{shut_in}
use Rattle.savi_core.proofs.Shutting.{port_at}
use Rattle.savi_core.proofs.port_queue.PortQueue.is_in.Goals as goal

pub returns : goal.returns
returns c = c.contains.ensures ∙ sym (port_at c.args.shut c.self.inside.port) ∙ ap (λ (lane : Lane Queued). shut_in c.args.shut lane.number) c.self.view_is
