use Rattle.std.proofs.Common.{◌≡◌, length, true, ap, sym, ◌∙◌, arith}
use Rattle.savi_kinds.specs.Ports.{number_of}
use Rattle.savi_history.specs.Passes.{has_pass, has_port}
use Rattle.savi_core.specs.Rings.{Rings}
use Rattle.savi_core.proofs.Places.{place_within}
use Rattle.savi_core.proofs.queues.Queues.end.Goals as goal

pub index_mut-requires : goal.index_mut-requires
index_mut-requires c =
    let known : has_port c.args.ports.now (number_of c.in-Egress.port) ≡ true = sym (ap (has_pass c.args.ports.now) c.in-Egress.is) ∙ c.requires.known in
    omega (arith, place_within c.args.ports.now (number_of c.in-Egress.port) known, c.place_of.ensures.place, c.requires.count, ap (λ (r : Rings). length r.lanes) c.self.view_is)
