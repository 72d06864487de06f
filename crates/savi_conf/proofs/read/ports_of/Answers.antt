use Rattle.std.proofs.Common.{◌≢◌, ap, map, subst, sym, ◌∙◌}
use Rattle.std.proofs.lemmas.Simd.{map-map}
use Rattle.savi_conf.specs.declared.fault.Fault.TheVariants.{PortNumbers, TrunkRole, VlanCount}
use Rattle.savi_conf.specs.Parts.{document_of}
use Rattle.savi_conf.specs.Requirements.{AreFewVlans, HasTrunkRole, number_in, vlans_in}
use Rattle.savi_conf.specs.Told.{CanSayPort}
use Rattle.savi_conf.proofs.Listed.{All-unmap, AllPairs-unmap}
use Rattle.savi_conf.proofs.MetLemmas.{ports_said}
use Rattle.savi_conf.proofs.PartsLemmas.{view_of}
use Rattle.savi_conf.proofs.read.ports_of.Goals as goal

pub port_plans-requires-clause-each : goal.port_plans-requires-clause-each
port_plans-requires-clause-each c =
    let parts = c.args.parts.now in
    All-unmap CanSayPort (λ t. view_of t) parts.ports.now (rw c.requires.parts.ports (ports_said parts.replay (document_of parts) c.requires.meets))

pub port_plans-requires-clause-different : goal.port_plans-requires-clause-different
port_plans-requires-clause-different c =
    let parts = c.args.parts.now in
    AllPairs-unmap (λ p q. number_in p ≢ number_in q) (λ t. view_of t) parts.ports.now (rw c.requires.parts.ports (c.requires.meets PortNumbers).different)

pub port_plans-requires-clause-trusted : goal.port_plans-requires-clause-trusted
port_plans-requires-clause-trusted c =
    let parts = c.args.parts.now in
    All-unmap HasTrunkRole (λ t. view_of t) parts.ports.now (rw c.requires.parts.ports (c.requires.meets TrunkRole))

pub port_plans-requires-clause-few : goal.port_plans-requires-clause-few
port_plans-requires-clause-few c =
    let parts = c.args.parts.now in
    subst AreFewVlans (ap (map vlans_in) (sym c.requires.parts.ports) ∙ map-map vlans_in (λ t. view_of t) parts.ports.now) (c.requires.meets VlanCount)
