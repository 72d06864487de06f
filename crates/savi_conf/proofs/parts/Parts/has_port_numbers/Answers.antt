use Rattle.std.proofs.Common.{◌≢◌, IfSome}
use Rattle.savi_conf.specs.Requirements.{IsBetween, number_in}
use Rattle.savi_conf.proofs.Listed.{seen_all, seen_pairs}
use Rattle.savi_conf.proofs.PartsLemmas.{view_of}
use Rattle.savi_conf.proofs.parts.Parts.has_port_numbers.Goals as goal

pub returns-then-have_ports_numbers : goal.returns-then-have_ports_numbers
returns-then-have_ports_numbers c =
    let range = seen_all (λ port. IfSome (number_in port) (IsBetween 1 16)) (λ t. view_of t) c.args.self.now.ports.now _ c.have_ports_numbers.result c.requires.ports c.have_ports_numbers.ensures in
    let different = seen_pairs (λ p q. number_in p ≢ number_in q) (λ t. view_of t) c.args.self.now.ports.now _ c.have_different_numbers.result c.requires.ports c.have_different_numbers.ensures in (
      λ yes. record { range = range.0 c.if-have_ports_numbers.true; different = different.0 yes },
      λ numbers. different.1 numbers.different,
    )

pub returns-else-have_ports_numbers : goal.returns-else-have_ports_numbers
returns-else-have_ports_numbers c =
    let range = seen_all (λ port. IfSome (number_in port) (IsBetween 1 16)) (λ t. view_of t) c.args.self.now.ports.now _ c.have_ports_numbers.result c.requires.ports c.have_ports_numbers.ensures in
    (λ yes. absurd cc, λ numbers. range.1 numbers.range)
