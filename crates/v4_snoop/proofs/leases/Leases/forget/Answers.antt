use Rattle.std.proofs.Common.{not, ap}
use Rattle.std.proofs.lemmas.Bool.{eq-eqb, ne_eqb}
use Rattle.v4_snoop.specs.Leased.{is_lease_of}
use Rattle.v4_snoop.proofs.Slots.{all_stay, one_goes}
use Rattle.v4_snoop.proofs.leases.Leases.forget.Goals as goal

pub returns-in-Some-clause-slots : goal.returns-in-Some-clause-slots
returns-in-Some-clause-slots c =
    one_goes c.clear.new.self.slots.items (λ lease. not (is_lease_of c.args.key lease)) c.in-Some.ensures c.clear.ensures.slots (ap not (eq-eqb c.in-Some.found.lease.key c.args.key c.in-Some.ensures.of)) (λ other differs. ap not (ne_eqb other.key c.args.key differs))

pub returns-in-None-clause-slots : goal.returns-in-None-clause-slots
returns-in-None-clause-slots c = all_stay c.args.self.now.slots.items (λ lease. not (is_lease_of c.args.key lease)) (λ k lease is. ap not (ne_eqb lease.key c.args.key (c.in-None.ensures k lease is)))
