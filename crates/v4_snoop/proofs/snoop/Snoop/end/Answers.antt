use Rattle.std.proofs.Common.{◌&&◌, not, sym, ◌∙◌, ap, subst}
use Rattle.savi_kinds.specs.Ports.{number_of}
use Rattle.v4_snoop.specs.Leased.{v4_key, is_lease_of, is_lease_at, lease_ended_at}
use Rattle.v4_snoop.specs.KeptLeases.{lease_in, left_if}
use Rattle.v4_snoop.specs.Snooped.{KnowsClients}
use Rattle.v4_snoop.proofs.Holding.{HoldsLive-left}
use Rattle.v4_snoop.proofs.Knowing.{knows_leases}
use Rattle.v4_snoop.proofs.snoop.Snoop.end.Goals as goal

pub returns : goal.returns
returns c = λ plan clients knows.
    let inside = subst (KnowsClients plan c.args.t clients) (sym c.self.view_is) knows in
    knows_leases inside c.end.new.self (lease_ended_at (v4_key c.args.vlan c.args.address) (number_of c.args.p) clients.leases) c.end.ensures.per_port
    (HoldsLive-left (λ lease. not (is_lease_of (v4_key c.args.vlan c.args.address) lease && is_lease_at (number_of c.args.p) lease)) inside.follows.live_leases
    (c.end.ensures.kept.size ∙ sym c.self.invariant.size)
    (λ slot. c.end.ensures.slots slot ∙ ap (λ key. left_if (λ lease. not (is_lease_of key lease && is_lease_at (number_of c.args.p) lease)) (lease_in c.self.inside.leases.slots.items slot)) c.key_of.ensures))
