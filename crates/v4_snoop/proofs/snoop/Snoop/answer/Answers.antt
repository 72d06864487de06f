use Rattle.std.proofs.Common.{sym, ◌∙◌, ap, subst}
use Rattle.dhcp_states.specs.Requests.{open_at, asker, without_pair}
use Rattle.v4_snoop.specs.Following.{client_id, request_answered}
use Rattle.v4_snoop.specs.Snooped.{KnowsClients}
use Rattle.v4_snoop.proofs.Knowing.{knows_requests, open_answered}
use Rattle.v4_snoop.proofs.snoop.Snoop.answer.Goals as goal

pub returns-clause-port : goal.returns-clause-port
returns-clause-port c = λ plan clients knows.
    let inside = subst (KnowsClients plan c.args.t clients) (sym c.self.view_is) knows in
    c.reply.ensures.port
    ∙ ap (λ id. asker c.args.xid id (open_at c.args.t c.self.inside.requests)) c.client_id-client.ensures
    ∙ ap (asker c.args.xid (client_id c.args.vlan c.args.mac)) inside.follows.open_requests

pub returns-clause-knows : goal.returns-clause-knows
returns-clause-knows c = λ plan clients knows.
    let inside = subst (KnowsClients plan c.args.t clients) (sym c.self.view_is) knows in
    knows_requests inside c.reply.new.self (request_answered c.args.xid (client_id c.args.vlan c.args.mac) c.args.t clients.requests)
    (open_answered c.args.xid (client_id c.args.vlan c.args.mac) c.args.t c.self.inside.requests clients.requests c.reply.new.self inside.follows.open_requests
    (c.reply.ensures.met ∙ ap (λ id. without_pair c.args.xid id (open_at c.args.t c.self.inside.requests)) c.client_id-client.ensures))
