use Rattle.std.proofs.Common.{◌≡◌, not, List, sym, ◌∙◌, ap, subst}
use Rattle.dhcp_states.specs.declared.request.Request.{Request}
use Rattle.dhcp_states.specs.Requests.{open_at, request_of, with_request}
use Rattle.v4_snoop.specs.Following.{client_id, finds_no_place, request_asked}
use Rattle.v4_snoop.specs.Snooped.{KnowsClients}
use Rattle.v4_snoop.proofs.Knowing.{knows_requests, open_asked}
use Rattle.v4_snoop.proofs.snoop.Snoop.ask.Goals as goal

pub returns-clause-knows : goal.returns-clause-knows
returns-clause-knows c = λ plan clients knows.
    let inside = subst (KnowsClients plan c.args.t clients) (sym c.self.view_is) knows in
    let before : List Request = c.self.inside.requests in
    let opens : open_at c.args.t c.ask.new.requests ≡ open_at c.args.t (request_asked c.args.p c.args.xid (client_id c.args.vlan c.args.mac) c.args.t clients.requests) =
    open_asked c.args.p c.args.xid (client_id c.args.vlan c.args.mac) c.args.t before clients.requests c.ask.new.requests c.ask.result inside.follows.open_requests
    (c.ask.ensures.place ∙ ap (λ id. not (finds_no_place c.args.p c.args.xid id c.args.t before)) c.client_id-client.ensures)
    (λ found. c.ask.ensures.asked found ∙ ap (λ id. with_request (request_of c.args.p c.args.xid id c.args.t) (open_at c.args.t before)) c.client_id-client.ensures)
    c.ask.ensures.refused in
    knows_requests inside c.ask.new.requests (request_asked c.args.p c.args.xid (client_id c.args.vlan c.args.mac) c.args.t clients.requests) opens
