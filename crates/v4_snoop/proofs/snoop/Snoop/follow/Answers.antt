use Rattle.std.proofs.Common.{cond, Option, Some, None, sym, ◌∙◌, ap, subst}
use Rattle.savi_kinds.specs.declared.port.Port.{Port}
use Rattle.v4_snoop.specs.declared.reason.Reason.TheVariants as reasons
use Rattle.v4_snoop.specs.declared.told.Told.{Told}
use Rattle.v4_snoop.specs.Following.{Clients, client_id, request_answered, finds_no_room, granted_if, after_telling}
use Rattle.v4_snoop.specs.Judged.{shortage}
use Rattle.v4_snoop.specs.Snooped.{KnowsClients}
use Rattle.v4_snoop.proofs.snoop.Snoop.follow.Goals as goal

pub returns-in-Asks-clause-reason : goal.returns-in-Asks-clause-reason
returns-in-Asks-clause-reason c = λ plan clients knows.
    c.ask.ensures.reason plan clients knows ∙ ap (λ (told : Told). shortage plan.per_port c.args.vlan c.args.p c.args.t told clients) (sym c.in-Asks.is)

pub returns-in-Asks-clause-knows : goal.returns-in-Asks-clause-knows
returns-in-Asks-clause-knows c = λ plan clients knows.
    let P : Told → Type 0 = λ told. KnowsClients plan c.args.t (after_telling plan.per_port c.args.vlan c.args.p c.args.t told clients) c.ask.new.self in
    subst P (sym c.in-Asks.is) (c.ask.ensures.knows plan clients knows)

pub returns-in-Ends-clause-knows : goal.returns-in-Ends-clause-knows
returns-in-Ends-clause-knows c = λ plan clients knows.
    let P : Told → Type 0 = λ told. KnowsClients plan c.args.t (after_telling plan.per_port c.args.vlan c.args.p c.args.t told clients) c.end.new.self in
    subst P (sym c.in-Ends.is) (c.end.ensures plan clients knows)

pub returns-in-Refuses-clause-knows : goal.returns-in-Refuses-clause-knows
returns-in-Refuses-clause-knows c = λ plan clients knows.
    let P : Told → Type 0 = λ told. KnowsClients plan c.args.t (after_telling plan.per_port c.args.vlan c.args.p c.args.t told clients) c.answer.new.self in
    subst P (sym c.in-Refuses.is) (c.answer.ensures.knows plan clients knows)

pub returns-in-Some-clause-reason : goal.returns-in-Some-clause-reason
returns-in-Some-clause-reason c = λ plan clients knows.
    let answered : Clients = record { requests = request_answered c.in-Grants.xid (client_id c.args.vlan c.in-Grants.mac) c.args.t clients.requests; leases = clients.leases } in
    c.grant.ensures.reason plan answered (c.in-Some.ensures.knows plan clients knows)
    ∙ ap (λ (who : Option Port). cond (finds_no_room plan.per_port c.args.vlan c.args.t who c.in-Grants.granted clients.leases) (Some reasons.PortFull) None) (c.in-Some.ensures.port plan clients knows)
    ∙ ap (λ (told : Told). shortage plan.per_port c.args.vlan c.args.p c.args.t told clients) (sym c.in-Grants.is)

pub returns-in-Some-clause-knows : goal.returns-in-Some-clause-knows
returns-in-Some-clause-knows c = λ plan clients knows.
    let answered : Clients = record { requests = request_answered c.in-Grants.xid (client_id c.args.vlan c.in-Grants.mac) c.args.t clients.requests; leases = clients.leases } in
    let P : Option Port → Type 0 = λ who. KnowsClients plan c.args.t (record answered { leases = granted_if plan.per_port c.args.vlan c.in-Grants.mac c.args.t who c.in-Grants.granted clients.leases }) c.grant.new.self in
    let Q : Told → Type 0 = λ told. KnowsClients plan c.args.t (after_telling plan.per_port c.args.vlan c.args.p c.args.t told clients) c.grant.new.self in
    subst Q (sym c.in-Grants.is) (subst P (c.in-Some.ensures.port plan clients knows) (c.grant.ensures.knows plan answered (c.in-Some.ensures.knows plan clients knows)))

pub returns-in-None-clause-reason : goal.returns-in-None-clause-reason
returns-in-None-clause-reason c = λ plan clients knows.
    ap (λ (who : Option Port). cond (finds_no_room plan.per_port c.args.vlan c.args.t who c.in-Grants.granted clients.leases) (Some reasons.PortFull) None) (c.in-None.ensures.port plan clients knows)
    ∙ ap (λ (told : Told). shortage plan.per_port c.args.vlan c.args.p c.args.t told clients) (sym c.in-Grants.is)

pub returns-in-None-clause-knows : goal.returns-in-None-clause-knows
returns-in-None-clause-knows c = λ plan clients knows.
    let answered : Clients = record { requests = request_answered c.in-Grants.xid (client_id c.args.vlan c.in-Grants.mac) c.args.t clients.requests; leases = clients.leases } in
    let P : Option Port → Type 0 = λ who. KnowsClients plan c.args.t (record answered { leases = granted_if plan.per_port c.args.vlan c.in-Grants.mac c.args.t who c.in-Grants.granted clients.leases }) c.answer-in-Grants.new.self in
    let Q : Told → Type 0 = λ told. KnowsClients plan c.args.t (after_telling plan.per_port c.args.vlan c.args.p c.args.t told clients) c.answer-in-Grants.new.self in
    subst Q (sym c.in-Grants.is) (subst P (c.in-None.ensures.port plan clients knows) (c.in-None.ensures.knows plan clients knows))
