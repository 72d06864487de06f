use Rattle.std.proofs.Common.{◌≡◌, Option, sym, ◌∙◌, ap, subst}
use Rattle.savi_kinds.specs.Ports.{number_of}
use Rattle.v4_snoop.specs.declared.reason.Reason.{Reason}
use Rattle.v4_snoop.specs.declared.told.Told.{Told}
use Rattle.v4_snoop.specs.Tellings.{told_in}
use Rattle.v4_snoop.specs.Following.{after_telling}
use Rattle.v4_snoop.specs.Reasons.{validates, is_host_port}
use Rattle.v4_snoop.specs.Judged.{packet_reason, shortage, after_packet}
use Rattle.v4_snoop.specs.Snooped.{KnowsClients}
use Rattle.v4_snoop.proofs.Judging.{reason_first, behind_none}
use Rattle.v4_snoop.proofs.Knowing.{validates_is}
use Rattle.v4_snoop.proofs.snoop.Snoop.see_packet.Goals as goal

pub returns-in-Some-clause-reason : goal.returns-in-Some-clause-reason
returns-in-Some-clause-reason c = λ plan clients knows.
    reason_first c.in-Some.reason
    (packet_reason clients (validates plan (number_of c.args.p)) (is_host_port plan (number_of c.args.p)) c.args.vlan (number_of c.args.p) c.args.t c.args.packet.now)
    (shortage plan.per_port c.args.vlan c.args.p c.args.t (told_in (validates plan (number_of c.args.p)) (is_host_port plan (number_of c.args.p)) c.args.packet.now) clients)
    (c.in-Some.ensures plan clients knows)

pub returns-in-Some-clause-knows : goal.returns-in-Some-clause-knows
returns-in-Some-clause-knows c = λ plan clients knows.
    let P : Option Reason → Type 0 = λ r. KnowsClients plan c.args.t (after_packet plan.per_port c.args.vlan c.args.p c.args.t r (told_in (validates plan (number_of c.args.p)) (is_host_port plan (number_of c.args.p)) c.args.packet.now) clients) c.args.self.now in
    subst P (c.in-Some.ensures plan clients knows) knows

pub returns-in-None-clause-reason : goal.returns-in-None-clause-reason
returns-in-None-clause-reason c = λ plan clients knows.
    let inside = subst (KnowsClients plan c.args.t clients) (sym c.self.view_is) knows in
    let told : c.told_in-told.result ≡ told_in (validates plan (number_of c.args.p)) (is_host_port plan (number_of c.args.p)) c.args.packet.now =
    c.told_in-told.ensures ∙ ap (λ v. told_in v c.contains.result c.args.packet.now) (c.validates.ensures ∙ validates_is knows (number_of c.args.p) c.args.p.low)
    ∙ ap (λ h. told_in (validates plan (number_of c.args.p)) h c.args.packet.now) (c.contains.ensures ∙ inside.hosts (number_of c.args.p) c.args.p.low) in
    c.follow.ensures.reason plan clients knows
    ∙ ap (λ (said : Told). shortage plan.per_port c.args.vlan c.args.p c.args.t said clients) told
    ∙ behind_none
    (packet_reason clients (validates plan (number_of c.args.p)) (is_host_port plan (number_of c.args.p)) c.args.vlan (number_of c.args.p) c.args.t c.args.packet.now)
    (shortage plan.per_port c.args.vlan c.args.p c.args.t (told_in (validates plan (number_of c.args.p)) (is_host_port plan (number_of c.args.p)) c.args.packet.now) clients)
    (c.in-None.ensures plan clients knows)

pub returns-in-None-clause-knows : goal.returns-in-None-clause-knows
returns-in-None-clause-knows c = λ plan clients knows.
    let inside = subst (KnowsClients plan c.args.t clients) (sym c.self.view_is) knows in
    let told : c.told_in-told.result ≡ told_in (validates plan (number_of c.args.p)) (is_host_port plan (number_of c.args.p)) c.args.packet.now =
    c.told_in-told.ensures ∙ ap (λ v. told_in v c.contains.result c.args.packet.now) (c.validates.ensures ∙ validates_is knows (number_of c.args.p) c.args.p.low)
    ∙ ap (λ h. told_in (validates plan (number_of c.args.p)) h c.args.packet.now) (c.contains.ensures ∙ inside.hosts (number_of c.args.p) c.args.p.low) in
    let P : Option Reason → Type 0 = λ r. KnowsClients plan c.args.t (after_packet plan.per_port c.args.vlan c.args.p c.args.t r (told_in (validates plan (number_of c.args.p)) (is_host_port plan (number_of c.args.p)) c.args.packet.now) clients) c.follow.new.self in
    let Q : Told → Type 0 = λ said. KnowsClients plan c.args.t (after_telling plan.per_port c.args.vlan c.args.p c.args.t said clients) c.follow.new.self in
    subst P (c.in-None.ensures plan clients knows) (subst Q told (c.follow.ensures.knows plan clients knows))
