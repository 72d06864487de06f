use Rattle.std.proofs.Common.{◌≡◌, true, List, sym, ◌∙◌, ap, subst}
use Rattle.savi_ends.specs.declared.sink.Put.{Put}
use Rattle.savi_kinds.specs.Ports.{number_of}
use Rattle.savi_kinds.specs.PortSets.{is_member}
use Rattle.ra_learn.specs.Sightings.{Sighting}
use Rattle.ra_learn.specs.Printed.{sightings_of, advert_lines}
use Rattle.ra_learn.specs.Reports.{Reported, Wrote}
use Rattle.ra_learn.proofs.OnLink.{off_link, on_link, still_knows, tells_off, tells_on}
use Rattle.ra_learn.proofs.report.Report.frame.Goals as goal

pub returns-then-not-is_on_link-clause-tells : goal.returns-then-not-is_on_link-clause-tells
returns-then-not-is_on_link-clause-tells g c = λ plan window arrivals tells.
    tells_off plan window arrivals c.args.port c.args.stamp c.args.octets.now c.args.self.now c.come_to.new.self tells c.come_to.ensures (sym c.is_on_link.ensures ∙ c.if-not-is_on_link.true)

pub returns-then-not-is_on_link-clause-wrote : goal.returns-then-not-is_on_link-clause-wrote
returns-then-not-is_on_link-clause-wrote g c = λ plan window arrivals before faults tells wrote.
    let put : c.come_to.new.self.put ≡ c.args.self.now.put = ap (λ (r : Reported). r.put) c.come_to.ensures in
    let P : Put → Type 0 = λ put. Wrote (advert_lines plan window (sightings_of plan arrivals)) put before (g.K.Sink.written c.args.sink.now) faults (g.K.Sink.faults c.args.sink.now) in
    let Q : List Sighting → Type 0 = λ seen. Wrote (advert_lines plan window seen) c.come_to.new.self.put before (g.K.Sink.written c.args.sink.now) faults (g.K.Sink.faults c.args.sink.now) in
    let same = off_link plan window arrivals c.args.port c.args.stamp c.args.octets.now c.args.self.now c.come_to.new.self tells c.come_to.ensures (sym c.is_on_link.ensures ∙ c.if-not-is_on_link.true) in
    subst Q same (subst P (sym put) wrote)

pub returns-clause-tells : goal.returns-clause-tells
returns-clause-tells g c = λ plan window arrivals tells.
    let on : is_member c.come_to.new.self.link (number_of c.args.port) ≡ true = sym c.is_on_link.ensures ∙ c.if-not-is_on_link.false in
    let knows = still_knows plan window arrivals c.args.port c.args.stamp c.args.octets.now c.args.self.now c.come_to.new.self tells c.come_to.ensures in
    tells_on plan window arrivals c.args.port c.args.stamp c.args.octets.now c.args.self.now c.come_to.new.self tells c.come_to.ensures c.see.new.self on
    (c.see.ensures.knows plan window (sightings_of plan arrivals) knows) c.see.ensures.link c.see.ensures.moment

pub returns-clause-wrote : goal.returns-clause-wrote
returns-clause-wrote g c = λ plan window arrivals before faults tells wrote.
    let on : is_member c.come_to.new.self.link (number_of c.args.port) ≡ true = sym c.is_on_link.ensures ∙ c.if-not-is_on_link.false in
    let knows = still_knows plan window arrivals c.args.port c.args.stamp c.args.octets.now c.args.self.now c.come_to.new.self tells c.come_to.ensures in
    let put : c.come_to.new.self.put ≡ c.args.self.now.put = ap (λ (r : Reported). r.put) c.come_to.ensures in
    let P : Put → Type 0 = λ put. Wrote (advert_lines plan window (sightings_of plan arrivals)) put before (g.K.Sink.written c.args.sink.now) faults (g.K.Sink.faults c.args.sink.now) in
    let Q : List Sighting → Type 0 = λ seen. Wrote (advert_lines plan window seen) c.see.new.self.put before (g.K.Sink.written c.see.new.sink) faults (g.K.Sink.faults c.see.new.sink) in
    let same = on_link plan window arrivals c.args.port c.args.stamp c.args.octets.now c.args.self.now c.come_to.new.self tells c.come_to.ensures on in
    subst Q same (c.see.ensures.wrote plan window (sightings_of plan arrivals) before faults knows (subst P (sym put) wrote))
