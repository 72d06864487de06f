use Rattle.std.proofs.Common.{◌≡◌, ℕ, ◌++◌, List, Some, sym, ◌∙◌, ap, subst}
use Rattle.savi_ends.specs.declared.sink.Put.{Put}
use Rattle.ra_learn.specs.Sightings.{Sighting}
use Rattle.ra_learn.specs.Guarding.{answer}
use Rattle.ra_learn.specs.Learned.{Learned, HasLearned}
use Rattle.ra_learn.specs.Printed.{advert_lines, sighting_line}
use Rattle.ra_learn.specs.Reports.{Reported, Wrote}
use Rattle.ra_learn.proofs.report.Report.see.Goals as goal

pub returns-in-Some-clause-wrote : goal.returns-in-Some-clause-wrote
returns-in-Some-clause-wrote g c = λ plan window seen before faults knows wrote.
    let moment : c.self.inside.moment ≡ c.args.self.now.moment = ap (λ (r : Reported). r.moment) c.self.view_is in
    let learned : c.self.inside.learner ≡ c.args.self.now.learned = ap (λ (r : Reported). r.learned) c.self.view_is in
    let put : c.self.inside.put ≡ c.args.self.now.put = ap (λ (r : Reported). r.put) c.self.view_is in
    let one : ℕ → Sighting = λ m. record { port = c.args.port; moment = m; octets = c.args.octets.now } in
    let P : Learned → Type 0 = λ l. HasLearned plan window seen l in
    let said : Some c.in-Some.passes ≡ answer plan window seen (one c.self.inside.moment) = c.in-Some.ensures.value plan window seen (subst P (sym learned) knows) in
    let line : c.as_slice.result.now ≡ sighting_line (one c.args.self.now.moment) (answer plan window seen (one c.args.self.now.moment)) =
    c.as_slice.ensures.value ∙ c.put_advert-line.ensures ∙ ap (sighting_line (one c.self.inside.moment)) said ∙ ap (λ m. sighting_line (one m) (answer plan window seen (one m))) moment in
    let Q : Put → Type 0 = λ answer. Wrote (advert_lines plan window seen) answer before (g.K.Sink.written c.args.sink.now) faults (g.K.Sink.faults c.args.sink.now) in
    let R : List ℕ → Type 0 = λ text. Wrote (advert_lines plan window seen ++ text) c.write_unless_failed-self-inside.result before (g.K.Sink.written c.write_unless_failed-self-inside.new.sink) faults (g.K.Sink.faults c.write_unless_failed-self-inside.new.sink) in
    subst R line (c.write_unless_failed-self-inside.ensures (advert_lines plan window seen) before faults (subst Q (sym put) wrote))
