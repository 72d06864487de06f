use Rattle.std.proofs.Common.{◌≡◌, ℕ, ◌++◌, List, sym, ◌∙◌, ap, subst}
use Rattle.savi_ends.specs.declared.sink.Put.{Put}
use Rattle.ra_learn.specs.Learned.{Learned, HasLearned}
use Rattle.ra_learn.specs.Printed.{last_moment, sightings_of, advert_lines, learned_lines, known_lines}
use Rattle.ra_learn.specs.Reports.{Reported, Wrote}
use Rattle.ra_learn.proofs.Knowing.{lines_known}
use Rattle.ra_learn.proofs.report.Report.finish.Goals as goal

pub returns : goal.returns
returns g c = λ window arrivals before faults tells wrote.
    let plan = c.args.plan.now in
    let learned : c.self.inside.learner ≡ c.args.self.now.learned = ap (λ (r : Reported). r.learned) c.self.view_is in
    let moment : c.self.inside.moment ≡ last_moment arrivals = ap (λ (r : Reported). r.moment) c.self.view_is ∙ tells.moment in
    let put : c.self.inside.put ≡ c.args.self.now.put = ap (λ (r : Reported). r.put) c.self.view_is in
    let P : Learned → Type 0 = λ l. HasLearned plan window (sightings_of plan arrivals) l in
    let text : c.as_slice-2.result.now ≡ known_lines plan window (sightings_of plan arrivals) (last_moment arrivals) =
    c.as_slice-2.ensures.value
    ∙ c.put_known.ensures.items
    ∙ ap (λ ports. learned_lines c.self.inside.learner ports c.self.inside.moment) c.as_slice.ensures
    ∙ lines_known plan window (sightings_of plan arrivals) c.self.inside.learner c.self.inside.moment (subst P (sym learned) tells.knows)
    ∙ ap (known_lines plan window (sightings_of plan arrivals)) moment in
    let Q : Put → Type 0 = λ answer. Wrote (advert_lines plan window (sightings_of plan arrivals)) answer before (g.K.Sink.written c.args.sink.now) faults (g.K.Sink.faults c.args.sink.now) in
    let R : List ℕ → Type 0 = λ more. Wrote (advert_lines plan window (sightings_of plan arrivals) ++ more) c.write_unless_failed-self-inside.result before (g.K.Sink.written c.write_unless_failed-self-inside.new.sink) faults (g.K.Sink.faults c.write_unless_failed-self-inside.new.sink) in
    subst R text (c.write_unless_failed-self-inside.ensures (advert_lines plan window (sightings_of plan arrivals)) before faults (subst Q (sym put) wrote))
