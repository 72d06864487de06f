use Rattle.std.proofs.Common.{◌≡◌, ◌∷◌, Some, None, sym, ◌∙◌, ap, subst}
use Rattle.std.specs.Option.{option_map, option_and_then}
use Rattle.savi_kinds.specs.Ports.{number_of}
use Rattle.ra_learn.specs.Carried.{Carried}
use Rattle.ra_learn.specs.Sightings.{Sighting, Heard, heard_of, good_advert}
use Rattle.ra_learn.specs.Learned.{Learned, HasLearned, lets_pass, after_noting, told_if_passed}
use Rattle.ra_learn.proofs.Knowing.{knows_none, knows_some, answer_some}
use Rattle.ra_learn.proofs.learner.Learner.see.Goals as goal

pub returns-in_err-ip-clause-knows : goal.returns-in_err-ip-clause-knows
returns-in_err-ip-clause-knows c = λ plan window past knows.
    let one : Sighting = record { port = c.args.p; moment = c.args.t; octets = c.args.frame.now } in
    let none : good_advert one ≡ None = ap (option_and_then heard_of) c.in_err-ip.ensures.value in
    let P : Learned → Type 0 = λ learned. HasLearned plan window (one ∷ past) learned in
    subst P (sym c.begin.ensures) (knows_none plan window past c.args.self.now one none knows)

pub returns-in-Some-clause-knows : goal.returns-in-Some-clause-knows
returns-in-Some-clause-knows c = λ plan window past knows.
    let one : Sighting = record { port = c.args.p; moment = c.args.t; octets = c.args.frame.now } in
    let heard : Heard = record { source = c.in_ok-ip.ip.src; ra = c.in-Some.ra } in
    let good : good_advert one ≡ Some heard =
    ap (option_and_then heard_of) c.in_ok-ip.ensures.value ∙ ap (option_map (λ ra. let one : Heard = record { source = c.in_ok-ip.ip.src; ra = ra } in one)) (sym c.in-Some.ensures) in
    let P : Learned → Type 0 = λ learned. HasLearned plan window (one ∷ past) learned in
    let after = c.hear.ensures.after ∙ ap (λ learned. told_if_passed (after_noting learned (number_of c.args.p) c.args.t c.in-Some.ra) c.args.p c.args.t heard) c.begin.ensures in
    subst P (sym after) (knows_some plan window past c.args.self.now one heard c.args.p.low good knows)

pub returns-in-Some-clause-value : goal.returns-in-Some-clause-value
returns-in-Some-clause-value c = λ plan window past knows.
    let one : Sighting = record { port = c.args.p; moment = c.args.t; octets = c.args.frame.now } in
    let found : Carried = record { ip = c.in_ok-ip.ip; message = c.in_ok-ip.message.now } in
    let heard : Heard = record { source = c.in_ok-ip.ip.src; ra = c.in-Some.ra } in
    let good : good_advert one ≡ Some heard =
    ap (option_and_then heard_of) c.in_ok-ip.ensures.value ∙ ap (option_map (λ ra. let one : Heard = record { source = c.in_ok-ip.ip.src; ra = ra } in one)) (sym c.in-Some.ensures) in
    let passes = c.hear.ensures.value ∙ ap (λ learned. lets_pass (after_noting learned (number_of c.args.p) c.args.t c.in-Some.ra) (number_of c.args.p) c.args.t c.in-Some.ra) c.begin.ensures in
    ap Some passes ∙ answer_some plan window past c.args.self.now one found heard c.args.p.low c.in_ok-ip.ensures.value good knows

pub returns-in-None-clause-knows : goal.returns-in-None-clause-knows
returns-in-None-clause-knows c = λ plan window past knows.
    let one : Sighting = record { port = c.args.p; moment = c.args.t; octets = c.args.frame.now } in
    let none : good_advert one ≡ None =
    ap (option_and_then heard_of) c.in_ok-ip.ensures.value ∙ ap (option_map (λ ra. let one : Heard = record { source = c.in_ok-ip.ip.src; ra = ra } in one)) (sym c.in-None.ensures) in
    let P : Learned → Type 0 = λ learned. HasLearned plan window (one ∷ past) learned in
    subst P (sym c.begin.ensures) (knows_none plan window past c.args.self.now one none knows)
