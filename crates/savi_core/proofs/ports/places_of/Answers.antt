use Rattle.std.proofs.Common.{◌≡◌, ◌<◌, ℕ, length, get_or, sym, ap, subst, ◌∙◌, arith}
use Rattle.std.proofs.lemmas.List.{get_or-map}
use Rattle.savi_kinds.specs.declared.plan.PortPlan.{PortPlan}
use Rattle.savi_kinds.specs.Ports.{number_of}
use Rattle.savi_kinds.specs.ValidPlan.{numbers_of}
use Rattle.savi_core.proofs.Places.{apart, length-numbers}
use Rattle.savi_core.proofs.PlaceTable.{HasPlaces, no_places, place_put, place_read}
use Rattle.savi_core.proofs.ports.places_of.Goals as goal

pub loop-place-init : goal.loop-place-init
loop-place-init c = no_places (numbers_of c.args.ports.now) (length c.args.ports.now) (sym (length-numbers c.args.ports.now))

pub loop-place-preserved : goal.loop-place-preserved
loop-place-preserved c =
    let ports = c.args.ports.now in
    let i = c.loop-place.place in
    let ns = numbers_of ports in
    let within : i < length ns = omega (arith, c.loop-place-test.true, length-numbers ports) in
    let number : PortPlan → ℕ = λ q. number_of q.number in
    let number_is : get_or ns i 0 ≡ c.get.result =
    get_or-map number ports i c.index-ports-place.result 0 c.loop-place-test.true ∙ ap number (sym c.index-ports-place.is) ∙ sym c.get.ensures.value in
    place_put ns i c.get.result c.loop-place.places within number_is c.get.ensures.high (λ j k j_in k_in other. apart ns j k c.requires.rising j_in k_in other) c.loop-place.invariant

pub returns : goal.returns
returns c number small =
    let ns = numbers_of c.args.ports.now in
    let all : c.loop-place.place ≡ length ns = omega (arith, c.loop-place-test.false, c.loop-place.auto.place-end, length-numbers c.args.ports.now) in
    place_read ns c.loop-place.places number small (subst (λ (n : ℕ). HasPlaces ns n c.loop-place.places) all c.loop-place.invariant)
