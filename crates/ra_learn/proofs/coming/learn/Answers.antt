use Rattle.std.proofs.Common.{◌≡◌, ◌+◌, ◌∷◌, ◌++◌, [], List, map, reverse, take, sym, ◌∙◌, ap, subst}
use Rattle.std.proofs.lemmas.List.{take_all, take_more, map-append, reverse-append}
use Rattle.ra_learn.specs.declared.coming.Coming.{Coming}
use Rattle.ra_learn.specs.Comings.{arrival_of}
use Rattle.ra_learn.specs.Printed.{PortArrival, printed}
use Rattle.ra_learn.specs.Reports.{Wrote}
use Rattle.ra_learn.proofs.coming.learn.Goals as goal

-- the newest arrival comes first
newest : (xs : List Coming) (x : Coming) → reverse (map arrival_of (xs ++ x ∷ [])) ≡ arrival_of x ∷ reverse (map arrival_of xs)
newest xs x = ap reverse (map-append arrival_of xs (x ∷ [])) ∙ reverse-append (map arrival_of xs) (arrival_of x ∷ [])

pub loop-coming-preserved : goal.loop-coming-preserved
loop-coming-preserved g c =
    let before : List Coming = take c.loop-coming.coming-index c.args.arrivals.now in
    let one : Coming = c.coming-item.result in
    let past : List PortArrival = reverse (map arrival_of before) in
    let next : take (c.loop-coming.coming-index + 1) c.args.arrivals.now ≡ before ++ one ∷ [] =
    take_more c.args.arrivals.now c.loop-coming.coming-index one c.loop-coming-test.true ∙ ap (λ x. before ++ x ∷ []) (sym c.coming-item.is) in
    let more : reverse (map arrival_of (take (c.loop-coming.coming-index + 1) c.args.arrivals.now)) ≡ arrival_of one ∷ past = ap (λ xs. reverse (map arrival_of xs)) next ∙ newest before one in
    rw more (record {
      tells = c.take.ensures.tells c.args.plan.now c.args.window past c.loop-coming.invariant.tells;
      wrote = c.take.ensures.wrote c.args.plan.now c.args.window past (g.K.Sink.written c.args.sink.now) (g.K.Sink.faults c.args.sink.now) c.loop-coming.invariant.tells c.loop-coming.invariant.wrote;
    })

pub returns-clause-wrote : goal.returns-clause-wrote
returns-clause-wrote g c =
    let all : take c.loop-coming.coming-index c.args.arrivals.now ≡ c.args.arrivals.now = take_all c.loop-coming.coming-index c.args.arrivals.now c.loop-coming-test.false in
    let P : List Coming → Type 0 = λ xs. Wrote (printed c.args.plan.now c.args.window (reverse (map arrival_of xs))) c.finish.result (g.K.Sink.written c.args.sink.now) (g.K.Sink.written c.finish.new.sink) (g.K.Sink.faults c.args.sink.now) (g.K.Sink.faults c.finish.new.sink) in
    subst P all (c.finish.ensures c.args.window (reverse (map arrival_of (take c.loop-coming.coming-index c.args.arrivals.now))) (g.K.Sink.written c.args.sink.now) (g.K.Sink.faults c.args.sink.now) c.loop-coming.invariant.tells c.loop-coming.invariant.wrote)
