use Rattle.std.proofs.Common.{◌≡◌, ℕ, ◌<◌, length, map, Vec, Global, List, arith, sym, ap, ◌∙◌}
use Rattle.std.proofs.lemmas.List.{length-map, map-id, take_all}
use Rattle.std.proofs.lemmas.Iterator.Adapters.{YieldsList-from_vec}
use Rattle.std.proofs.lemmas.Iterator.Consumers.{YieldsList-turn, YieldsList-end}
use Rattle.savi_kinds.specs.declared.plan.PortPlan.{PortPlan}
use Rattle.load_run.proofs.Holding.{as_many, items_of, numbers, one_more_held}
use Rattle.load_run.proofs.ends.ends_of.Goals as goal

pub loop-octets-preserved : goal.loop-octets-preserved
loop-octets-preserved c =
    let it = c.into_iter-octets-iterator in
    let gives = it.ensures.into_iter_gives in
    let turn = YieldsList-turn (YieldsList-from_vec {s = it.result} c.args.captures.items gives.0 (gives.1 ∙ c.args.captures.ok.0)) c.loop-octets.yielded c.loop-octets.octets-iterator c.loop-octets.yielded_by c.next.result c.next.new.self c.in-Some.octets c.in-Some.is c.next.ensures.steps in
    let number : c.len.result ≡ length c.loop-octets.held.items = omega arith in
    let many : length c.loop-octets.held.items ≡ length c.loop-octets.yielded = as_many c.args.ports.now c.loop-octets.yielded c.loop-octets.held.items c.loop-octets.invariant in
    let inside : c.len.result < length c.args.ports.now = omega (arith, turn.0, number, many, c.requires) in
    one_more_held c.args.ports.now c.loop-octets.yielded c.loop-octets.held.items c.push.new.self.items c.in-Some.octets c.index-ports-len.result c.len.result c.end_of.result
    c.loop-octets.invariant number inside c.index-ports-len.is (c.end_of.ensures.port ∙ ap (λ (q : PortPlan). q.number) (sym c.index-ports-len.is)) c.end_of.ensures.octets c.end_of.ensures.fresh c.in_ok-push.ensures.items

pub returns : goal.returns
returns c =
    let it = c.into_iter-octets-iterator in
    let gives = it.ensures.into_iter_gives in
    let ended = YieldsList-end (YieldsList-from_vec {s = it.result} c.args.captures.items gives.0 (gives.1 ∙ c.args.captures.ok.0)) c.loop-octets.yielded c.loop-octets.octets-iterator c.loop-octets.yielded_by c.next.result c.next.new.self c.in-None.is c.next.ensures.steps in
    let all : c.loop-octets.yielded ≡ c.args.captures.items = sym (map-id c.loop-octets.yielded) ∙ ended.0 in
    record {
      ports = c.loop-octets.invariant.ports_same ∙ take_all (length c.loop-octets.yielded) (numbers c.args.ports.now) (omega (arith, ended.1, c.requires, length-map c.args.ports.now (λ (q : PortPlan). q.number)));
      octets = c.loop-octets.invariant.octets ∙ ap (λ (l : List (Vec ℕ Global)). map items_of l) all;
      fresh = c.loop-octets.invariant.fresh;
    }
