use Rattle.std.proofs.Common.{◌≡◌, ◌+◌, ◌*◌, ◌<◌, ◌++◌, ◌∷◌, [], length, length-append, refl, ap, ◌∙◌, arith, rules}
use denote.Param.{param}
use denote.Param.Send.{IsSend, IsSync, sendable}
use Rattle.parcel_ring.specs.Sides.{was_put}
use Rattle.live_switch.specs.declared.readers.Readers.{Readers}
use Rattle.live_switch.specs.Filled.{AreUnfilled}
use Rattle.live_switch.specs.Ran.{CanStart}
use Rattle.live_switch.proofs.Filling.{filled_more, unfilled_fewer, unfilled_last}
use Rattle.live_switch.proofs.Popped.{popped}
use Rattle.live_switch.proofs.readers.+reads.Goals as goal

pub join-others-requires-after_bounds : goal.join-others-requires-after_bounds
join-others-requires-after_bounds g t c κs within =
    let raw = c.requires-raw in
    let send_s : IsSend (param 2 g.row.S) = search rules in
    let send_k : IsSend (param 3 g.row.K) = search rules in
    let send_c : IsSend (param 4 g.row.C) = search rules in
    let sync_r : IsSync (param 0 g.row.R) = search rules in
    let sync_g : IsSync (param 1 g.row.G) = search rules in
    let all = c.args.readers in
    let reader = c.in-Some.reader in
    let last : all.ports.items ≡ c.pop.new.self.items ++ reader ∷ [] = popped all.ports.items c.pop.new.self.items c.pop.result reader c.pop.ensures.items c.in-Some.is in
    let few : Readers g.row.S.Denot g.row.C.Denot = record { ports = c.pop.new.self; control = all.control } in
    let unfilled : AreUnfilled few = unfilled_fewer all few reader last refl c.requires.unfilled in
    let empty : was_put reader.filler ≡ [] = unfilled_last all few reader last refl c.requires.unfilled in
    let start : CanStart c.args.start = c.requires.start in
    let smaller : 2 * length few.ports.items + 1 < 2 * length all.ports.items =
    let size = ap (λ l. length l) last ∙ length-append few.ports.items (reader ∷ []) in omega (arith, size) in
    search (rules, sendable)

pub returns-clause-filled : goal.returns-clause-filled
returns-clause-filled g t c =
    let all = c.args.readers in
    let reader = c.in-Some.reader in
    let last : all.ports.items ≡ c.pop.new.self.items ++ reader ∷ [] = popped all.ports.items c.pop.new.self.items c.pop.result reader c.pop.ensures.items c.in-Some.is in
    let few : Readers g.row.S.Denot g.row.C.Denot = record { ports = c.pop.new.self; control = all.control } in
    let back : Readers g.row.S.Denot g.row.C.Denot = c.join-others.result.0.0 in
    let new : Readers g.row.S.Denot g.row.C.Denot = record { ports = c.push_reserved.new.self; control = back.control } in
    filled_more all few reader last refl g.S.Source.left g.S.Source.faults g.C.Clock.readings new back c.join-others.result.1 c.push_reserved.ensures.items refl
    c.join-others.ensures.first.1.0 c.join-others.ensures.second

pub fn::run_readers::join+arg2+FnOnce::call_once-join+arg2-requires : goal.fn::run_readers::join+arg2+FnOnce::call_once-join+arg2-requires
fn::run_readers::join+arg2+FnOnce::call_once-join+arg2-requires g t c κs within = search (rules, sendable) depth 9
