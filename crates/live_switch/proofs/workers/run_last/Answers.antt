use Rattle.std.proofs.Common.{◌≡◌, ℕ, ◌+◌, ◌++◌, ◌∷◌, [], List, refl, subst, vec_len, length, arith, rules}
use denote.Param.Send.{sendable}
use Rattle.savi_kinds.specs.declared.entry.Who.TheVariants.{Control, Ticker}
use Rattle.table_lock.specs.declared.pass.Pass.{Pass}
use Rattle.live_turns.specs.Seats.{IsDealtTo}
use Rattle.live_switch.specs.Dealt.{AreFor}
use Rattle.live_switch.proofs.Dealing.{control_dealt, sizes, ticker_dealt}
use Rattle.live_switch.proofs.Popped.{popped, popped_len, two_behind}
use Rattle.live_switch.proofs.Shifts.{done_first}
use Rattle.live_switch.proofs.workers.run_last.Goals as goal

pub join-ticker-requires-after_bounds : goal.join-ticker-requires-after_bounds
join-ticker-requires-after_bounds g c κs within =
    let lock = c.args.lock.now in
    let all : List Pass = c.args.shift.passes.items in
    let most : List Pass = c.pop.new.self.items in
    let bare : List Pass = c.pop-2.new.self.items in
    let dealt : AreFor lock 0 all = subst (λ (n : ℕ). AreFor lock n all) c.requires.none c.requires.ready.passes in
    let last : all ≡ most ++ c.unwrap-tick.result ∷ [] = popped all most c.pop.result c.unwrap-tick.result c.pop.ensures.items c.unwrap-tick.ensures in
    let first : most ≡ bare ++ c.unwrap-line.result ∷ [] = popped most bare c.pop-2.result c.unwrap-line.result c.pop-2.ensures.items c.unwrap-line.ensures in
    let control : IsDealtTo lock Control c.unwrap-line.result = control_dealt lock all most bare c.unwrap-tick.result c.unwrap-line.result dealt last first in
    let ticker : IsDealtTo lock Ticker c.unwrap-tick.result = ticker_dealt lock all most bare c.unwrap-tick.result c.unwrap-line.result dealt last first in
    let send_k = c.type_bounds.send-K in
    let send_c = c.type_bounds.send-C in
    let sync_r = c.type_bounds.sync-R in
    let sync_g = c.type_bounds.sync-G in
    search (rules, sendable)

pub returns : goal.returns
returns g c =
    let lock = c.args.lock.now in
    let shift = c.args.shift in
    let all : List Pass = shift.passes.items in
    let most : List Pass = c.pop.new.self.items in
    let bare : List Pass = c.pop-2.new.self.items in
    let dealt : AreFor lock 0 all = subst (λ (n : ℕ). AreFor lock n all) c.requires.none c.requires.ready.passes in
    let last : all ≡ most ++ c.unwrap-tick.result ∷ [] = popped all most c.pop.result c.unwrap-tick.result c.pop.ensures.items c.unwrap-tick.ensures in
    let first : most ≡ bare ++ c.unwrap-line.result ∷ [] = popped most bare c.pop-2.result c.unwrap-line.result c.pop-2.ensures.items c.unwrap-line.ensures in
    let one : vec_len c.pop.new.self + 1 ≡ vec_len shift.passes = popped_len (vec_len c.pop.new.self) (vec_len shift.passes) c.pop.result c.unwrap-tick.result c.pop.ensures.len c.unwrap-tick.ensures in
    let two : vec_len c.pop-2.new.self + 1 ≡ vec_len c.pop.new.self = popped_len (vec_len c.pop-2.new.self) (vec_len c.pop.new.self) c.pop-2.result c.unwrap-line.result c.pop-2.ensures.len c.unwrap-line.ensures in
    let no_others : length bare ≡ 0 = (sizes lock all most bare c.unwrap-tick.result c.unwrap-line.result dealt last first).1 in
    let ticked = c.join-ticker.result.0 in
    let served = c.join-ticker.result.1 in
    done_first g.K.Sink.written g.K.Sink.faults g.C.Clock.readings lock shift
    (record { service = record { ports = shift.service.ports; control = served.0; ticker = ticked.0 }; passes = c.push_reserved-2.new.self })
    bare c.unwrap-line.result c.unwrap-tick.result served.1 ticked.1 c.requires.none refl
    (two_behind bare c.push_reserved.new.self.items c.push_reserved-2.new.self.items served.1 ticked.1 c.push_reserved.ensures.items c.push_reserved-2.ensures.items) no_others
    c.join-ticker.ensures.second c.join-ticker.ensures.first
    (omega (arith, one, two, c.push_reserved.ensures.len, c.push_reserved-2.ensures.len))
    (omega (arith, c.push_reserved-2.ensures.capacity, c.push_reserved.ensures.capacity, c.pop-2.ensures.capacity, c.pop.ensures.capacity))
