use Rattle.std.proofs.Common.{◌≡◌, false, subst}
use Rattle.savi_kinds.specs.declared.entry.Who.TheVariants.{Ticker}
use Rattle.checkpoint.specs.Bases.{Base}
use Rattle.savi_history.specs.Legal.{IsLegal}
use Rattle.savi_history.specs.Passes.{has_ended, ticker_pass}
use Rattle.savi_core.specs.Machines.{base_of}
use Rattle.live_turns.specs.TurnKinds.{DidTick}
use Rattle.live_turns.proofs.Entering.{tick_one}
use Rattle.live_turns.proofs.MadeOnly.{made_by}
use Rattle.live_ticker.proofs.Reading.{ticks_by}
use Rattle.live_ticker.proofs.ticker.TickerWorker.round.Goals as goal

-- by what came of the move

pub returns-in-Made-clause-made : goal.returns-in-Made-clause-made
returns-in-Made-clause-made g c =
    let core = c.args.core.now.core.value in
    let now = c.tick.new.kept.core.value.past in
    made_by core.plan (base_of core) core.past now Ticker (tick_one core.plan (base_of core) core.past now c.read-stamp.result c.tick.result c.tick.ensures.did)

pub returns-in-Idle-clause-made : goal.returns-in-Idle-clause-made
returns-in-Idle-clause-made g c =
    let core = c.args.core.now.core.value in
    let now = c.tick.new.kept.core.value.past in
    made_by core.plan (base_of core) core.past now Ticker (tick_one core.plan (base_of core) core.past now c.read-stamp.result c.tick.result c.tick.ensures.did)

pub returns-in-Made-clause-stands : goal.returns-in-Made-clause-stands
returns-in-Made-clause-stands g c = λ before first legal goes_on stands.
    let core = c.args.core.now.core.value in
    let now = c.tick.new.kept.core.value.past in
    ticks_by core.plan before g.C.Clock.readings first c.args.self.now.clock c.read-stamp.new.self.clock c.read-stamp.result c.read-stamp.ensures core.past
    (subst (λ (base : Base). IsLegal core.plan base core.past) goes_on c.tick.ensures.legal)
    (subst (λ (base : Base). has_ended base (ticker_pass core.plan) core.past ≡ false) goes_on c.requires.running)
    stands c.tick.result now
    (subst (λ (base : Base). DidTick c.read-stamp.result c.tick.result core.plan base core.past now) goes_on c.tick.ensures.did)

pub returns-in-Idle-clause-stands : goal.returns-in-Idle-clause-stands
returns-in-Idle-clause-stands g c = λ before first legal goes_on stands.
    let core = c.args.core.now.core.value in
    let now = c.tick.new.kept.core.value.past in
    ticks_by core.plan before g.C.Clock.readings first c.args.self.now.clock c.read-stamp.new.self.clock c.read-stamp.result c.read-stamp.ensures core.past
    (subst (λ (base : Base). IsLegal core.plan base core.past) goes_on c.tick.ensures.legal)
    (subst (λ (base : Base). has_ended base (ticker_pass core.plan) core.past ≡ false) goes_on c.requires.running)
    stands c.tick.result now
    (subst (λ (base : Base). DidTick c.read-stamp.result c.tick.result core.plan base core.past now) goes_on c.tick.ensures.did)
