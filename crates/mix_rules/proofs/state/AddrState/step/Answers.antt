use Rattle.std.proofs.Common.{subst}
use Rattle.mix_rules.specs.States.{IsSoundFor}
use Rattle.mix_rules.specs.Table.{Row}
use Rattle.mix_rules.specs.Next.{Outcome}
use Rattle.fcfs_states.specs.Premises.{MomentsFit}
use Rattle.mix_rules.specs.Ageing.{IsStill}
use Rattle.mix_rules.proofs.TableLemmas.{Row-next_state}
use Rattle.mix_rules.proofs.EventLemmas.{next-sound, next-still, fcfs_moves, moves-fits}
use Rattle.mix_rules.proofs.state.AddrState.step.Goals as goal

pub returns-clause-row : goal.returns-clause-row
returns-clause-row c = subst (λ (o : Outcome). Row c.args.m c.args.k.now c.args.t c.args.room c.args.self.now c.args.ev o.0 o.1) c.take.ensures.value (Row-next_state c.args.m c.args.k.now c.args.t c.args.room c.args.self.now c.args.ev c.requires.sound)

pub returns-clause-sound : goal.returns-clause-sound
returns-clause-sound c = subst (λ (o : Outcome). IsSoundFor c.args.m o.1) c.take.ensures.value (next-sound c.args.m c.args.k.now c.args.t c.args.room c.args.self.now c.args.ev c.requires.sound)

pub returns-clause-fits : goal.returns-clause-fits
returns-clause-fits c =
    record {
      fcfs = subst (λ (o : Outcome). MomentsFit o.1.fcfs) c.take.ensures.value (moves-fits c.args.k.now c.args.t c.args.self.now.fcfs c.args.ev _ (fcfs_moves c.args.m c.args.k.now c.args.t c.args.room c.args.self.now c.args.ev) c.requires.times c.requires.moment c.requires.fits.fcfs);
      dhcp = c.take.ensures.low;
    }

pub returns-clause-still : goal.returns-clause-still
returns-clause-still c = subst (λ (o : Outcome). IsStill c.args.k.now c.args.t o.1) c.take.ensures.value (next-still c.args.m c.args.k.now c.args.t c.args.room c.args.self.now c.args.ev c.requires.times c.requires.still)
