use Rattle.fcfs_states.proofs.TableLemmas.{Row-next}
use Rattle.fcfs_states.proofs.RowLemmas.{Row-sound, Row-fits, Row-rested}
use Rattle.fcfs_states.proofs.state.Fcfs.step.Goals as goal

pub returns-clause-row : goal.returns-clause-row
returns-clause-row c = rw (c.outcome-state.ensures) (Row-next c.args.k.now c.args.t c.args.room c.args.self.now c.args.ev c.requires.kind)

pub returns-clause-sound : goal.returns-clause-sound
returns-clause-sound c = Row-sound (returns-clause-row c) c.requires.sound

pub returns-clause-fits : goal.returns-clause-fits
returns-clause-fits c = Row-fits (returns-clause-row c) c.requires.times c.requires.moment c.requires.fits

pub returns-clause-rested : goal.returns-clause-rested
returns-clause-rested c = Row-rested (returns-clause-row c) c.requires.times c.requires.rested
