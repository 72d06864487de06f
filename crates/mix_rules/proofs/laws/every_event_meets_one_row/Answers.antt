use Rattle.mix_rules.proofs.TableLemmas.{Row-next_state, Row-only}
use Rattle.mix_rules.proofs.laws.every_event_meets_one_row.Goals as goal

pub returns : goal.returns
returns c = λ m k t room s event sound. record { row = Row-next_state m k t room s event sound; only = λ other row. Row-only row sound }
