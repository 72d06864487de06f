use Rattle.std.proofs.Common.{◌∷◌}
use Rattle.savi_segments.proofs.Splitting.{segments_within, leave_same, segments_read}
use Rattle.savi_segments.proofs.laws.segments_leave_what_their_rows_leave.Goals as goal

pub returns-clause-within : goal.returns-clause-within
returns-clause-within c = λ plan segments valid legal. segments_within c.histories_tell_rightly.ensures.limits plan valid segments legal

pub returns-clause-same : goal.returns-clause-same
returns-clause-same c = λ plan segment before valid legal. leave_same c.histories_tell_rightly.ensures.limits plan valid (segment ∷ before) legal

pub returns-clause-reads : goal.returns-clause-reads
returns-clause-reads c = λ plan segment before valid legal. segments_read c.histories_tell_rightly.ensures.limits plan valid segment before legal
