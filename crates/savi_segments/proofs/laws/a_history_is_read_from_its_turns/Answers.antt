use Rattle.std.proofs.Common.{false}
use Rattle.savi_segments.proofs.Reading.{after_within, reads_as}
use Rattle.savi_segments.proofs.laws.a_history_is_read_from_its_turns.Goals as goal

pub returns : goal.returns
returns c = λ plan base early late valid within legal bytes legal_late bytes_late.
    reads_as plan valid base within early false (after_within c.histories_tell_rightly.ensures.limits plan valid base within early legal bytes) late legal_late bytes_late
