use Rattle.journal_check.proofs.OneText.{one_history}
use Rattle.journal_check.proofs.laws.octets_have_one_history.Goals as goal

pub returns : goal.returns
returns c = one_history c.segments_leave_what_their_rows_leave.ensures.within
