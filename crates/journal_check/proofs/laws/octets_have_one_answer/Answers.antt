use Rattle.journal_check.proofs.OneText.{one_answer}
use Rattle.journal_check.proofs.laws.octets_have_one_answer.Goals as goal

pub returns : goal.returns
returns c = one_answer c.segments_leave_what_their_rows_leave.ensures.within
