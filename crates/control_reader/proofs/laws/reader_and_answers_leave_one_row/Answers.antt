use Rattle.control_reader.proofs.Meeting.{source_row}
use Rattle.control_reader.proofs.laws.reader_and_answers_leave_one_row.Goals as goal

pub returns : goal.returns
returns g c left faults readings put taken kept entered ending source new_source clock new_clock was_put answers front =
    source_row left faults readings source new_source clock new_clock put taken was_put front entered ending kept answers
