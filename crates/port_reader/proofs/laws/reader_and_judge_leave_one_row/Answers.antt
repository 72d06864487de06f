use Rattle.port_reader.proofs.Meeting.{ends_meet}
use Rattle.port_reader.proofs.laws.reader_and_judge_leave_one_row.Goals as goal

pub returns : goal.returns
returns g c left faults readings format put taken kept entered ending source new_source clock new_clock was_put judged front =
    ends_meet left faults readings format source new_source clock new_clock put taken kept entered ending was_put judged front
