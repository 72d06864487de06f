use Rattle.savi_segments.proofs.MarksJoined.{marks_joined}
use Rattle.savi_segments.proofs.laws.marks_are_joined.Goals as goal

pub returns : goal.returns
returns c = λ r base early late t0 times tables right last right_late. marks_joined r base tables times early t0 right last late right_late
