use Rattle.frame_class.proofs.SeenIs.{bad_is_tagged, tagged_is_bad}
use Rattle.frame_class.proofs.laws.a_bad_tag_is_a_class.Goals as goal

pub returns : goal.returns
returns c = λ frame. (bad_is_tagged frame, λ tagged. tagged_is_bad frame tagged.0 tagged.1)
