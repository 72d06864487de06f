use Rattle.std.proofs.Common.{ap}
use Rattle.savi_access.specs.NamedMarks.{mark_of}
use Rattle.savi_access.specs.States.{outcome_by}
use Rattle.savi_access.proofs.MarksOn.{own_run, state_of-other, same_marks}
use Rattle.savi_access.proofs.address_laws.an_address_sees_its_own_marks.Goals as goal

pub returns : goal.returns
returns c = record {
  run = λ r base past vlan a m is. own_run r base vlan a m past is;
  others = λ r base past named vlan a not. state_of-other r base vlan a named past not;
  same = λ r base past other vlan a equal. same_marks r base vlan a past other equal;
  answers = λ r base past other named equal. ap (λ s. (outcome_by (r.method_of named.vlan named.address) r.times (mark_of named) s).0) (same_marks r base named.vlan named.address past other equal);
}
