use Rattle.std.proofs.Common.{arith}
use Rattle.std.proofs.lemmas.List.Elements.{All-nil}
use Rattle.savi_access.specs.Rules.{IsRequestOf}
use Rattle.savi_access.specs.Marks.{told}
use Rattle.savi_access.proofs.States.{told_past, told_before}
use Rattle.savi_access.proofs.Requests.{within_limits}
use Rattle.savi_access.proofs.Openness.{still_of}
use Rattle.savi_access.proofs.laws.states_and_requests_stay_a_base.Goals as goal

pub returns-clause-start : goal.returns-clause-start
returns-clause-start c = λ r times hosts. record {
  roles = hosts;
  addresses = c.states_stay_a_base.ensures.start r.addresses times;
  limits = λ vlan. record { room = λ port. omega arith; pairs = λ tid duid. omega arith };
  requests = λ vlan. All-nil (IsRequestOf r vlan 0);
}

pub returns-clause-kept : goal.returns-clause-kept
returns-clause-kept c = λ r base past t is right after early. record {
  roles = is.roles;
  addresses = c.states_stay_a_base.ensures.kept r.addresses base.addresses (told past) t is.addresses (told_past r base past right) (told_before r base past t right after) early;
  limits = λ vlan. within_limits r base is vlan past t right after;
  requests = λ vlan. still_of r base is vlan past t right after;
}
