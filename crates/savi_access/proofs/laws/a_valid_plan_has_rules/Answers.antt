use Rattle.savi_access.proofs.PlanRules.{starts_within, own_ports, unspecified_off_link}
use Rattle.savi_access.proofs.laws.a_valid_plan_has_rules.Goals as goal

pub returns-clause-start : goal.returns-clause-start
returns-clause-start c = λ plan valid. starts_within plan valid

pub returns-clause-ports : goal.returns-clause-ports
returns-clause-ports c = λ plan number valid has host. own_ports plan valid number has host

pub returns-clause-unspecified : goal.returns-clause-unspecified
returns-clause-unspecified c = λ plan vlan valid. unspecified_off_link plan valid vlan
