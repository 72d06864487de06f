use Rattle.control_replies.proofs.Bounds.{port_size, ports_size}
use Rattle.control_replies.proofs.laws.ports_fit.Goals as goal

pub returns-clause-row : goal.returns-clause-row
returns-clause-row c = port_size

pub returns-clause-whole : goal.returns-clause-whole
returns-clause-whole c = ports_size
