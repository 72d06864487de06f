use Rattle.control_replies.proofs.Bounds.{row_size, rows_size, bindings_size}
use Rattle.control_replies.proofs.laws.bindings_fit.Goals as goal

pub returns-clause-row : goal.returns-clause-row
returns-clause-row c = row_size

pub returns-clause-rows : goal.returns-clause-rows
returns-clause-rows c = rows_size

pub returns-clause-whole : goal.returns-clause-whole
returns-clause-whole c = bindings_size
