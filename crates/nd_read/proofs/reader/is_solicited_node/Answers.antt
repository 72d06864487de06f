use Rattle.std.proofs.Common.{arith}
use Rattle.std.proofs.lemmas.Bool.{leb-true, le-leb}
use Rattle.nd_read.specs.Tests.{solicited_node}
use Rattle.nd_read.proofs.reader.is_solicited_node.Goals as goal

pub returns-then-address-ge-SOLICITED_NODE_FIRST : goal.returns-then-address-ge-SOLICITED_NODE_FIRST
unfolding solicited_node
returns-then-address-ge-SOLICITED_NODE_FIRST c =
    ((λ t. let below = leb-true _ _ t in (omega arith, omega (arith, below))), (λ h. le-leb _ _ (omega (arith, h.1))))

pub returns-else-address-ge-SOLICITED_NODE_FIRST : goal.returns-else-address-ge-SOLICITED_NODE_FIRST
unfolding solicited_node
returns-else-address-ge-SOLICITED_NODE_FIRST c =
    ((λ t. let above = leb-true _ _ t in absurd (omega (arith, above))), (λ h. absurd (omega (arith, h.0))))
