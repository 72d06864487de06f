use Rattle.eth_frame.proofs.TaggedAgain.{tag_again, inner_again}
use Rattle.eth_frame.proofs.laws.a_tagged_frame_has_its_vlan.Goals as goal

pub returns-clause-vlan : goal.returns-clause-vlan
returns-clause-vlan c = tag_again

pub returns-clause-again : goal.returns-clause-again
returns-clause-again c = inner_again
