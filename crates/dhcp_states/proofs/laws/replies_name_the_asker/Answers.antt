use Rattle.dhcp_states.proofs.Askers.{asker-with_own, asker-with_other, asker-without_pair}
use Rattle.dhcp_states.proofs.laws.replies_name_the_asker.Goals as goal

pub returns : goal.returns
returns c = record {
  own = asker-with_own;
  others = asker-with_other;
  met = asker-without_pair;
}
