use Rattle.mix_rules.proofs.EndLemmas.{due-touched, idle-touched, due-probe}
use Rattle.mix_rules.proofs.laws.what_is_due_first_is_the_earliest.Goals as goal

pub returns : goal.returns
returns c = record {
  first = λ k t due s times is. due-touched k times s t due is;
  never = λ k t s times is. idle-touched k times s t is;
  one_probe = λ k due s times is. due-probe k times s due is;
}
