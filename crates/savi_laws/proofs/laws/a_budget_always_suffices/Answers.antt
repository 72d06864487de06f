use Rattle.savi_laws.proofs.Enough.{few_entries, open_has_room, none_full}
use Rattle.savi_laws.proofs.Given.{legal_given}
use Rattle.savi_laws.proofs.laws.a_budget_always_suffices.Goals as goal

pub returns : goal.returns
returns c = record {
  entries = λ plan base past valid within legal. few_entries plan base valid.port_count.1 within past legal;
  room = λ plan base past who valid within legal is suffices. open_has_room plan base valid.port_count.1 within past who legal is suffices;
  ends = λ plan base past valid within legal suffices. none_full plan base valid.port_count.1 within past legal suffices;
  given = λ plan base past legal. legal_given plan base past legal;
}
