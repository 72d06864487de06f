use Rattle.journal_check.proofs.LegalFields.{legal_said}
use Rattle.journal_check.proofs.laws.legal_numbers_fit_their_fields.Goals as goal

pub returns : goal.returns
returns c = λ plan base past valid within legal octets_are. legal_said plan valid base within past legal octets_are
