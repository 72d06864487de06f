use Rattle.savi_history.proofs.Unvalidated.{no_offers, operators_marks, judged_plainly}
use Rattle.savi_history.proofs.laws.probes_come_with_validation.Goals as goal

pub returns-clause-offers : goal.returns-clause-offers
returns-clause-offers c = λ plan base past act octets off bare. no_offers plan base off bare past act octets

pub returns-clause-marks : goal.returns-clause-marks
returns-clause-marks c = λ plan base past off. operators_marks plan base off past

pub returns-clause-judged : goal.returns-clause-judged
returns-clause-judged c = λ plan base past port stamp octets vlan off unshut is. judged_plainly plan base off past port stamp octets vlan unshut is
