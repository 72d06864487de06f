use Rattle.savi_access.proofs.Rows.{one_table}
use Rattle.savi_access.proofs.address_laws.there_is_one_table.Goals as goal

pub returns : goal.returns
returns c = λ rows others is are same. one_table rows others is.rising is.stand are.rising are.stand same
