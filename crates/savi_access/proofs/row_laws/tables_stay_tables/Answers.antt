use Rattle.savi_access.proofs.Parts.{rising_with, stand_with}
use Rattle.savi_access.proofs.row_laws.tables_stay_tables.Goals as goal

pub returns : goal.returns
returns c = λ a state rows is. record { rising = rising_with a state rows is.rising; stand = stand_with a state rows is.stand }
