use Rattle.hist_store.proofs.FieldsRead.{number_is}
use Rattle.hist_store.proofs.read_fields.read_number.Goals as goal

pub returns-clause-whole : goal.returns-clause-whole
returns-clause-whole c = number_is _ _ c.read_decimal.ensures.read c.read_decimal.ensures.only
