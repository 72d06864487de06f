use Rattle.core_keep.proofs.RowsRead.{row_again, one_row}
use Rattle.core_keep.proofs.laws.a_code_says_one_row.Goals as goal

pub returns-clause-read : goal.returns-clause-read
returns-clause-read c row = row_again row

pub returns-clause-one : goal.returns-clause-one
returns-clause-one c row other same = one_row row other same
