use Rattle.savi_history.proofs.Telling.{passed_rightly}
use Rattle.savi_history.proofs.laws.packets_pass_where_their_source_is_live.Goals as goal

pub returns : goal.returns
returns c = λ plan base past valid within on legal bytes. passed_rightly plan valid base within on past legal bytes
