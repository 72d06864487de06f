use Rattle.savi_history.proofs.Offered.{all_counted}
use Rattle.savi_history.proofs.laws.each_probe_is_counted_once.Goals as goal

pub returns : goal.returns
returns c plan base past legal = all_counted plan base past legal
