use Rattle.std.proofs.Common.{rules}
use Rattle.savi_conf.specs.KeyNames.{keys_of}
use Rattle.savi_conf.proofs.keys.KeyNames.top.Goals as goal

pub returns : goal.returns
unfolding keys_of
returns c = search rules
