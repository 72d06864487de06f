use Rattle.savi_conf.proofs.PrefixLemmas.{some_prefix}
use Rattle.savi_conf.proofs.prefixes.is_some_prefix.Goals as goal

pub returns : goal.returns
returns c = rw (c.is_some.ensures, ← c.as_bytes.ensures.value) (some_prefix c.as_bytes.result.now c.read_prefix.result c.read_prefix.ensures.read c.read_prefix.ensures.only)
