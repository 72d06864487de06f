use Rattle.toml.specs.View.{table_view}
use Rattle.savi_conf.proofs.PrefixLemmas.{tells_one}
use Rattle.savi_conf.proofs.prefixes.tells_plan_prefix.Goals as goal

pub returns-in-Some : goal.returns-in-Some
returns-in-Some c = (
  λ host. tells_one (table_view c.args.table.now) c.in-Some.prefix c.in-Some.ensures.read (c.is_plan_prefix.ensures.0 host),
  λ planned. c.is_plan_prefix.ensures.1 (planned.each c.in-Some.prefix c.in-Some.ensures.read),
)
