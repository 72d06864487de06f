use Rattle.toml.specs.View.{table_view}
use Rattle.savi_conf.proofs.PrefixLemmas.{told_prefix}
use Rattle.savi_conf.proofs.plan.prefix_plan.Goals as goal

pub unreachable-requires : goal.unreachable-requires
unreachable-requires c =
    let told = told_prefix (table_view c.args.table.now) c.requires.prefix c.requires.spelled in
    c.in-None.ensures.only told.0 told.1
