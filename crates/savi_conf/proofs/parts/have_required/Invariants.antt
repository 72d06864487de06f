use Rattle.std.proofs.Common.{take}
use Rattle.std.specs.List.{All}
use Rattle.toml.specs.View.{table_view}
use Rattle.savi_conf.specs.Keys.{HasRequired}
use Rattle.savi_conf.specs.KeyNames.{keys_of}
use Rattle.savi_conf.proofs.parts.have_required.Given as goal

abbrev pub invariant-loop-table : goal.invariant-loop-table
invariant-loop-table l = All (λ t. HasRequired (keys_of l.keys) (table_view t.now)) (take l.table-index l.tables)
