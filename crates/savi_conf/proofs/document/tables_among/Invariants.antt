use Rattle.std.proofs.Common.{◌≡◌, take, map}
use Rattle.toml.specs.View.{items_view, table_view}
use Rattle.savi_conf.specs.Documents.{tables_among}
use Rattle.savi_conf.proofs.document.tables_among.Given as goal

abbrev pub invariant-loop-value : goal.invariant-loop-value
invariant-loop-value l = map (λ t. table_view t.now) l.tables.items ≡ tables_among (items_view (take l.value-index l.values))
