use Rattle.std.proofs.Common.{◌≡◌, take}
use Rattle.toml.specs.View.{items_view}
use Rattle.savi_conf.specs.Documents.{integers_among}
use Rattle.savi_conf.proofs.document.integers_among.Given as goal

abbrev pub invariant-loop-value : goal.invariant-loop-value
invariant-loop-value l = l.integers.items ≡ integers_among (items_view (take l.value-index l.values))
