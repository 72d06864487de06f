use Rattle.std.proofs.Common.{◌≡◌, drop}
use Rattle.toml.specs.View.{items_view}
use Rattle.savi_conf.specs.Keys.{are_integers}
use Rattle.savi_conf.proofs.keys.are_all_integers.Given as goal

abbrev pub invariant-loop-value : goal.invariant-loop-value
invariant-loop-value l = are_integers (items_view l.values) ≡ are_integers (items_view (drop l.value-index l.values))
