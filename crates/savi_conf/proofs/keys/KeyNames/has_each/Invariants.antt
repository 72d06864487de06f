use Rattle.std.proofs.Common.{◌↔◌, string_bytes}
use Rattle.std.specs.List.{All}
use Rattle.std.specs.BTreeMap.{keys}
use Rattle.savi_conf.specs.Keys.{IsKnown}
use Rattle.savi_conf.specs.KeyNames.{keys_of}
use Rattle.savi_conf.proofs.keys.KeyNames.has_each.Given as goal

-- all keys are known where those that are left are
abbrev pub invariant-loop-key : goal.invariant-loop-key
invariant-loop-key l = All (λ key. IsKnown (keys_of l.self) (string_bytes key)) l.key-iterator ↔ All (λ key. IsKnown (keys_of l.self) (string_bytes key)) (keys l.table)
