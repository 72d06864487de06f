use Rattle.std.proofs.Common.{string_bytes}
use Rattle.std.specs.BTreeMap.{keys}
use Rattle.std.proofs.lemmas.List.Elements.{All-map}
use Rattle.savi_conf.specs.Keys.{IsKnown}
use Rattle.savi_conf.specs.KeyNames.{keys_of}
use Rattle.savi_conf.proofs.Listed.{All-unmap}
use Rattle.savi_conf.proofs.KeysLemmas.{keys_in-view}
use Rattle.savi_conf.proofs.keys.KeyNames.has_only.Goals as goal

pub returns : goal.returns
returns c =
    let P = λ (key : _). IsKnown (keys_of c.args.self.now) key in
    let same = keys_in-view c.args.table.now.entries in (
      λ all. record { each = rw same (All-map P (λ k. string_bytes k) (keys c.args.table.now) (c.has_each.ensures.0 all)) },
      λ is. c.has_each.ensures.1 (All-unmap P (λ k. string_bytes k) (keys c.args.table.now) (rw same at is.each)),
    )
