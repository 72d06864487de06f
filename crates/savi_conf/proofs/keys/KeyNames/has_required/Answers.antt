use Rattle.std.proofs.Common.{IsSome}
use Rattle.toml.specs.Data.{get_member}
use Rattle.toml.specs.View.{table_view}
use Rattle.std.proofs.lemmas.List.Elements.{All-map}
use Rattle.savi_conf.specs.KeyNames.{keys_of}
use Rattle.savi_conf.proofs.Listed.{All-unmap}
use Rattle.savi_conf.proofs.keys.KeyNames.has_required.Goals as goal

pub returns : goal.returns
unfolding keys_of
returns c =
    let P = λ (key : _). IsSome (get_member key (table_view c.args.table.now)) in
    (λ all. record { each = All-map P (λ k. k.now) c.args.self.now.required.now (c.has_all.ensures.0 all) }, λ is. c.has_all.ensures.1 (All-unmap P (λ k. k.now) c.args.self.now.required.now is.each))
