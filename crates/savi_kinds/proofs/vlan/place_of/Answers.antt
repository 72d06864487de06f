use Rattle.std.proofs.Common.{length, unwrap_or, ap, ◌∙◌}
use Rattle.savi_kinds.proofs.VlanSets.{place_found}
use Rattle.savi_kinds.proofs.vlan.place_of.Goals as goal

pub returns : goal.returns
returns c = c.unwrap_or.ensures ∙ ap (λ o. unwrap_or o (length c.args.numbers.now)) c.first_from.ensures ∙ place_found c.args.vlan c.args.numbers.now
