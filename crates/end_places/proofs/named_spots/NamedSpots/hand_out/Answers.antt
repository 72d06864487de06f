use Rattle.std.proofs.Common.{◌≡◌, ℕ, List, true, None, sym, subst, ap, ◌∙◌, Option}
use Rattle.end_places.specs.ManySpots.{spot_among}
use Rattle.end_places.proofs.ManyPlaces.{push_here, push_other}
use Rattle.end_places.proofs.named_spots.NamedSpots.hand_out.Goals as goal

pub returns-clause-out : goal.returns-clause-out
returns-clause-out g c =
    subst (λ (places : List (List ℕ × Option g.row.X.Denot)). (spot_among places c.args.name).is_out ≡ true)
    (sym c.push_reserved.ensures.items) (push_here c.args.self.now.spots.items c.args.name None)

pub returns-clause-others : goal.returns-clause-others
returns-clause-others g c other differs =
    ap (λ (places : List (List ℕ × Option g.row.X.Denot)). spot_among places other) c.push_reserved.ensures.items
    ∙ push_other c.args.self.now.spots.items c.args.name other None differs
