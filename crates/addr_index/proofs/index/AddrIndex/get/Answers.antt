use Rattle.std.proofs.Common.{◌≡◌, List, Option, option_map, sym, ◌∙◌, ap, subst, rules}
use Rattle.addr_index.specs.declared.entry.Entry.{Entry}
use Rattle.addr_index.specs.Places.{IsPlaceOf, in_place}
use Rattle.addr_index.proofs.Table.{key_placed, read_place}
use Rattle.addr_index.proofs.index.AddrIndex.get.Goals as goal

pub returns-in-Ok : goal.returns-in-Ok
returns-in-Ok c =
    let place : IsPlaceOf c.args.a.0 c.self.inside.places.items c.in-Ok.place = subst (λ (places : List (Option Entry)). IsPlaceOf c.args.a.0 places c.in-Ok.place) c.deref.ensures.value c.in-Ok.ensures in
    let value : c.map.result ≡ option_map (λ (e : Entry). e.key) c.index.result.now = search rules in
    let there : c.index.result.now ≡ in_place c.self.inside.places.items c.in-Ok.place = read_place c.self.inside.places.items c.in-Ok.place c.index.result.now place.within c.index.ensures in
    rw (← c.self.view_is) (value ∙ ap (option_map (λ (e : Entry). e.key)) there ∙ sym (key_placed c.self.inside.places.items c.self.inside.most c.args.a.0 c.in-Ok.place c.self.invariant.distinct place))
