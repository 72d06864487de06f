use Rattle.std.proofs.Common.{◌≡◌, ◌<◌, List, Option, None, length, sym, subst}
use Rattle.addr_index.specs.declared.entry.Entry.{Entry}
use Rattle.addr_index.specs.Indexes.{Index, key_in}
use Rattle.addr_index.specs.Places.{IsPlaceOf, IsRoomFor, entries_of}
use Rattle.addr_index.proofs.Filling.{length_filled}
use Rattle.addr_index.proofs.Table.{index_of, place_absent, IsTable-insert, key_insert}
use Rattle.addr_index.proofs.index.AddrIndex.insert.Goals as goal

pub unreachable-requires : goal.unreachable-requires
unreachable-requires c =
    let place : IsPlaceOf c.args.a.0 c.self.inside.places.items c.in-Ok.field-0 = subst (λ (places : List (Option Entry)). IsPlaceOf c.args.a.0 places c.in-Ok.field-0) c.deref.ensures.value c.in-Ok.ensures in
    let absent : key_in (index_of c.self.inside.places.items c.self.inside.most) c.args.a.0 ≡ None = subst (λ (v : Index). key_in v c.args.a.0 ≡ None) (sym c.self.view_is) c.requires.absent in
    place_absent c.self.inside.places.items c.self.inside.most c.args.a.0 c.in-Ok.field-0 c.self.invariant.distinct place absent

room : (c : goal.After-self-1) → IsRoomFor c.args.a.0 c.self.inside.places.items c.in-Err.place
room c = subst (λ (places : List (Option Entry)). IsRoomFor c.args.a.0 places c.in-Err.place) c.deref.ensures.value c.in-Err.ensures

less : (c : goal.After-self-1) → length (entries_of c.self.inside.places.items) < c.self.inside.most
less c = subst (λ (v : Index). length v.entries < v.most) (sym c.self.view_is) c.requires.room

pub invariant_of-self : goal.invariant_of-self
invariant_of-self c = rw c.of.ensures (IsTable-insert c.self.inside.places.items c.self.inside.most c.in-Err.place (record { address = c.args.a.0; key = c.args.key }) c.self.invariant (room c) (less c))

pub returns-clause-keys : goal.returns-clause-keys
returns-clause-keys c b = rw (← c.self.view_is, c.of.ensures) (key_insert c.self.inside.places.items c.self.inside.most c.in-Err.place c.args.a.0 c.args.key b (room c))

pub returns-clause-len : goal.returns-clause-len
returns-clause-len c = rw (← c.self.view_is, c.of.ensures) (length_filled c.self.inside.places.items c.in-Err.place (record { address = c.args.a.0; key = c.args.key }) (room c).within (room c).empty)
