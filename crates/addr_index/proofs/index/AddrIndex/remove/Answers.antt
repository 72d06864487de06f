use Rattle.std.proofs.Common.{◌≡◌, ◌+◌, List, Option, None, length, sym, ◌∙◌, ap, subst, arith}
use Rattle.std.proofs.Math.ListN.{set, length-set}
use Rattle.std.specs.Vec.{with_item, with_items}
use Rattle.std.proofs.lemmas.List.{with_items_is}
use Rattle.addr_index.specs.declared.entry.Entry.{Entry}
use Rattle.addr_index.specs.Indexes.{Index, key_in, HasOneEach}
use Rattle.addr_index.specs.Places.{IsPlaceOf, HasSameEntries, entries_of}
use Rattle.addr_index.proofs.Table.{place_absent, distinct_emptied, length_removed, IsTable-remove, key_remove, length_remove}
use Rattle.addr_index.proofs.index.AddrIndex.remove.Goals as goal

place : (c : goal.After-deref_mut) → IsPlaceOf c.args.a.0 c.self.inside.places.items c.in-Ok.place
place c = subst (λ (places : List (Option Entry)). IsPlaceOf c.args.a.0 places c.in-Ok.place) c.deref.ensures.value c.in-Ok.ensures

pub close_gap-requires-clause-distinct : goal.close_gap-requires-clause-distinct
close_gap-requires-clause-distinct c =
    subst (λ (places : List (Option Entry)). HasOneEach (entries_of places)) (sym c.deref_mut.ensures.value) (rw c.empty.ensures (distinct_emptied c.self.inside.places.items c.args.a.0 c.in-Ok.place c.self.invariant.distinct (place c)))

pub close_gap-requires-clause-sparse : goal.close_gap-requires-clause-sparse
close_gap-requires-clause-sparse c =
    let fewer : length (entries_of (set c.self.inside.places.items c.in-Ok.place None)) + 1 ≡ length (entries_of c.self.inside.places.items) = length_removed c.self.inside.places.items c.args.a.0 c.in-Ok.place (place c) in
    rw (c.deref_mut.ensures.value, c.empty.ensures, length-set {A = Option Entry} c.self.inside.places.items c.in-Ok.place None) (omega (arith, fewer, c.self.invariant.room, c.self.invariant.sparse, c.self.invariant.some))

there : (c : goal.After-self-in-Ok-1) → IsPlaceOf c.args.a.0 c.self.inside.places.items c.in-Ok.place
there c = subst (λ (places : List (Option Entry)). IsPlaceOf c.args.a.0 places c.in-Ok.place) c.deref.ensures.value c.in-Ok.ensures

same : (c : goal.After-self-in-Ok-1) → HasSameEntries (set c.self.inside.places.items c.in-Ok.place None) c.close_gap.new.places
same c = subst (λ (o : Option Entry). HasSameEntries (set c.self.inside.places.items c.in-Ok.place o) c.close_gap.new.places) c.empty.ensures (subst (λ (places : List (Option Entry)). HasSameEntries places c.close_gap.new.places) c.deref_mut.ensures.value c.close_gap.ensures.same)

size : (c : goal.After-self-in-Ok-1) → length c.close_gap.new.places ≡ length c.self.inside.places.items
size c = c.close_gap.auto.places ∙ ap length c.deref_mut.ensures.value ∙ length-set {A = Option Entry} c.self.inside.places.items c.in-Ok.place c.empty.result

items : (c : goal.After-self-in-Ok-1) → (with_items (with_item c.self.inside.places c.in-Ok.place c.empty.result) c.close_gap.new.places).items ≡ c.close_gap.new.places
items c = with_items_is (with_item c.self.inside.places c.in-Ok.place c.empty.result) c.close_gap.new.places (size c ∙ sym c.self.inside.places.ok.0)

pub invariant_of-self : goal.invariant_of-self
invariant_of-self c = rw (items c) (IsTable-remove c.self.inside.places.items c.close_gap.new.places c.self.inside.most c.args.a.0 c.in-Ok.place c.self.invariant (there c) (same c) c.close_gap.ensures.reached (size c))

pub returns-in-Ok-clause-keys : goal.returns-in-Ok-clause-keys
returns-in-Ok-clause-keys c b = rw (items c, ← c.self.view_is) (key_remove c.self.inside.places.items c.close_gap.new.places c.self.inside.most c.args.a.0 c.in-Ok.place b c.self.invariant.distinct (there c) (same c))

pub returns-in-Ok-clause-len : goal.returns-in-Ok-clause-len
returns-in-Ok-clause-len c = rw (items c, ← c.self.view_is) (length_remove c.self.inside.places.items c.close_gap.new.places c.self.inside.most c.args.a.0 c.in-Ok.place c.self.invariant.distinct (there c) (same c))

pub returns-in-Ok-clause-absent : goal.returns-in-Ok-clause-absent
returns-in-Ok-clause-absent c absent =
    absurd (place_absent c.self.inside.places.items c.self.inside.most c.args.a.0 c.in-Ok.place c.self.invariant.distinct (there c) (subst (λ (v : Index). key_in v c.args.a.0 ≡ None) (sym c.self.view_is) absent))
