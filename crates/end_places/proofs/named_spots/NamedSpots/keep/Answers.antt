use Rattle.std.proofs.Common.{◌≡◌, List, ℕ, Bool, true, false, sym, ap, ◌∙◌}
use Rattle.std.specs.Str.{bytes_eq}
use Rattle.savi_ends.specs.Places.{Place}
use Rattle.savi_ends.proofs.Keys.{other_name}
use Rattle.savi_ends.proofs.FirstPlace.{first_is}
use Rattle.end_places.proofs.ManyPlaces.{set_here, set_other, absent}
use Rattle.end_places.proofs.named_spots.NamedSpots.keep.Goals as goal

pub unreachable-requires : goal.unreachable-requires
unreachable-requires g c =
    let none = absent c.args.name.now _ c.args.self.now.spots.items c.in-None.ensures c.deref.ensures.value in
    let clash : false ≡ true = sym (ap (λ (p : Place g.row.X.Denot). p.is_out) none) ∙ c.requires in
    cc

pub returns : goal.returns
returns g c =
    let test : List ℕ → Bool = λ key. bytes_eq key c.args.name.now in
    let items = c.args.self.now.spots.items in
    let i = c.in-Some.place in
    let p = c.index_mut.result.now in
    let here = first_is test _ items i p c.in-Some.ensures c.deref.ensures.value c.index_mut.ensures.value in
    record {
      kept = set_here items i p c.args.name.now _ here.within here.passes here.before;
      others = λ other differs. set_other items i p other _ here.within here.is (other_name p.0 c.args.name.now other here.passes differs);
    }
