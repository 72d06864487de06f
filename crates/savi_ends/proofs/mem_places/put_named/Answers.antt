use Rattle.std.proofs.Common.{◌≡◌, List, ℕ, Bool, true, false, sym, ap, ◌∙◌}
use Rattle.std.specs.Str.{bytes_eq}
use Rattle.savi_ends.specs.Places.{Place}
use Rattle.savi_ends.proofs.Keys.{other_name}
use Rattle.savi_ends.proofs.FirstPlace.{first_is, first_place-set, first_place-set_other, keys_of-set, first_place-absent}
use Rattle.savi_ends.proofs.mem_places.put_named.Goals as goal

pub unreachable-requires : goal.unreachable-requires
unreachable-requires g c =
    let none = first_place-absent (λ (key : List ℕ). bytes_eq key c.args.name.now) _ c.args.places.now.items c.in-None.ensures c.deref.ensures.value in
    let clash : false ≡ true = sym (ap (λ (p : Place g.row.X.Denot). p.is_out) none) ∙ c.requires in
    cc

pub returns : goal.returns
returns g c =
    let test : List ℕ → Bool = λ key. bytes_eq key c.args.name.now in
    let items = c.args.places.now.items in
    let i = c.in-Some.i in
    let p = c.index_mut.result.now in
    let here = first_is test _ items i p c.in-Some.ensures c.deref.ensures.value c.index_mut.ensures.value in
    record {
      kept = ap (λ (place : Place g.row.X.Denot). place.stands) (first_place-set test items i p _ here);
      others = λ other differs. first_place-set_other (λ (key : List ℕ). bytes_eq key other) items i p _ here.within here.is (other_name p.0 c.args.name.now other here.passes differs);
      keys = keys_of-set items i p _ here.within here.is;
    }
