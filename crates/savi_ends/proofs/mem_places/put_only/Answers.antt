use Rattle.std.proofs.Common.{◌≡◌, List, ℕ, true, false, sym, ap, ◌∙◌}
use Rattle.std.specs.Str.{bytes_eq}
use Rattle.savi_ends.specs.Places.{Place, IsOnlyOut}
use Rattle.savi_ends.specs.MemPlaces.{named_places}
use Rattle.savi_ends.proofs.Keys.{other_name}
use Rattle.savi_ends.proofs.OnlyOut.{only_first}
use Rattle.savi_ends.proofs.FirstPlace.{IsFirst, is_out-full, first_place-set, first_place-set_other, keys_of-set}
use Rattle.savi_ends.proofs.mem_places.put_only.Goals as goal

pub unreachable-requires : goal.unreachable-requires
unreachable-requires g c =
    let none = is_out-full (λ (key : List ℕ). bytes_eq key c.requires.only.0) _ c.args.places.now.items c.in-None.ensures c.deref.ensures.value in
    let clash : false ≡ true = sym none ∙ c.requires.only.1.this in
    cc

pub returns : goal.returns
returns g c =
    let items = c.args.places.now.items in
    let i = c.in-Some.i in
    let p = c.index_mut.result.now in
    let first : (name : List ℕ) → IsOnlyOut (named_places items) name → IsFirst (λ key. bytes_eq key name) items i p =
    λ name only. only_first _ items i p name c.requires.differ only c.in-Some.ensures c.deref.ensures.value c.index_mut.ensures.value in
    let here = first c.requires.only.0 c.requires.only.1 in
    record {
      kept = λ name only. ap (λ (place : Place g.row.X.Denot). place.stands) (first_place-set (λ (key : List ℕ). bytes_eq key name) items i p _ (first name only));
      others = λ name only other differs. first_place-set_other (λ (key : List ℕ). bytes_eq key other) items i p _ here.within here.is (other_name p.0 name other (first name only).passes differs);
      keys = keys_of-set items i p _ here.within here.is;
    }
