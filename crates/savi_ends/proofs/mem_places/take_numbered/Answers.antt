use Rattle.std.proofs.Common.{◌≡◌, ◌==◌, Bool, Option, is_none, set, sym, ap, ◌∙◌}
use Rattle.savi_kinds.specs.declared.port.Port.{Port}
use Rattle.savi_kinds.specs.Ports.{number_of}
use Rattle.savi_ends.specs.Places.{Place}
use Rattle.savi_ends.proofs.Keys.{other_number}
use Rattle.savi_ends.proofs.Options.{on_some, if_none_never}
use Rattle.savi_ends.proofs.FirstPlace.{first_is, first_place-found, first_place-set, first_place-set_other, keys_of-set, first_place-absent}
use Rattle.savi_ends.proofs.mem_places.take_numbered.Goals as goal

pub returns-in-Some : goal.returns-in-Some
returns-in-Some g c =
    let test : Port → Bool = λ key. number_of key == number_of c.args.n in
    let items = c.args.places.now.items in
    let i = c.in-Some.i in
    let p = c.index_mut.result.now in
    let here = first_is test _ items i p c.in-Some.ensures c.deref.ensures.value c.index_mut.ensures.value in
    record {
      taken = c.take.ensures.value ∙ sym (ap (λ (place : Place g.row.X.Denot). place.stands) (first_place-found test items i p here));
      out = on_some _ _ (ap (λ (place : Place g.row.X.Denot). place.is_out) (first_place-set test items i p _ here) ∙ ap (λ (o : Option g.row.X.Denot). is_none o) c.take.ensures.after);
      none = if_none_never c.take.result (set items i (p.0, c.take.new.self) ≡ items) (ap (λ (o : Option g.row.X.Denot). is_none o) c.take.ensures.value ∙ sym (ap (λ (place : Place g.row.X.Denot). place.is_out) (first_place-found test items i p here)) ∙ c.requires);
      others = λ other differs. first_place-set_other (λ (key : Port). number_of key == other) items i p _ here.within here.is (other_number (number_of p.0) (number_of c.args.n) other here.passes differs);
      keys = keys_of-set items i p _ here.within here.is;
    }

pub returns-in-None-clause-taken : goal.returns-in-None-clause-taken
returns-in-None-clause-taken g c =
    sym (ap (λ (p : Place g.row.X.Denot). p.stands) (first_place-absent (λ (key : Port). number_of key == number_of c.args.n) _ c.args.places.now.items c.in-None.ensures c.deref.ensures.value))
