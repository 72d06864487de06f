-- One output after another is handed out of its place.
use Rattle.std.proofs.Common.{◌≡◌, ◌≢◌, ℕ, ◌<◌, true, false, List, [], ◌∷◌, ◌++◌, length, get_or, IfSome, refl, sym, ap, subst, ◌∙◌, arith, inl, inr, ◌⊎◌, length-append}
use Rattle.std.proofs.lemmas.Bool.{cases_Bool}
use Rattle.std.proofs.lemmas.List.{get_or_append_left, get_or_at}
use Rattle.std.proofs.lemmas.List.Elements.{All-push}
use Rattle.std.proofs.lemmas.Slice.Eq.{bytes_eq-Decides}
use Rattle.std.specs.Prelude.{All}
use Rattle.std.specs.Str.{bytes_eq}
use Rattle.savi_ends.specs.Places.{Place, Book, OthersStay, IsReady}
use Rattle.pcap_split.specs.declared.output.Output.{Output}
use Rattle.split_run.specs.Names.{name_in, AreNamesApart}
use Rattle.split_run.specs.Steps.{IsOut, AreOut}

-- what holds of all holds of those in front and of the last
pub all_front : {X : Type 0} (P : X → Type 0) (xs : List X) (y : X) → All P (xs ++ y ∷ []) → All P xs
all_front {X} P xs y all k d inside = subst P (get_or_append_left xs (y ∷ []) d k inside) (all k d (omega (arith, inside, length-append xs (y ∷ []))))

pub all_last : {X : Type 0} (P : X → Type 0) (xs : List X) (y : X) → All P (xs ++ y ∷ []) → P y
all_last {X} P xs y all = subst P (get_or_at xs y [] y (length xs) refl) (all (length xs) y (omega (arith, length-append xs (y ∷ []))))

-- a name is another one, or it isn't
cases_by : (a b : List ℕ) → (bytes_eq a b ≡ true) ⊎ (bytes_eq a b ≡ false) → (a ≡ b) ⊎ (a ≢ b)
cases_by a b (inl same) = inl ((bytes_eq-Decides a b).0 same)
cases_by a b (inr other) = inr (λ e. let t : bytes_eq a b ≡ true = (bytes_eq-Decides a b).1 e in cc)

pub cases_name : (a b : List ℕ) → (a ≡ b) ⊎ (a ≢ b)
cases_name a b = cases_by a b (cases_Bool (bytes_eq a b))

-- the name of an interface that is none of these is none of theirs
pub names_away : {K : Type 0} (names : List (List ℕ)) (handed : List (Output K)) (interface : ℕ) → length names ≡ 16 → AreNamesApart names → All (λ o. o.interface < 16) handed → interface < 16 → All (λ o. o.interface ≢ interface) handed → All (λ o. name_in names o.interface ≢ name_in names interface) handed
names_away names handed interface count apart low here others k d inside same =
    others k d inside (apart (get_or handed k d).interface interface (omega (arith, low k d inside, count)) (omega (arith, here, count)) same)

pub out_none : {S K C : Type 0} (name : ℕ → List ℕ) (book : Book S K C) → AreOut name [] book book
out_none {S} {K} {C} name book = record {
  each = λ k d inside. absurd (omega (arith, inside));
  others = λ other off. refl;
  rest = refl;
}

module _ {S K C : Type 0} (name : ℕ → List ℕ) (handed : List (Output K)) (interface : ℕ) (old mid : Book S K C)
    (so_far : AreOut name handed old mid) (away : All (λ o. name o.interface ≢ name interface) handed) where
  -- the next place is as it was
  pub next_place : mid.outputs (name interface) ≡ old.outputs (name interface)
  next_place = so_far.others (name interface) away

  pub next_ready : (IsFresh : K → Type 0) → ((other : List ℕ) → IsReady IsFresh (old.outputs other)) → IsReady IsFresh (mid.outputs (name interface))
  next_ready IsFresh ready = subst (λ (p : Place K). IsReady IsFresh p) (sym next_place) (ready (name interface))

  module _ (new : Book S K C) (stay : OthersStay mid.outputs new.outputs (name interface)) (rest : new ≡ record mid { faults = new.faults; outputs = new.outputs }) where
    still_out : All (λ o. IsOut (old.outputs (name o.interface)) (new.outputs (name o.interface)) o.sink) handed
    still_out k d inside =
        let o = get_or handed k d in
        subst (λ (p : Place K). IsOut (old.outputs (name o.interface)) p o.sink) (sym (stay (name o.interface) (away k d inside))) (so_far.each k d inside)

    rest_too : new ≡ record old { faults = new.faults; outputs = new.outputs }
    rest_too = rest ∙ ap (λ (b : Book S K C). record b { faults = new.faults; outputs = new.outputs }) so_far.rest

    -- one more is handed out
    pub out_more : (sink : K) → IsOut (mid.outputs (name interface)) (new.outputs (name interface)) sink → AreOut name (handed ++ record { interface = interface; sink = sink } ∷ []) old new
    out_more sink is =
        let o : Output K = record { interface = interface; sink = sink } in
        record {
          each = All-push (λ (q : Output K). IsOut (old.outputs (name q.interface)) (new.outputs (name q.interface)) q.sink) handed o still_out
              (record { out = is.out; told = subst (λ (p : Place K). IfSome p.stands (λ told. sink ≡ told)) next_place is.told });
          others = λ other off.
              stay other (λ same. all_last (λ (q : Output K). name q.interface ≢ other) handed o off (sym same))
              ∙ so_far.others other (all_front (λ (q : Output K). name q.interface ≢ other) handed o off);
          rest = rest_too;
        }

    -- none more is, where the opening failed
    pub out_still : new.outputs (name interface) ≡ mid.outputs (name interface) → AreOut name handed old new
    out_still same = record {
      each = still_out;
      others = λ other off. by other (cases_name other (name interface)) ∙ so_far.others other off;
      rest = rest_too;
    }
      where
        by : (other : List ℕ) → (other ≡ name interface) ⊎ (other ≢ name interface) → new.outputs other ≡ mid.outputs other
        by other (inl here) = ap new.outputs here ∙ same ∙ ap mid.outputs (sym here)
        by other (inr elsewhere) = stay other elsewhere
