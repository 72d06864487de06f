-- What is in boxes: a list of them is as the list of what is in them.
use Rattle.std.proofs.Common.{◌≡◌, List, [], ◌∷◌, ◌++◌, refl, sym, ap, ◌∙◌, Option, Some, None}
use Rattle.std.specs.Prelude.{⊤, MatchOption, box_value}
use Rattle.std.specs.Global.{Global}
use Rattle.std.specs.declared.boxed.Box.{Box}
use Rattle.std.proofs.lemmas.List.{length-map, map-append}
use mathlib.Core.List.{IsPrefix}
use Rattle.crossbeam_queue.specs.Fifo.{Held}
use Rattle.intake_ring.specs.Order.{WerePut}
use Rattle.parcel_ring.specs.Handed.{Handed}
use Rattle.parcel_ring.specs.Sides.{contents}

contents_append : (xs ys : List (Box Handed Global)) → contents (xs ++ ys) ≡ contents xs ++ contents ys
contents_append xs ys = map-append (λ (box : Box Handed Global). box_value box) xs ys

-- one box more, with this in it
one_more : (old new : List (Box Handed Global)) (box : Box Handed Global) (x : Handed) → new ≡ old ++ box ∷ [] → box_value box ≡ x
    → contents new ≡ contents old ++ x ∷ []
one_more old new box x more is =
    ap contents more ∙ contents_append old (box ∷ []) ∙ ap (λ (y : Handed). contents old ++ y ∷ []) is

-- the same behind what was there before
pub one_behind : (old mid new : List (Box Handed Global)) (box : Box Handed Global) (x : Handed) → mid ≡ old → new ≡ mid ++ box ∷ [] → box_value box ≡ x
    → contents new ≡ contents old ++ x ∷ []
one_behind old mid new box x same more is = one_more old new box x (more ∙ ap (λ (l : List (Box Handed Global)). l ++ box ∷ []) same) is

-- a prefix stays one
pub prefix_of : (taken put : List (Box Handed Global)) → IsPrefix taken put → IsPrefix (contents taken) (contents put)
prefix_of taken put prefix = (contents prefix.0, sym (contents_append taken prefix.0) ∙ ap contents prefix.1)

-- an empty ring stays one
held_none : (taken : List (Box Handed Global)) → Held 0 (WerePut taken) → Held 0 (WerePut (contents taken))
held_none taken held = (
  contents held.0,
  length-map held.0 (λ (box : Box Handed Global). box_value box) ∙ held.1,
  (contents held.2.0, ap contents held.2.1 ∙ contents_append taken held.0),
)

-- what a taken box says, and what nothing says
pub taken_more : (old new : List (Box Handed Global)) (result : Option (Box Handed Global)) → MatchOption result (new ≡ old) (λ box. new ≡ old ++ box ∷ [])
    → MatchOption result (contents new ≡ contents old) (λ box. contents new ≡ contents old ++ box_value box ∷ [])
taken_more old new None same = ap contents same
taken_more old new (Some box) more = one_more old new box (box_value box) more refl

pub taken_none : (taken : List (Box Handed Global)) (result : Option (Box Handed Global)) → MatchOption result (Held 0 (WerePut taken)) (λ box. ⊤)
    → MatchOption result (Held 0 (WerePut (contents taken))) (λ box. ⊤)
taken_none taken None held = held_none taken held
taken_none taken (Some box) any = any
