-- Places that may be opened, for those who make a world in memory.
use Rattle.std.proofs.Common.{◌≡◌, ℕ, Bool, true, false, cond, List, [], ◌∷◌, ◌++◌, Option, Some, None, is_none, ◌==◌, IsSome, IsSomeAnd, All, refl, ap, ◌∙◌}
use Rattle.std.specs.Str.{bytes_eq}
use Rattle.std.proofs.lemmas.List.Elements.{All-nil, All-head, All-tail, All-push, All-same}
use Rattle.savi_kinds.specs.declared.port.Port.{Port}
use Rattle.savi_kinds.specs.Ports.{number_of}
use Rattle.savi_ends.specs.declared.world.Std.{Std}
use Rattle.savi_ends.specs.declared.world.Std.TheVariants as std
use Rattle.savi_ends.specs.declared.mem_world.MemWorld.{MemWorld}
use Rattle.savi_ends.specs.Places.{Place, OthersStay, IsOnlyOut, IsReady, HandedNothing}
use Rattle.savi_ends.specs.MemPlaces.{place_holding, first_place, named_places, numbered_places}
use Rattle.savi_ends.specs.MemWorlds.{book_of, std_place}
use Rattle.savi_ends.specs.FreshWorlds.{IsFreshWorld, source_faults, sink_faults}

-- a place that holds a fresh end
pub ready_place : {X : Type 0} (IsFresh : X → Type 0) (o : Option X) → IsSomeAnd o IsFresh → IsReady IsFresh (place_holding o)
ready_place IsFresh None full = absurd full
ready_place IsFresh (Some x) full = record { here = refl; fresh = full }

ready_case : {X : Type 0} (IsFresh : X → Type 0) (b : Bool) (o : Option X) (place : Place X) → IsSomeAnd o IsFresh → IsReady IsFresh place → IsReady IsFresh (cond b (place_holding o) place)
ready_case IsFresh true o place full rest = ready_place IsFresh o full
ready_case IsFresh false o place full rest = rest

-- any place of a list in which each place holds a fresh end
pub ready_first : {Key X : Type 0} (IsFresh : X → Type 0) (test : Key → Bool) (places : List (Key × Option X)) → All (λ p. IsSomeAnd p.1 IsFresh) places → IsReady IsFresh (first_place test places)
ready_first IsFresh test [] all = record { here = refl; fresh = tt }
ready_first {Key} {X} IsFresh test (p ∷ places) all =
    let Full : Key × Option X → Type 0 = λ q. IsSomeAnd q.1 IsFresh in
    ready_case IsFresh (test p.0) p.1 (first_place test places) (All-head Full p places all) (ready_first IsFresh test places (All-tail Full p places all))

pub ready_names : {X : Type 0} (IsFresh : X → Type 0) (places : List (List ℕ × Option X)) (name : List ℕ) → All (λ p. IsSomeAnd p.1 IsFresh) places → IsReady IsFresh (named_places places name)
ready_names IsFresh places name all = ready_first IsFresh (λ (key : List ℕ). bytes_eq key name) places all

pub ready_ports : {X : Type 0} (IsFresh : X → Type 0) (places : List (Port × Option X)) (n : ℕ) → All (λ p. IsSomeAnd p.1 IsFresh) places → IsReady IsFresh (numbered_places places n)
ready_ports IsFresh places n all = ready_first IsFresh (λ (p : Port). number_of p == n) places all

pub ready_std : {X : Type 0} (IsFresh : X → Type 0) (out err : Option X) (which : Std) → IsSomeAnd out IsFresh → IsSomeAnd err IsFresh → IsReady IsFresh (std_place out err which)
ready_std IsFresh out err std.Out o e = ready_place IsFresh out o
ready_std IsFresh out err std.Err o e = ready_place IsFresh err e

-- a list to which nothing was pushed yet, and one push more
pub none_yet : {X : Type 0} (P : X → Type 0) (xs : List X) → xs ≡ [] → All P xs
none_yet P xs empty = All-same P xs [] empty (All-nil P)

pub pushed : {X : Type 0} (P : X → Type 0) (old new : List X) (x : X) → new ≡ old ++ x ∷ [] → All P old → P x → All P new
pushed P old new x is all here = All-same P new (old ++ x ∷ []) is (All-push P old x all here)

there : {X : Type 0} (o : Option X) → IsSome o → is_none o ≡ false
there None some = cc
there (Some x) some = refl

-- a fresh world has handed out nothing
pub handed_nothing : (w : MemWorld) → IsFreshWorld w → HandedNothing source_faults sink_faults (book_of w)
handed_nothing w fresh = record {
  faults = fresh.faulty;
  inputs = λ name. ready_names _ w.inputs.items name fresh.inputs;
  outputs = λ name. ready_names _ w.outputs.items name fresh.outputs;
  ports = λ key. ready_ports _ w.ports.items key.number fresh.ports;
  control = λ key. ready_place _ w.control fresh.control;
  ticker = there w.ticker fresh.ticker;
  std = λ which. ready_std _ w.out w.err which fresh.out fresh.err;
}

-- what is opened first is the only one that is handed out
pub opened_alone : {X : Type 0} (IsFresh : X → Type 0) (old new : List ℕ → Place X) (name : List ℕ) → ((other : List ℕ) → IsReady IsFresh (old other)) → OthersStay old new name → (new name).is_out ≡ true → IsOnlyOut new name
opened_alone {X} IsFresh old new name ready stay out = record {
  this = out;
  alone = λ other differs. ap (λ (place : Place X). place.is_out) (stay other differs) ∙ (ready other).here;
}
