use Rattle.savi_kinds.specs.ValidPlan.{numbers_of}
use Rattle.savi_core.proofs.PlaceTable.{HasPlaces}
use Rattle.savi_core.proofs.ports.places_of.Given as goal

abbrev pub invariant-loop-place : goal.invariant-loop-place
invariant-loop-place l = HasPlaces (numbers_of l.ports) l.place l.places
