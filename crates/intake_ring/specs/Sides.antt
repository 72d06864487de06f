-- What clauses see of the two ends of a ring.
use Rattle.std.specs.Prelude.{◌≡◌, List}
use Rattle.atomic_table.specs.Seated.{TableId}
use Rattle.crossbeam_queue.specs.Passes.{view}
use Rattle.intake_ring.specs.declared.filler.Filler.{Filler}
use Rattle.intake_ring.specs.declared.taker.Taker.{Taker}

module _ {T : Type 0} where
  -- which ring it is an end of
  abbrev pub filler_ring : Filler T → TableId
  filler_ring filler = filler.pass.table_id

  abbrev pub taker_ring : Taker T → TableId
  taker_ring taker = taker.pass.table_id

  -- the two ends of one ring
  abbrev pub ArePaired : Filler T → Taker T → Type 0
  ArePaired filler taker = filler_ring filler ≡ taker_ring taker

  -- all that was put so far, in order
  abbrev pub put_of : Filler T → List T
  put_of filler = (view filler.pass).put

  -- all that was taken so far, in order
  abbrev pub taken_of : Taker T → List T
  taken_of taker = (view taker.pass).taken
