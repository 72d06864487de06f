-- What is told of the segments that are closed.
use Rattle.std.specs.Prelude.{◌≡◌, ℕ, List, filter, length}
use Rattle.std.specs.Option.{is_some}
use Rattle.savi_kinds.specs.declared.plan.Plan.{Plan}
use Rattle.savi_kinds.specs.declared.entry.Who.{Who}
use Rattle.savi_kinds.specs.declared.entry.How.{How}
use Rattle.hist_store.specs.Rows.{Row}
use Rattle.checkpoint.specs.Bases.{Base}
use Rattle.savi_history.specs.Endings.{ends_told}
use Rattle.savi_history.specs.Passes.{pass_count}
use Rattle.savi_history.specs.Summary.{capped}
use Rattle.savi_segments.specs.Checkpoints.{end_of, up_to}
use Rattle.savi_segments.specs.Segments.{joined}

-- so many entries these segments have, and passes ended there for good so, in order
pub record TellsOf (entries : ℕ) (ends : List (Who × How)) (segments : List (List Row)) : Type 0 where
  pub entries_are : entries ≡ capped (length (joined segments))
  pub ends_are : ends ≡ ends_told (joined segments)

-- how many passes of the plan have ended for good behind these rows
abbrev pub passes_over : Plan → Base → List Row → ℕ
passes_over plan base past = length (filter (λ pass. is_some (end_of base pass past)) (up_to (pass_count plan)))
