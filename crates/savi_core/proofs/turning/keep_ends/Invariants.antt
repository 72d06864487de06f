use Rattle.std.proofs.Common.{◌≡◌, None}
use Rattle.std.specs.Prelude.{slice_index_or}
use Rattle.savi_segments.specs.Checkpoints.{up_to, ends_of}
use Rattle.savi_core.specs.Turns.{with_ends}
use Rattle.savi_core.proofs.turning.keep_ends.Given as goal

abbrev pub invariant-loop-pass : goal.invariant-loop-pass
invariant-loop-pass l = l.into ≡ with_ends (ends_of (λ pass. slice_index_or l.ends.ends pass None) (up_to l.pass)) l.fn.into
