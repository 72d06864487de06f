-- Sources in memory: what a read gives is fixed by what is left and by the number of the read.
use Rattle.std.specs.Prelude.{ℕ, List, min, drop, if◌then◌else◌}
use Rattle.savi_ends.specs.declared.source.Got.{Got}
use Rattle.savi_ends.specs.declared.source.Got.TheVariants as got
use Rattle.savi_ends.specs.declared.mem_source.MemSource.{MemSource}
use Rattle.savi_ends.specs.declared.sure_source.SureSource.{SureSource}
use Rattle.savi_ends.specs.Counts.{next_count, is_listed}
use Rattle.savi_ends.specs.Pieces.{piece_of, count_given}

-- what is left, the greatest piece, the numbers of the reads that are to fail, and how many reads were
-- made and have failed
pub record SourceState : Type 0 where
  pub left : List ℕ
  pub most : ℕ
  pub fails : List ℕ
  pub reads : ℕ
  pub faults : ℕ

abbrev pub source_state : MemSource → SourceState
source_state s = record { left = drop s.at s.octets.items; most = s.most; fails = s.fails.items; reads = s.reads; faults = s.faults }

-- what is left in a source that never fails
abbrev pub sure_left : SureSource → List ℕ
sure_left s = drop s.at s.octets.items

-- what the next read into a buffer with this room gives: the read fails where its number is listed
abbrev pub next_read : SourceState → ℕ → Got
next_read s room = if is_listed (next_count s.reads) s.fails then got.Failed else piece_of s.left (min s.most room)

abbrev pub faults_after : Got → ℕ → ℕ
faults_after (got.Bytes n) faults = faults
faults_after got.End faults = faults
faults_after got.Failed faults = next_count faults

-- A read counts, and what it gave is no longer left.
abbrev pub after_read : SourceState → Got → SourceState
after_read s result = record s { left = drop (count_given result) s.left; reads = next_count s.reads; faults = faults_after result s.faults }
