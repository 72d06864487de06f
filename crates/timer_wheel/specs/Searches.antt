-- What is found in the rings of a wheel.
use Rattle.std.specs.Prelude.{ℕ, ◌≡◌, ◌≢◌, ◌≤◌, ◌<◌, true, Option, None, Some, List, slice_index}
use Rattle.timer_wheel.specs.declared.armed.Armed.{Armed}
use Rattle.timer_wheel.specs.Rows.{armed_at}
use Rattle.timer_wheel.specs.Rings.{is_node, bucket_at, bucket_of, rank_at, rank_of}

-- a pair belongs right behind this node: it is of the pair's bucket and of lower rank, and what is behind it is higher or
-- the end
pub record GoesBehind (slots : List (Option Armed)) (later : List ℕ) (armed : Armed) (node : ℕ) : Type 0 where
  pub there : is_node slots node ≡ true
  pub bucket : bucket_at slots node ≡ bucket_of armed
  pub above : rank_at slots node < rank_of armed
  pub below : rank_at slots (slice_index later node) ≢ 0 → rank_of armed < rank_at slots (slice_index later node)

-- a pair is in a row
pub record IsInRow (slots : List (Option Armed)) (armed : Armed) : Type 0 where
  pub key : ℕ
  pub there : armed_at slots key ≡ Some armed

-- it is the least of those rows that are such
pub record IsSoonestOf (slots : List (Option Armed)) (IsSuch : Armed → Type 0) (least : Armed) : Type 0 where
  pub row : IsInRow slots least
  pub lowest : (key : ℕ) (armed : Armed) → armed_at slots key ≡ Some armed → IsSuch armed → rank_of least ≤ rank_of armed

-- the least of the rows that are such, or None where none is
abbrev pub LeastOf : List (Option Armed) → (Armed → Type 0) → Option Armed → Type 0
LeastOf slots IsSuch None = (key : ℕ) (armed : Armed) → armed_at slots key ≡ Some armed → IsSuch armed → ⊥
LeastOf slots IsSuch (Some least) = IsSoonestOf slots IsSuch least
