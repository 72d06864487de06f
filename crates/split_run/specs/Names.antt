-- The names of the outputs.
use Rattle.std.specs.Prelude.{◌≡◌, ◌<◌, ℕ, List, [], ◌++◌, codes, decimal, length, slice_index_or}

-- the name of the output of an interface: FILE.K.pcap
abbrev pub output_name : List ℕ → ℕ → List ℕ
output_name file k = file ++ (codes "." ++ (decimal k ++ codes ".pcap"))

-- the name that stands at this place of a list
abbrev pub name_in : List (List ℕ) → ℕ → List ℕ
name_in names k = slice_index_or names k []

-- the names of the outputs of the interfaces 0 to 15
pub record AreNames (file : List ℕ) (names : List (List ℕ)) : Type 0 where
  pub count : length names ≡ 16
  pub each : (k : ℕ) → k < 16 → name_in names k ≡ output_name file k

-- no two of these names are the same
abbrev pub AreNamesApart : List (List ℕ) → Type 0
AreNamesApart names = (j k : ℕ) → j < length names → k < length names → name_in names j ≡ name_in names k → j ≡ k
