-- Octets in front of what a source has left and behind what a sink has written, where these are told.
use Rattle.std.specs.Prelude.{◌≡◌, ℕ, List, [], ◌++◌, Option, Some, None, IfSome}

-- octets in front of what is left, where that is told
abbrev pub in_front : List ℕ → Option (List ℕ) → Option (List ℕ)
in_front octets None = None
in_front octets (Some rest) = Some (octets ++ rest)

-- octets behind what was written, where that is told
abbrev pub behind : Option (List ℕ) → List ℕ → Option (List ℕ)
behind None octets = None
behind (Some written) octets = Some (written ++ octets)

-- the first octets of a whole, perhaps none or all
abbrev pub IsFront : List ℕ → List ℕ → Type 0
IsFront front whole = (rest : List ℕ) × (whole ≡ front ++ rest)

-- these octets were taken from the front of what was left, where that is told
abbrev pub Takes : Option (List ℕ) → Option (List ℕ) → List ℕ → Type 0
Takes before after gave = before ≡ in_front gave after

-- nothing is left, where what is left is told
abbrev pub NothingLeft : Option (List ℕ) → Type 0
NothingLeft left = IfSome left (λ rest. rest ≡ [])
