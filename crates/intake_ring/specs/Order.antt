-- The rule of a ring: what was put is what was taken, and then what the ring holds. One end at most may put, and it knows all
-- that was put; one end at most may take, and it knows all that was taken.
use Rattle.std.specs.Prelude.{◌≡◌, ℕ, Bool, true, List, [], ◌∷◌, ◌++◌}
use mathlib.Core.Option.{some}
use lib.ListN.{get_elem?}
use Rattle.intake_ring.specs.declared.rule.Log.{Log}

module _ {T : Type 0} where
  abbrev pub log : Bool → Bool → List T → List T → Log T
  log puts takes put taken = record { puts = puts; takes = takes; put = put; taken = taken }

  -- one item more was put
  abbrev pub with_put : Log T → T → Log T
  with_put v x = log v.puts v.takes (v.put ++ x ∷ []) v.taken

  -- one item more was taken
  abbrev pub with_taken : Log T → T → Log T
  with_taken v x = log v.puts v.takes v.put (v.taken ++ x ∷ [])

  -- the end with this number may put only if it is the filler, and then it knows what was put; the same of the taker
  abbrev pub Fits : ℕ → ℕ → List T → List T → ℕ → Log T → Type 0
  Fits filler taker put taken number v =
      (v.puts ≡ true → (number ≡ filler) × (v.put ≡ put)) × (v.takes ≡ true → (number ≡ taker) × (v.taken ≡ taken))

  abbrev pub Keeps : List T → List (Log T) → Type 0
  Keeps items views =
      (filler : ℕ) × (taker : ℕ) × (put : List T) × (taken : List T) × (put ≡ taken ++ items)
      × ((number : ℕ) (v : Log T) → get_elem? views number ≡ some v → Fits filler taker put taken number v)

  -- behind what was taken, these items were put
  abbrev pub WerePut : List T → List T → Type 0
  WerePut taken items = (put : List T) × (put ≡ taken ++ items)
