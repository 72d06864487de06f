-- The rows of a wheel: each pair in a slot of a slab, under its key.
use Rattle.std.specs.Prelude.{ℕ, ◌+◌, ◌*◌, ◌^◌, if◌then◌else◌, Option, None, Some, List, [], ◌∷◌, map, get_or}
use Rattle.slab.specs.Slab.{Slab}
use Rattle.timer_wheel.specs.declared.armed.Armed.{Armed}
use Rattle.timer_wheel.specs.Arms.{is_of, with_due}

-- the pairs in these slots, in rising order of address
abbrev pub arms_in : List (Option Armed) → List Armed
arms_in [] = []
arms_in (None ∷ slots) = arms_in slots
arms_in (Some armed ∷ slots) = with_due armed.address.0 (Some armed.due) (arms_in slots)

-- the pair of an address, given by its upper and its lower 64 bits, and a moment
abbrev pub armed_of : ℕ → ℕ → ℕ → Armed
armed_of high low due = record { address = record { 0 = high * 2 ^ 64 + low }; due = due }

-- the row under a key
abbrev pub armed_at : List (Option Armed) → ℕ → Option Armed
armed_at slots key = get_or slots key None

-- a row, if it isn't that of an address
abbrev pub other_than : ℕ → Option Armed → Option Armed
other_than a None = None
other_than a (Some armed) = if is_of a armed then None else Some armed

-- the rows of other addresses, each under its key
abbrev pub others_than : ℕ → Slab Armed → Slab Armed
others_than a rows = record { slots = map (other_than a) rows.slots; vacant_key = rows.vacant_key; capacity = rows.capacity }
