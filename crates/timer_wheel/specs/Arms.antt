-- What is armed: pairs of an address and the moment at which it is due, in rising order of address.
use Rattle.std.specs.Prelude.{ℕ, ◌==◌, nat_le, Bool, if◌then◌else◌, Option, None, Some, List, [], ◌∷◌, ◌++◌, filter}
use Rattle.savi_kinds.specs.declared.address.Addr.{Addr}
use Rattle.savi_kinds.specs.Orders.{is_below, is_above}
use Rattle.timer_wheel.specs.declared.armed.Armed.{Armed}

-- the pairs that are armed, in rising order of address, and how many there may be
pub record Wheel : Type 0 where
  pub arms : List Armed
  pub most : ℕ

-- the address of a pair as a number
abbrev pub armed_address : Armed → ℕ
armed_address armed = armed.address.0

-- whether a pair is that of an address
abbrev pub is_of : ℕ → Armed → Bool
is_of a armed = armed.address.0 == a

-- the moment at which an address is due
abbrev pub due_in : List Armed → ℕ → Option ℕ
due_in [] a = None
due_in (armed ∷ arms) a = if is_of a armed then Some armed.due else due_in arms a

-- the pair of an address: one, or none where nothing is due
abbrev pub pair_for : ℕ → Option ℕ → List Armed
pair_for a None = []
pair_for a (Some due) = record { address = record { 0 = a }; due = due } ∷ []

-- the pairs once an address is due at this moment, or at none: the lower ones, its own, the higher ones
abbrev pub with_due : ℕ → Option ℕ → List Armed → List Armed
with_due a due arms = filter (is_below armed_address a) arms ++ (pair_for a due ++ filter (is_above armed_address a) arms)

-- which is due sooner: this pair, whose address is the lower one, or the other
abbrev pub sooner : Armed → Option (ℕ × Addr) → Option (ℕ × Addr)
sooner armed None = Some (armed.due, armed.address)
sooner armed (Some other) = if nat_le armed.due other.0 then Some (armed.due, armed.address) else Some other

-- what is due first, the least by moment and then by address
abbrev pub first_armed : List Armed → Option (ℕ × Addr)
first_armed [] = None
first_armed (armed ∷ arms) = sooner armed (first_armed arms)

-- it, where its moment isn't after t
abbrev pub due_within : ℕ → Option (ℕ × Addr) → Option (ℕ × Addr)
due_within t None = None
due_within t (Some first) = if nat_le first.0 t then Some first else None

-- the pairs without the one that was taken, if any was
abbrev pub without_taken : Option (ℕ × Addr) → List Armed → List Armed
without_taken None arms = arms
without_taken (Some taken) arms = with_due taken.1.0 None arms
