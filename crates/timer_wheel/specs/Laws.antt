-- The laws on pairs that are armed.
use Rattle.std.specs.Prelude.{ℕ, ◌≡◌, ◌==◌, false, if◌then◌else◌, Option, Some, List}
use Rattle.timer_wheel.specs.declared.armed.Armed.{Armed}
use Rattle.savi_kinds.specs.Orders.{IsRising, is_due_before}
use Rattle.timer_wheel.specs.Arms.{armed_address, due_in, with_due, first_armed}

-- What is due first is the least pair, by moment and then by address.
abbrev pub FirstIsLeast : Type 0
FirstIsLeast = (arms : List Armed) (a due : ℕ) → IsRising armed_address arms → due_in arms a ≡ Some due → ((b other : ℕ) → due_in arms b ≡ Some other → is_due_before other b due a ≡ false) → first_armed arms ≡ Some (due, record { 0 = a })

-- Arming and canceling change what is due for the one address, and the pairs stay in rising order of address.
pub record ChangesOneAddress : Type 0 where
  pub due : (a b : ℕ) (due : Option ℕ) (arms : List Armed) → due_in (with_due a due arms) b ≡ (if a == b then due else due_in arms b)
  pub rising : (a : ℕ) (due : Option ℕ) (arms : List Armed) → IsRising armed_address arms → IsRising armed_address (with_due a due arms)

-- Pairs in rising order of address are told by what is due for each address.
abbrev pub PairsAreOneList : Type 0
PairsAreOneList = (arms others : List Armed) → IsRising armed_address arms → IsRising armed_address others → ((a : ℕ) → due_in arms a ≡ due_in others a) → arms ≡ others
