-- How much may still fall due in a state: what ageing takes off one by one, so that it ends.
use Rattle.std.specs.Prelude.{ℕ, ◌+◌, true, false, Option, Some, None, List, [], ◌∷◌}
use Rattle.fcfs_states.specs.declared.state.Fcfs.{Fcfs}
use Rattle.fcfs_states.specs.declared.state.Fcfs.TheVariants.{NoBind, Tentative, Valid, TestLt, TestVp}
use Rattle.mix_rules.specs.declared.state.AddrState.{AddrState}
use Rattle.mix_rules.specs.Ageing.{bound_end}
use Rattle.savi_access.specs.declared.row.Row.{Row}

-- by first come: so many lines of the ageing table may follow
abbrev pub steps_left : Fcfs → ℕ
steps_left NoBind = 0
steps_left (TestLt p since false) = 1
steps_left (TestLt p since true) = 2
steps_left (Valid p until) = 3
steps_left (Tentative p since false) = 4
steps_left (Tentative p since true) = 5
steps_left (TestVp p q since false) = 4
steps_left (TestVp p q since true) = 5

-- by DHCP: a binding that has an end may end
abbrev pub ends_left : Option ℕ → ℕ
ends_left None = 0
ends_left (Some end) = 1

abbrev pub turns_of : AddrState → ℕ
turns_of s = steps_left s.fcfs + ends_left (bound_end s.dhcp)

-- the same for all rows
abbrev pub turns_left : List Row → ℕ
turns_left [] = 0
turns_left (row ∷ rows) = turns_of row.state + turns_left rows
