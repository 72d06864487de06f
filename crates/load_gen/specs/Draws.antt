-- The numbers that a load is made of, drawn from a seed by a linear congruential generator.
use Rattle.std.specs.Prelude.{ℕ, suc, zero, ◌+◌, ◌*◌, ◌/◌, ◌%◌, ◌^◌}

-- one step of the generator
abbrev pub next_draw : ℕ → ℕ
next_draw x = (1103515245 * x + 12345) % 2 ^ 31

-- its state behind so many draws, the first of which starts from the seed
unfoldable pub state_after : ℕ → ℕ → ℕ
state_after seed zero = seed
state_after seed (suc n) = next_draw (state_after seed n)

-- draw n, counted from 0: the state behind it, without its low 16 bits
abbrev pub draw : ℕ → ℕ → ℕ
draw seed n = state_after seed (n + 1) / 65536
