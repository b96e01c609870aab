-- The numbers that are drawn for a demonstration, from a seed. Source: this project's own; the generator is linear and congruential (Knuth, The Art of Computer Programming, volume 2).
use Rattle.std.specs.Prelude.{ℕ, zero, suc, ◌+◌, ◌*◌, ◌/◌, ◌%◌, ◌^◌}

-- the state behind a state
unfoldable pub next_state : ℕ → ℕ
next_state x = (1103515245 * x + 12345) % 2 ^ 31

-- the state so many steps behind a state
abbrev pub state_after : ℕ → ℕ → ℕ
state_after zero x = x
state_after (suc n) x = next_state (state_after n x)

-- the number of a state, below a bound
abbrev pub number_below : ℕ → ℕ → ℕ
number_below bound x = x / 65536 % bound

-- the n-th number drawn behind a state, counted from 1, below a bound
abbrev pub drawn_below : ℕ → ℕ → ℕ → ℕ
drawn_below bound n x = number_below bound (state_after n x)
