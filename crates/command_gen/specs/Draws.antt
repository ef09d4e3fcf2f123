-- Numbers that are drawn one after another.
use Rattle.std.specs.Prelude.{ℕ, zero, suc, ◌+◌, ◌*◌, ◌/◌, ◌%◌, ◌^◌}

-- the state before the first draw
abbrev pub beginning : ℕ → ℕ
beginning number = number % 2 ^ 32

-- the state that a draw sets
abbrev pub next_state : ℕ → ℕ
next_state state = (1664525 * state + 1013904223) % 2 ^ 32

-- the state after so many draws
abbrev pub state_after : ℕ → ℕ → ℕ
state_after zero state = state
state_after (suc k) state = next_state (state_after k state)

-- what a state gives below n
abbrev pub below : ℕ → ℕ → ℕ
below n state = state / 65536 % n

-- the k-th draw after a state, counted from 1, below n
abbrev pub draw : ℕ → ℕ → ℕ → ℕ
draw n state k = below n (state_after k state)
