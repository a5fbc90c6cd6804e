-- The generator of the demo's numbers. It is a linear congruential one (Press, Teukolsky, Vetterling and Flannery,
-- "Numerical Recipes in C", 1992, section 7.1), and a number is the upper half of a state.
use Rattle.std.specs.Prelude.{ℕ, zero, suc, ◌+◌, ◌*◌, ◌/◌, ◌%◌, ◌^◌}

-- the state after a draw
unfoldable pub next_state : ℕ → ℕ
next_state state = (state * 1664525 + 1013904223) % 2 ^ 32

-- the number that is drawn in a state
abbrev pub number_at : ℕ → ℕ
number_at state = next_state state / 65536

-- the state after this number of draws
unfoldable pub state_after : ℕ → ℕ → ℕ
state_after zero state = state
state_after (suc draws) state = next_state (state_after draws state)
