-- The pixels of a row, with white pixels after its end.
use Rattle.std.specs.Prelude.{ℕ, Bool, ◌&&◌, nat_lt}

-- the pixels of a row of this width, with white pixels after its end
abbrev pub padded : ℕ → (ℕ → Bool) → ℕ → Bool
padded width black x = nat_lt x width && black x
