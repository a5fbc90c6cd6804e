-- The halves of a stretch of a quadratic (de Casteljau's step), as its Bezier coefficients there.
use Rattle.std.specs.Prelude.{◌≡◌, ◌⊎◌, ◌+◌, ◌*◌, ℤ, pos, ◌+ℤ◌, ◌*ℤ◌, ◌<ℤ◌, ◌≤ℤ◌}
use Rattle.curve_join.specs.declared.touch.Stretch.{Stretch}

-- four times the quadratic's value in the middle of the stretch
abbrev pub middle_value : Stretch → ℤ
middle_value s = (s.start +ℤ s.between) +ℤ (s.between +ℤ s.end)

-- the coefficients on the first half of the stretch, times four
pub record IsFirstHalf (s half : Stretch) : Type 0 where
  pub last : half.last ≡ 2 * s.last
  pub start : half.start ≡ pos 4 *ℤ s.start
  pub between : half.between ≡ pos 2 *ℤ (s.start +ℤ s.between)
  pub end : half.end ≡ middle_value s

-- the coefficients on the second half of the stretch, times four
pub record IsSecondHalf (s half : Stretch) : Type 0 where
  pub last : half.last ≡ 2 * s.last + 1
  pub start : half.start ≡ middle_value s
  pub between : half.between ≡ pos 2 *ℤ (s.between +ℤ s.end)
  pub end : half.end ≡ pos 4 *ℤ s.end

-- the second half if the quadratic is above 0 in the middle, else the first half
abbrev pub IsHalf : Stretch → Stretch → Type 0
IsHalf s half = ((middle_value s ≤ℤ pos 0) × IsFirstHalf s half)
    ⊎ ((pos 0 <ℤ middle_value s) × IsSecondHalf s half)
