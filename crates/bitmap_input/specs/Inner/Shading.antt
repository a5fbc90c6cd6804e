-- How the samples of a pixel become a black or a white pixel, in the program.
use Rattle.std.specs.Prelude.{◌≡◌, ℕ, ◌+◌, ◌*◌, Bool, List, min, nat_le, get_or}
use Rattle.bit_image.specs.Image.{differ}
use Rattle.bitmap_input.specs.Inner.ByteRuns.{cap}
use Rattle.bitmap_input.specs.Samples.{PixelSamples, is_wide, samples}
use Rattle.bitmap_input.specs.declared.channels.Channels.{Channels}
use Rattle.bitmap_input.specs.declared.channels.Channels.TheVariants.{Gray, Color}
use Rattle.bitmap_input.specs.declared.shading.Shading.{Shading}

-- the brightness of a pixel: the sum of its samples
abbrev pub brightness : (c : Channels) → PixelSamples c → ℕ
brightness Gray v = v
brightness Color (r, g, b) = r + g + b

-- the brightness of the pixel in column x, in a row of samples
abbrev pub brightness_at : Channels → List ℕ → ℕ → ℕ
brightness_at Gray vs x = get_or vs x 0
brightness_at Color vs x = get_or vs (3 * x) 0 + get_or vs (3 * x + 1) 0 + get_or vs (3 * x + 2) 0

-- the number is the brightness of a pixel, with each sample capped above any that can be black
abbrev pub IsCappedBrightness : (c : Channels) → ℕ → PixelSamples c → Type 0
IsCappedBrightness Gray x v = x ≡ min v cap
IsCappedBrightness Color x (r, g, b) = x ≡ min r cap + min g cap + min b cap

-- the sum of the three bytes at an index
abbrev pub bytes_sum : List ℕ → ℕ → ℕ
bytes_sum bytes at = get_or bytes at 0 + get_or bytes (at + 1) 0 + get_or bytes (at + 2) 0

-- whether a pixel with this brightness is black
abbrev pub is_black_at : Shading → ℕ → Bool
is_black_at s v = differ s.invert (nat_le v s.limit)

-- whether a pixel with these samples is black
abbrev pub black_of : (s : Shading) → PixelSamples s.channels → Bool
black_of s a = is_black_at s (brightness s.channels a)

-- whether the pixel in column x of a row of bytes is black
abbrev pub black_in_bytes : Shading → List ℕ → ℕ → Bool
black_in_bytes s row x = is_black_at s (brightness_at s.channels (samples (is_wide s.maxval) row) x)
