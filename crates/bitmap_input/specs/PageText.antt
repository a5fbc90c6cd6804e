-- The bytes of a page as a set of byte lists: the sets of its parts, joined one after another
-- (Netpbm's format pages "pbm", "pgm" and "ppm"; Microsoft's "Bitmap Storage").
use Rattle.std.specs.Prelude.{◌≡◌, ℕ, zero, suc, ◌-◌, ◌*◌, ◌≤◌, true, ◌⊎◌, List, [], ◌∷◌, ◌++◌, length, Some}
use Rattle.bitmap_input.specs.PageParts.{is_space, is_digit, value}
use Rattle.bitmap_input.specs.Sets.{AllBytes, IsGap}
use Rattle.bitmap_input.specs.Raw.{Raw, row_bytes}
use Rattle.bitmap_input.specs.BmpHeader.{width, height, palette_bytes, pixel_offset, palette_end, row_length}
use Rattle.bitmap_input.specs.Front.{Magic, magic_named}
use Rattle.bitmap_input.specs.Samples.{samples_in, sample_bytes}
use Rattle.bitmap_input.specs.declared.channels.Channels.{Channels}
use Rattle.bitmap_input.specs.Front.Magic.{PlainBits, RawBits, PlainSamples, RawSamples, Picture}

-- bytes of one set, followed by bytes of another
pub record IsJoined (P Q : List ℕ → Type 0) (bytes : List ℕ) : Type 0 where
  pub first : List ℕ
  pub second : List ℕ
  pub split : bytes ≡ first ++ second
  pub is_first : P first
  pub is_second : Q second

-- n times bytes of one set
abbrev pub IsRepeated : (List ℕ → Type 0) → ℕ → List ℕ → Type 0
IsRepeated P zero bytes = bytes ≡ []
IsRepeated P (suc n) bytes = IsJoined P (IsRepeated P n) bytes

-- n bytes
abbrev pub IsBlock : ℕ → List ℕ → Type 0
IsBlock n bytes = length bytes ≡ n

-- one byte of whitespace
abbrev pub IsSpace : List ℕ → Type 0
IsSpace bytes = (b : ℕ) × (bytes ≡ b ∷ []) × (is_space b ≡ true)

-- whitespace and comments, of at least one byte
abbrev pub IsSomeGap : List ℕ → Type 0
IsSomeGap bytes = IsGap bytes × (1 ≤ length bytes)

-- digits that form this number
abbrev pub IsNumber : ℕ → List ℕ → Type 0
IsNumber n bytes = AllBytes is_digit bytes × (1 ≤ length bytes) × (value 0 bytes ≡ n)

-- digits that form this number, after a gap
abbrev pub IsNumberBehindGap : ℕ → List ℕ → Type 0
IsNumberBehindGap n bytes = IsJoined IsSomeGap (IsNumber n) bytes

-- the width and the height
abbrev pub AreSides : ℕ → ℕ → List ℕ → Type 0
AreSides w h bytes = IsJoined (IsNumberBehindGap w) (IsNumberBehindGap h) bytes

-- the character of a pixel
abbrev pub IsPixel : List ℕ → Type 0
IsPixel bytes = (bytes ≡ 48 ∷ []) ⊎ (bytes ≡ 49 ∷ [])

-- the character of a pixel, after any whitespace and comments
abbrev pub IsPlainPixel : List ℕ → Type 0
IsPlainPixel bytes = IsJoined IsGap IsPixel bytes

-- a sample as a decimal number
abbrev pub IsPlainSample : List ℕ → Type 0
IsPlainSample bytes = (v : ℕ) × IsNumberBehindGap v bytes

-- the samples of a pixel as decimal numbers
abbrev pub ArePlainSamples : Channels → List ℕ → Type 0
ArePlainSamples c bytes = IsRepeated IsPlainSample (samples_in c) bytes

-- the two bytes of a magic number
abbrev pub IsMagic : Magic → List ℕ → Type 0
IsMagic m bytes = (a : ℕ) × (b : ℕ) × (bytes ≡ a ∷ b ∷ []) × (magic_named a b ≡ Some m)

-- what follows the magic number
abbrev pub IsBody : Magic → Raw → List ℕ → Type 0
IsBody PlainBits raw bytes =
    IsJoined (AreSides raw.width raw.height) (IsRepeated (IsRepeated IsPlainPixel raw.width) raw.height) bytes
IsBody RawBits raw bytes =
    IsJoined (AreSides raw.width raw.height) (IsJoined IsSpace (IsRepeated (IsBlock (row_bytes raw.width)) raw.height)) bytes
IsBody (PlainSamples c) raw bytes = (maxval : ℕ)
    × IsJoined (AreSides raw.width raw.height) (IsJoined (IsNumberBehindGap maxval) (IsRepeated (IsRepeated (ArePlainSamples c) raw.width) raw.height)) bytes
IsBody (RawSamples c) raw bytes = (maxval : ℕ)
    × IsJoined (AreSides raw.width raw.height) (IsJoined (IsNumberBehindGap maxval) (IsJoined IsSpace
    (IsRepeated (IsBlock (sample_bytes maxval (samples_in c * raw.width))) raw.height))) bytes
IsBody Picture raw bytes = (head : List ℕ) × (raw.width ≡ width head) × (raw.height ≡ height head)
    × IsJoined (λ first. first ≡ head) (IsJoined (IsBlock (palette_bytes head)) (IsJoined (IsBlock (pixel_offset head - palette_end head))
    (IsRepeated (IsBlock (row_length head)) raw.height))) bytes

-- a page: whitespace, its magic number, and what follows it
abbrev pub IsPageText : Raw → List ℕ → Type 0
IsPageText raw bytes = (m : Magic) × IsJoined (AllBytes is_space) (IsJoined (IsMagic m) (IsBody m raw)) bytes
