-- The definitions, checked on small files, most of them at the limits of a format.
use Rattle.std.proofs.Common.{◌≡◌, refl, ℕ, Bool, true, false, inl, inr, List, [], ◌∷◌, ◌++◌, arith}
use Rattle.std.specs.Prelude.{codes}
use Rattle.bitmap_input.specs.Cut.{is_by_end}
use Rattle.bitmap_input.specs.Cut.Kind.{UnknownFormat, BadHeader, ZeroSide, TooLarge, Truncated, BadRaster, TooLong}
use Rattle.bitmap_input.specs.Cut.FileEnd.{End, Trailing, Refused}
use Rattle.bitmap_input.specs.Cut.Cut.{Takes, Stops}
use Rattle.bitmap_input.specs.PageParts.{number, gap, gap_length, run_of}
use Rattle.bitmap_input.specs.Sets.{IsGap}
use Rattle.bitmap_input.specs.Sets.IsGap.{Nothing, Space, Comment}
use Rattle.bitmap_input.specs.Raw.{Raw, entries_page, bits_of, picture_of}
use Rattle.bitmap_input.specs.Raw.Entry.{Bit}
use Rattle.bitmap_input.specs.Front.{front, page_at}
use Rattle.bitmap_input.specs.Front.Answer.{Page}
use Rattle.bitmap_input.specs.FilePages.{FilePages}
use Rattle.bitmap_input.specs.Reading.{AreNeeded}
use Rattle.bitmap_input.specs.FilePages.FilePages.{Ended, Next}
use Rattle.bitmap_input.proofs.ComposedSteps.{not_true}

-- a page of bits
abbrev pub bits_page : ℕ → ℕ → List (List Bool) → Raw
bits_page width height rows = entries_page (λ b. Bit b) width height rows

-- one black pixel: bytes added couldn't change the page, and the line feed belongs to what follows
one_pixel : page_at false (codes "P1 1 1 1\n") ≡ Takes false (bits_page 1 1 ((true ∷ []) ∷ [])) (10 ∷ [])
one_pixel = refl

one_pixel_used : front false (codes "P1 1 1 1\n") ≡ Page (bits_page 1 1 ((true ∷ []) ∷ [])) 8
one_pixel_used = refl

-- .######## above ........# (the padding bits of each row are ones, and don't count)
two_rows : List (List Bool)
two_rows =
    (false ∷ true ∷ true ∷ true ∷ true ∷ true ∷ true ∷ true ∷ false ∷ []) ∷ (true ∷ false ∷ false ∷ false ∷ false ∷ false ∷ false ∷ false ∷ false ∷ []) ∷ []

padding : front false (codes "P4\n9 2\n" ++ 0x7f ∷ 0x7f ∷ 0x80 ∷ 0x7f ∷ []) ≡ Page (bits_page 9 2 two_rows) 11
unfolding two_rows
padding = refl

-- Row 0 is the lowest one: of the two rows above, the first is row 1, and everything outside is white.
upper_left : picture_of 500000 false (bits_page 9 2 two_rows) 0 1 ≡ false
unfolding two_rows
upper_left = refl

lower_left : picture_of 500000 false (bits_page 9 2 two_rows) 0 0 ≡ true
unfolding two_rows
lower_left = refl

right_of_the_page : picture_of 500000 false (bits_page 9 2 two_rows) 9 0 ≡ false
unfolding two_rows
right_of_the_page = refl

-- comments in the header and in the raster
comments : front false (codes "P1 # c\n2 #d\n1\n1#x\n0") ≡ Page (bits_page 2 1 ((true ∷ false ∷ []) ∷ [])) 19
comments = refl

-- a carriage return ends a comment too
carriage_return : front false (codes "P1#c\r1 1 1") ≡ Page (bits_page 1 1 ((true ∷ []) ∷ [])) 10
carriage_return = refl

-- two raw pages, and then bytes that don't begin a page
two_pages_and_more : List ℕ
two_pages_and_more = codes "P4 1 1\n" ++ 0x80 ∷ [] ++ codes "P4 1 1\n" ++ 0x80 ∷ [] ++ codes "xyz"

black_pixel : Raw
black_pixel = bits_page 1 1 ((true ∷ []) ∷ [])

trailing : FilePages false two_pages_and_more (black_pixel ∷ black_pixel ∷ []) Trailing
unfolding two_pages_and_more black_pixel
trailing = Next {used = 8} refl (Next {used = 8} refl (Ended refl))

-- a second page with a last row that is too short
short_last_row : FilePages false (codes "P4 1 1\n" ++ 0x80 ∷ [] ++ codes "P4 8 2\n" ++ 0xff ∷ []) (black_pixel ∷ []) (Refused Truncated)
unfolding black_pixel
short_last_row = Next {used = 8} refl (Ended refl)

-- pages that are refused, and whether bytes added could change this
nothing : page_at false [] ≡ Stops true (Refused UnknownFormat)
nothing = refl

nothing_more : page_at true (codes " \n") ≡ Stops true End
nothing_more = refl

half_a_magic : page_at true (codes "P") ≡ Stops true Trailing
half_a_magic = refl

no_such_magic : page_at false (codes "P7\n") ≡ Stops false (Refused UnknownFormat)
no_such_magic = refl

no_gap : page_at false (codes "P11 1 1") ≡ Stops false (Refused BadHeader)
no_gap = refl

wide : page_at false (codes "P4 32768 1\n") ≡ Stops false (Refused TooLarge)
wide = refl

zero_before_large : page_at false (codes "P4 0 99999\n") ≡ Stops false (Refused ZeroSide)
zero_before_large = refl

zero_at_the_end : page_at false (codes "P4 0 9") ≡ Stops true (Refused ZeroSide)
zero_at_the_end = refl

two_is_no_pixel : page_at false (codes "P1 2 1 12") ≡ Stops false (Refused BadRaster)
two_is_no_pixel = refl

missing_pixel : page_at false (codes "P1 2 1 1") ≡ Stops true (Refused Truncated)
missing_pixel = refl

-- no byte can change the last pixel of a plain page or the last byte of a raw one
last_pixel : is_by_end (page_at false (codes "P1 1 1 1")) ≡ false
last_pixel = refl

last_byte : is_by_end (page_at false (codes "P4 1 1 " ++ 0 ∷ [])) ≡ false
last_byte = refl

-- bytes added could change a digit at the end: more digits might follow
last_digit : number BadHeader (codes "12") ≡ Takes true 12 []
last_digit = refl

leading_zeros : number BadHeader (codes "007x") ≡ Takes false 7 (120 ∷ [])
leading_zeros = refl

most_significant_first : bits_of 0xa1 ≡ true ∷ false ∷ true ∷ false ∷ false ∷ false ∷ false ∷ true ∷ []
most_significant_first = refl

-- a run of the greatest length of a gap is taken, and one more byte is refused, also at the end
longest_gap : run_of 1048576 [] ≡ Takes true [] []
longest_gap = refl

gap_too_long : (bytes : List ℕ) → run_of 1048577 bytes ≡ Stops false (Refused TooLong)
gap_too_long bytes = refl

-- the second byte of a magic number is needed, and no third byte if it isn't a magic number
second_byte : AreNeeded (λ bytes. page_at false (codes "X" ++ bytes)) (codes "Y")
second_byte = record { before = []; block = codes "Y"; split = refl; within = omega arith; undecided = inr refl }

no_third_byte : AreNeeded (λ bytes. page_at false (codes "XY" ++ bytes)) (codes "Z") → ⊥
no_third_byte needed = elim needed.undecided [
  | inl none ↦ cc
  | inr still ↦ not_true still
]

-- a gap of a blank, a comment and the end of its line
blank_and_comment : IsGap (32 ∷ 35 ∷ 120 ∷ 10 ∷ [])
blank_and_comment = Space refl (Comment (120 ∷ []) (10 ∷ []) refl refl (refl, tt) refl (Space refl Nothing))

its_length : gap_length false (32 ∷ 35 ∷ 120 ∷ 10 ∷ 49 ∷ 32 ∷ []) ≡ 4
its_length = refl

-- a comment that ends with the bytes
open_comment : IsGap (35 ∷ 35 ∷ [])
open_comment = Comment (35 ∷ []) [] refl refl (refl, tt) tt Nothing

-- `1` isn't a gap
no_gap_at_all : IsGap (49 ∷ []) → ⊥
no_gap_at_all (Space h gap) = cc
no_gap_at_all (Comment text rest h split quiet ends gap) = absurd (omega arith)
