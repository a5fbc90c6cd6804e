-- The parts of a page as sets of byte lists (Netpbm's format page "pbm"), beside the lengths by
-- which they are cut.
use Rattle.std.specs.Prelude.{◌≡◌, ℕ, Bool, true, not, List, [], ◌∷◌, ◌++◌}
use Rattle.bitmap_input.specs.PageParts.{is_space, ends_line}

-- each byte passes the test
abbrev pub AllBytes : (ℕ → Bool) → List ℕ → Type 0
AllBytes p [] = Unit {0}
AllBytes p (b ∷ bs) = (p b ≡ true) × AllBytes p bs

-- a byte inside a comment
abbrev pub is_quiet : ℕ → Bool
is_quiet b = not (ends_line b)

-- nothing follows a comment, or the byte that ends its line
abbrev pub EndsComment : List ℕ → Type 0
EndsComment [] = Unit {0}
EndsComment (b ∷ bs) = ends_line b ≡ true

-- whitespace and comments: nothing; or a whitespace byte and then a gap; or `#`, bytes that don't
-- end a line, and then a gap that is empty or begins with the end of that line
pub data IsGap : List ℕ → Type 0 where
  Nothing : IsGap []
  Space : {b : ℕ} {bs : List ℕ} → is_space b ≡ true → IsGap bs → IsGap (b ∷ bs)
  Comment : {h : ℕ} {bs : List ℕ} (text rest : List ℕ) → h ≡ 35 → bs ≡ text ++ rest → AllBytes is_quiet text →
      EndsComment rest → IsGap rest → IsGap (h ∷ bs)
