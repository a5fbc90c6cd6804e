-- White space, lines and words of a text.
use Rattle.std.specs.Prelude.{ℕ, ◌||◌, ◌==◌, Bool, if◌then◌else◌, List, [], ◌∷◌}
use Rattle.std.specs.List.{slice_split}

-- a space, a tab or a line feed (production `S` of XML, `wsp` of SVG); carriage returns are outside
abbrev pub is_white_space : ℕ → Bool
is_white_space byte = (byte == 32) || (byte == 9) || (byte == 10)

-- the lines, each without the line feed at its end; the last one is what stands behind the last line feed
abbrev pub text_lines : List ℕ → List (List ℕ)
text_lines = slice_split (λ byte. byte == 10)

-- the words, where one space stands between two
abbrev pub spaced_words : List ℕ → List (List ℕ)
spaced_words = slice_split (λ byte. byte == 32)

-- the text without the spaces before it
abbrev pub without_spaces : List ℕ → List ℕ
without_spaces [] = []
without_spaces (byte ∷ bytes) = if byte == 32 then without_spaces bytes else byte ∷ bytes
