-- Path data (SVG 1.1, sections 8.3.1 to 8.3.4, 8.3.6 and 8.3.9, the grammar). Covered are `M`, `l`, `c` and `z`, whole
-- numbers, and white space anywhere between. Outside are commas, fractions and exponents, the other commands, and a
-- command that is left out since it repeats the one before.
use Rattle.std.specs.Prelude.{ℕ, ◌==◌, ℤ, Bool, true, false, cond, List, [], ◌∷◌, Option, Some, None, option_map, option_and_then}
use Rattle.std.specs.Char.{is_ascii_digit}
use Rattle.document_readings.specs.Drawn.{Command, Subpath, move, line, curve, close, drawn}
use Rattle.document_readings.specs.WholeNumbers.{Begun, nothing, sign, digits, signed, with_digit}
use Rattle.document_readings.specs.TextLines.{is_white_space}

-- a word of path data: a letter, or a number
pub data PathWord : Type 0 where
  big_m : PathWord
  small_l : PathWord
  small_c : PathWord
  small_z : PathWord
  number : ℤ → PathWord

-- what a byte of path data can be
pub data PathByte : Type 0 where
  digit : PathByte
  a_sign : Bool → PathByte
  space : PathByte
  letter : PathWord → PathByte
  other : PathByte

-- the letters M, l, c and z
abbrev pub path_letter : ℕ → PathByte
path_letter byte =
    cond (byte == 77) (letter big_m) (cond (byte == 108) (letter small_l) (cond (byte == 99) (letter small_c) (cond (byte == 122) (letter small_z) other)))

-- what this byte is
abbrev pub path_byte : ℕ → PathByte
path_byte byte =
    cond (is_ascii_digit byte) digit (cond (byte == 45) (a_sign true) (cond (byte == 43) (a_sign false) (cond (is_white_space byte) space (path_letter byte))))

-- where a number has begun, it ends before these words; a sign alone is no number
abbrev pub number_before : Begun → Option (List PathWord) → Option (List PathWord)
number_before nothing words = words
number_before (sign minus) words = None
number_before (digits minus value) words = option_map (λ rest. number (signed minus value) ∷ rest) words

-- what a byte does: a digit goes on in the number that has begun, and all else ends it
abbrev pub path_step : Begun → PathByte → ℕ → (Begun → Option (List PathWord)) → Option (List PathWord)
path_step begun digit byte go_on = go_on (with_digit begun byte)
path_step begun (a_sign minus) byte go_on = number_before begun (go_on (sign minus))
path_step begun space byte go_on = number_before begun (go_on nothing)
path_step begun (letter word) byte go_on = number_before begun (option_map (λ rest. word ∷ rest) (go_on nothing))
path_step begun other byte go_on = None

-- the words of a text, behind the beginning of a number
abbrev pub path_words : Begun → List ℕ → Option (List PathWord)
path_words begun [] = number_before begun (Some [])
path_words begun (byte ∷ bytes) = path_step begun (path_byte byte) byte (λ next. path_words next bytes)

-- the commands that words are: `M` and a place, `l` and a step, `c` and three steps, or `z`
abbrev pub commands_of : List PathWord → Option (List Command)
commands_of [] = Some []
commands_of (big_m ∷ number x ∷ number y ∷ words) = option_map (λ rest. move (record { x = x; y = y }) ∷ rest) (commands_of words)
commands_of (small_l ∷ number x ∷ number y ∷ words) = option_map (λ rest. line (record { x = x; y = y }) ∷ rest) (commands_of words)
commands_of (small_c ∷ number a ∷ number b ∷ number c ∷ number d ∷ number x ∷ number y ∷ words) =
    option_map (λ rest. curve (record { x = a; y = b }) (record { x = c; y = d }) (record { x = x; y = y }) ∷ rest) (commands_of words)
commands_of (small_z ∷ words) = option_map (λ rest. close ∷ rest) (commands_of words)
commands_of words = None

-- the commands of path data
abbrev pub path_commands : List ℕ → Option (List Command)
path_commands data_text = option_and_then commands_of (path_words nothing data_text)

-- the closed subpaths that path data draws
abbrev pub path_subpaths : List ℕ → Option (List Subpath)
path_subpaths data_text = option_and_then drawn (path_commands data_text)
