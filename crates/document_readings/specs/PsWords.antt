-- The words of a PostScript program (PostScript Language Reference, third edition, section 3.2: a scanner's tokens, white
-- space and comments). Covered are whole numbers, some operators, spaces, tabs, form feeds, and ends of lines. Outside are
-- other tokens, as fractions, plus signs, strings, procedures, names with a slash, and names of one's own. A number may be
-- of any size here, and an interpreter has its limits (appendix B).
use Rattle.std.specs.Prelude.{ℕ, ◌||◌, ◌==◌, ℤ, true, cond, List, [], ◌∷◌, ◌++◌, codes, Option, Some, None, option_map, bytes_eq}
use Rattle.std.specs.Char.{is_ascii_digit, is_ascii_alphabetic}
use Rattle.document_readings.specs.WholeNumbers.{Begun, nothing, sign, digits, signed, with_digit}

-- a word of a program: a whole number, or an operator
pub data PsWord : Type 0 where
  number : ℤ → PsWord
  gsave : PsWord
  div : PsWord
  dup : PsWord
  scale : PsWord
  moveto : PsWord
  rlineto : PsWord
  rcurveto : PsWord
  closepath : PsWord
  eofill : PsWord
  grestore : PsWord
  showpage : PsWord
  unknown : PsWord

-- the operator of this name
abbrev pub operator_of : List ℕ → PsWord
operator_of name =
    cond (bytes_eq name (codes "gsave")) gsave (cond (bytes_eq name (codes "div")) div (cond (bytes_eq name (codes "dup")) dup
    (cond (bytes_eq name (codes "scale")) scale (cond (bytes_eq name (codes "moveto")) moveto (cond (bytes_eq name (codes "rlineto")) rlineto
    (cond (bytes_eq name (codes "rcurveto")) rcurveto (cond (bytes_eq name (codes "closepath")) closepath (cond (bytes_eq name (codes "eofill")) eofill
    (cond (bytes_eq name (codes "grestore")) grestore (cond (bytes_eq name (codes "showpage")) showpage unknown))))))))))

-- what a byte of a program can be
pub data PsByte : Type 0 where
  digit : PsByte
  minus : PsByte
  letter : PsByte
  space : PsByte
  line_end : PsByte  -- the end of a line, or a form feed
  percent : PsByte
  other : PsByte

-- what this byte is
abbrev pub ps_byte : ℕ → PsByte
ps_byte byte =
    cond (is_ascii_digit byte) digit (cond (is_ascii_alphabetic byte) letter (cond (byte == 45) minus
    (cond ((byte == 10) || (byte == 12) || (byte == 13)) line_end (cond ((byte == 32) || (byte == 9)) space (cond (byte == 37) percent other)))))

-- where the text has come to: between words, in a comment, in a number, or in a name
pub data PsState : Type 0 where
  between : PsState
  comment : PsState
  counting : Begun → PsState
  naming : List ℕ → PsState

-- the word that has ended, before those that follow
abbrev pub word_before : PsState → Option (List PsWord) → Option (List PsWord)
word_before between words = words
word_before comment words = words
word_before (counting nothing) words = None
word_before (counting (sign negative)) words = None
word_before (counting (digits negative value)) words = option_map (λ more. number (signed negative value) ∷ more) words
word_before (naming name) words = option_map (λ more. operator_of name ∷ more) words

-- what a byte does; a comment goes to the end of its line, or to a form feed
abbrev pub ps_word_step : PsState → PsByte → ℕ → (PsState → Option (List PsWord)) → Option (List PsWord)
ps_word_step comment line_end byte go_on = go_on between
ps_word_step comment c byte go_on = go_on comment
ps_word_step state space byte go_on = word_before state (go_on between)
ps_word_step state line_end byte go_on = word_before state (go_on between)
ps_word_step state percent byte go_on = word_before state (go_on comment)
ps_word_step between digit byte go_on = go_on (counting (with_digit nothing byte))
ps_word_step between minus byte go_on = go_on (counting (sign true))
ps_word_step between letter byte go_on = go_on (naming (byte ∷ []))
ps_word_step (counting begun) digit byte go_on = go_on (counting (with_digit begun byte))
ps_word_step (naming name) letter byte go_on = go_on (naming (name ++ byte ∷ []))
ps_word_step state c byte go_on = None

-- the words of a text, behind such a beginning
abbrev pub ps_words : PsState → List ℕ → Option (List PsWord)
ps_words state [] = word_before state (Some [])
ps_words state (byte ∷ bytes) = ps_word_step state (ps_byte byte) byte (λ next. ps_words next bytes)
