-- Lists of transformations (SVG 1.1, section 7.6). Covered are `translate` and `scale` with two whole numbers in
-- parentheses, a comma between, and white space between two of them. Outside are the other transformations, one number
-- alone, fractions, plus signs, commas between two, and white space within one.
use Rattle.std.specs.Prelude.{ℕ, ◌==◌, ℤ, ◌*ℤ◌, true, cond, if◌then◌else◌, List, [], ◌∷◌, ◌++◌, codes, Option, Some, None, option_map, option_and_then, bytes_eq}
use Rattle.std.specs.Char.{is_ascii_digit, is_ascii_alphabetic}
use Rattle.document_readings.specs.Drawn.{Place, displaced}
use Rattle.document_readings.specs.WholeNumbers.{Begun, nothing, sign, digits, signed, with_digit}
use Rattle.document_readings.specs.TextLines.{is_white_space}

-- a shift by a step, or a factor for each coordinate
pub data Transform : Type 0 where
  translate : Place → Transform
  scale : ℤ → ℤ → Transform

-- the transformation of this name
abbrev pub named_transform : List ℕ → ℤ → ℤ → Option Transform
named_transform name x y =
    if bytes_eq name (codes "translate") then Some (translate (record { x = x; y = y })) else (if bytes_eq name (codes "scale") then Some (scale x y) else None)

-- what a byte of a list of transformations can be
pub data TransformByte : Type 0 where
  letter : TransformByte
  digit : TransformByte
  minus : TransformByte
  comma : TransformByte
  open_parenthesis : TransformByte
  close_parenthesis : TransformByte
  space : TransformByte
  other : TransformByte

-- what this byte is
abbrev pub transform_byte : ℕ → TransformByte
transform_byte byte =
    cond (is_ascii_digit byte) digit (cond (is_ascii_alphabetic byte) letter (cond (byte == 45) minus (cond (byte == 44) comma
    (cond (byte == 40) open_parenthesis (cond (byte == 41) close_parenthesis (cond (is_white_space byte) space other))))))

-- where the text has come to: where a transformation may begin, behind one, in a name, in the first number, or in the
-- second one
pub data TransformState : Type 0 where
  between : TransformState
  behind : TransformState
  naming : List ℕ → TransformState
  first : List ℕ → Begun → TransformState
  second : List ℕ → ℤ → Begun → TransformState

-- what is done with a number that has ended, if it has
abbrev pub with_number : {A : Type 0} → Begun → (ℤ → Option A) → Option A
with_number nothing f = None
with_number (sign negative) f = None
with_number (digits negative value) f = f (signed negative value)

-- one transformation before those that follow
abbrev pub transform_before : Option (List Transform) → Option Transform → Option (List Transform)
transform_before more transform = option_and_then (λ t. option_map (λ ts. t ∷ ts) more) transform

-- what a byte does
abbrev pub transform_step : TransformState → TransformByte → ℕ → (TransformState → Option (List Transform)) → Option (List Transform)
transform_step between space byte go_on = go_on between
transform_step behind space byte go_on = go_on between
transform_step between letter byte go_on = go_on (naming (byte ∷ []))
transform_step (naming name) letter byte go_on = go_on (naming (name ++ byte ∷ []))
transform_step (naming name) open_parenthesis byte go_on = go_on (first name nothing)
transform_step (first name begun) digit byte go_on = go_on (first name (with_digit begun byte))
transform_step (first name nothing) minus byte go_on = go_on (first name (sign true))
transform_step (first name begun) comma byte go_on = with_number begun (λ x. go_on (second name x nothing))
transform_step (second name x begun) digit byte go_on = go_on (second name x (with_digit begun byte))
transform_step (second name x nothing) minus byte go_on = go_on (second name x (sign true))
transform_step (second name x begun) close_parenthesis byte go_on = with_number begun (λ y. transform_before (go_on behind) (named_transform name x y))
transform_step state class byte go_on = None

-- the list ends behind a transformation, or where one may begin
abbrev pub transforms_end : TransformState → Option (List Transform)
transforms_end between = Some []
transforms_end behind = Some []
transforms_end state = None

-- the transformations of a text, behind such a beginning
abbrev pub transforms_from : TransformState → List ℕ → Option (List Transform)
transforms_from state [] = transforms_end state
transforms_from state (byte ∷ bytes) = transform_step state (transform_byte byte) byte (λ next. transforms_from next bytes)

-- the transformations that a text lists
abbrev pub transforms_of : List ℕ → Option (List Transform)
transforms_of = transforms_from between

-- where a transformation puts a place
abbrev pub image_under : Transform → Place → Place
image_under (translate step) p = displaced p step
image_under (scale x y) p = record { x = x *ℤ p.x; y = y *ℤ p.y }

-- where a list of them puts a place: the last one comes first
abbrev pub image_by : List Transform → Place → Place
image_by [] p = p
image_by (t ∷ more) p = image_under t (image_by more p)
