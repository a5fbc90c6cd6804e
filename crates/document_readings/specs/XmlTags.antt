-- The tags of an XML text (XML 1.0, fifth edition, sections 2.2, 2.3, 2.8, 3.1 and 3.3.3). Covered is the part that has an
-- XML declaration or none, tags with attributes in quotation marks, and white space between tags, in printable ASCII,
-- spaces, tabs and line feeds. Outside are other character data, references, comments, instructions, document types,
-- apostrophes around values, white space around `=`, in end tags and before the first tag, other spellings of the
-- declaration, and carriage returns.
use Rattle.std.specs.Prelude.{ℕ, ◌&&◌, ◌||◌, ◌==◌, nat_le, Bool, true, false, cond, if◌then◌else◌, List, [], ◌∷◌, ◌++◌, codes, Option, Some, None, option_map, bytes_eq}
use Rattle.std.specs.Char.{is_ascii_digit, is_ascii_alphabetic}
use Rattle.document_readings.specs.TextLines.{is_white_space}

-- an attribute: a name and a value
pub record Attribute : Type 0 where
  pub name : List ℕ
  pub value : List ℕ

-- a part of a tag: `<name`, an attribute, `>`, `/>`, or the whole end tag
pub data TagPart : Type 0 where
  begin : List ℕ → TagPart
  attribute : Attribute → TagPart
  opened : TagPart
  empty : TagPart
  end : List ℕ → TagPart

-- what a byte of an XML text can be
pub data XmlByte : Type 0 where
  name_start : XmlByte
  name_more : XmlByte
  space : XmlByte
  less : XmlByte
  greater : XmlByte
  slash : XmlByte
  question : XmlByte
  equals : XmlByte
  quote : XmlByte
  ampersand : XmlByte
  other : XmlByte
  outside : XmlByte

-- a letter, `_` or `:` may begin a name (production `NameStartChar`)
abbrev pub begins_name : ℕ → Bool
begins_name byte = is_ascii_alphabetic byte || (byte == 95) || (byte == 58)

-- a digit, `-` and `.` may stand in a name too (production `NameChar`)
abbrev pub continues_name : ℕ → Bool
continues_name byte = is_ascii_digit byte || (byte == 45) || (byte == 46)

-- the printable characters of ASCII
abbrev pub is_printable : ℕ → Bool
is_printable byte = nat_le 32 byte && nat_le byte 126

-- what this byte is
abbrev pub xml_byte : ℕ → XmlByte
xml_byte byte =
    cond (begins_name byte) name_start (cond (continues_name byte) name_more (cond (is_white_space byte) space (cond (byte == 34) quote (cond (byte == 60) less
    (cond (byte == 62) greater (cond (byte == 47) slash (cond (byte == 61) equals (cond (byte == 63) question (cond (byte == 38) ampersand (cond (is_printable byte) other outside))))))))))

-- where the text has come to
pub data XmlState : Type 0 where
  start : XmlState  -- at the beginning
  between : XmlState  -- between tags
  after_less : Bool → XmlState  -- behind `<`; `true` where nothing stands before that
  declaration : List ℕ → XmlState  -- in the declaration
  after_question : List ℕ → XmlState  -- behind the `?` that ends it
  naming : List ℕ → XmlState  -- in the name of a start tag
  ending : List ℕ → XmlState  -- in the name of an end tag
  in_tag : XmlState  -- where an attribute may begin
  attributing : List ℕ → XmlState  -- in the name of an attribute
  assigned : List ℕ → XmlState  -- behind its `=`
  valuing : List ℕ → List ℕ → XmlState  -- in its value
  valued : XmlState  -- behind its value
  after_slash : XmlState  -- behind the `/` of an empty element

-- the declarations that are read (section 2.8)
abbrev pub is_declaration : List ℕ → Bool
is_declaration text =
    bytes_eq text (codes "xml version=\"1.0\"") || bytes_eq text (codes "xml version=\"1.0\" standalone=\"no\"")
    || bytes_eq text (codes "xml version=\"1.0\" encoding=\"UTF-8\"") || bytes_eq text (codes "xml version=\"1.0\" encoding=\"UTF-8\" standalone=\"no\"")

-- one part before those that follow
abbrev pub part_before : TagPart → Option (List TagPart) → Option (List TagPart)
part_before part parts = option_map (λ more. part ∷ more) parts

-- what a byte does; in a value a tab and a line feed count as spaces (section 3.3.3)
abbrev pub tag_step : XmlState → XmlByte → ℕ → (XmlState → Option (List TagPart)) → Option (List TagPart)
tag_step start less byte go_on = go_on (after_less true)
tag_step between space byte go_on = go_on between
tag_step between less byte go_on = go_on (after_less false)
tag_step (after_less true) question byte go_on = go_on (declaration [])
tag_step (after_less first) slash byte go_on = go_on (ending [])
tag_step (after_less first) name_start byte go_on = go_on (naming (byte ∷ []))
tag_step (declaration text) question byte go_on = go_on (after_question text)
tag_step (declaration text) outside byte go_on = None
tag_step (declaration text) c byte go_on = go_on (declaration (text ++ byte ∷ []))
tag_step (after_question text) greater byte go_on = if is_declaration text then go_on between else None
tag_step (naming name) name_start byte go_on = go_on (naming (name ++ byte ∷ []))
tag_step (naming name) name_more byte go_on = go_on (naming (name ++ byte ∷ []))
tag_step (naming name) space byte go_on = part_before (begin name) (go_on in_tag)
tag_step (naming name) greater byte go_on = part_before (begin name) (part_before opened (go_on between))
tag_step (naming name) slash byte go_on = part_before (begin name) (go_on after_slash)
tag_step (ending name) name_start byte go_on = go_on (ending (name ++ byte ∷ []))
tag_step (ending name) name_more byte go_on = go_on (ending (name ++ byte ∷ []))
tag_step (ending name) greater byte go_on = part_before (end name) (go_on between)
tag_step in_tag space byte go_on = go_on in_tag
tag_step in_tag name_start byte go_on = go_on (attributing (byte ∷ []))
tag_step in_tag greater byte go_on = part_before opened (go_on between)
tag_step in_tag slash byte go_on = go_on after_slash
tag_step (attributing name) name_start byte go_on = go_on (attributing (name ++ byte ∷ []))
tag_step (attributing name) name_more byte go_on = go_on (attributing (name ++ byte ∷ []))
tag_step (attributing name) equals byte go_on = go_on (assigned name)
tag_step (assigned name) quote byte go_on = go_on (valuing name [])
tag_step (valuing name value) quote byte go_on = part_before (attribute (record { name = name; value = value })) (go_on valued)
tag_step (valuing name value) less byte go_on = None
tag_step (valuing name value) ampersand byte go_on = None
tag_step (valuing name value) outside byte go_on = None
tag_step (valuing name value) space byte go_on = go_on (valuing name (value ++ 32 ∷ []))
tag_step (valuing name value) c byte go_on = go_on (valuing name (value ++ byte ∷ []))
tag_step valued space byte go_on = go_on in_tag
tag_step valued greater byte go_on = part_before opened (go_on between)
tag_step valued slash byte go_on = go_on after_slash
tag_step after_slash greater byte go_on = part_before empty (go_on between)
tag_step state c byte go_on = None

-- a text ends between tags
abbrev pub no_part : XmlState → Option (List TagPart)
no_part between = Some []
no_part state = None

-- the parts of the tags of a text, behind such a beginning
abbrev pub parts_from : XmlState → List ℕ → Option (List TagPart)
parts_from state [] = no_part state
parts_from state (byte ∷ bytes) = tag_step state (xml_byte byte) byte (λ next. parts_from next bytes)
