-- The elements of an XML text (XML 1.0, fifth edition, sections 2.1, 3 and 3.1): one root, in which elements are nested. Of
-- two well-formedness constraints each end tag has the name of its start tag, and no attribute comes twice in a tag.
use Rattle.std.specs.Prelude.{ℕ, ◌&&◌, Bool, true, not, if◌then◌else◌, List, [], ◌∷◌, ◌++◌, Option, Some, None, option_and_then, bytes_eq}
use Rattle.document_readings.specs.XmlTags.{Attribute, TagPart, begin, attribute, opened, empty, end, parts_from}
use Rattle.document_readings.specs.XmlTags as tags

mutual
  -- an element: its name, its attributes, and the elements in it
  pub data Element : Type 0 where
    element : List ℕ → List Attribute → Elements → Element

  -- elements in order: none, or one behind others
  pub data Elements : Type 0 where
    none : Elements
    behind : Elements → Element → Elements

-- an element that isn't closed yet
pub record OpenElement : Type 0 where
  pub name : List ℕ
  pub attributes : List Attribute
  pub children : Elements

-- the elements that are open, the inmost first; or the root, closed
pub data Growth : Type 0 where
  growing : List OpenElement → Growth
  grown : Element → Growth

-- the inmost element is closed
abbrev pub element_closed : OpenElement → List OpenElement → Growth
element_closed inmost [] = grown (element inmost.name inmost.attributes inmost.children)
element_closed inmost (parent ∷ opens) =
    growing (record parent { children = behind parent.children (element inmost.name inmost.attributes inmost.children) } ∷ opens)

-- no attribute has this name
abbrev pub is_new : List ℕ → List Attribute → Bool
is_new name [] = true
is_new name (first ∷ attributes) = not (bytes_eq name first.name) && is_new name attributes

-- what a part does; nothing follows the root
abbrev pub grow : Growth → TagPart → Option Growth
grow (grown root) part = None
grow (growing opens) (begin name) = Some (growing (record { name = name; attributes = []; children = none } ∷ opens))
grow (growing []) part = None
grow (growing (inmost ∷ opens)) (attribute a) =
    if is_new a.name inmost.attributes then Some (growing (record inmost { attributes = inmost.attributes ++ a ∷ [] } ∷ opens)) else None
grow (growing (inmost ∷ opens)) opened = Some (growing (inmost ∷ opens))
grow (growing (inmost ∷ opens)) empty = Some (element_closed inmost opens)
grow (growing (inmost ∷ opens)) (end name) = if bytes_eq name inmost.name then Some (element_closed inmost opens) else None

-- what parts do, one after another
abbrev pub grow_all : Growth → List TagPart → Option Growth
grow_all growth [] = Some growth
grow_all growth (part ∷ parts) = option_and_then (λ next. grow_all next parts) (grow growth part)

-- the root, where it is closed
abbrev pub closed_root : Growth → Option Element
closed_root (growing opens) = None
closed_root (grown root) = Some root

-- the root of a text
abbrev pub xml_root : List ℕ → Option Element
xml_root text = option_and_then closed_root (option_and_then (grow_all (growing [])) (parts_from tags.start text))
