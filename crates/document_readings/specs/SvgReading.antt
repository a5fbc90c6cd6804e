-- Documents of vector graphics (SVG 1.1, sections 5.1, 7.6, 7.7, 7.10, 8.3 and 11.3). Covered is the part in which the root
-- `svg`, in the namespace of SVG, has a size in points and a view box, and in it is one group, which is transformed; and
-- in the group there are paths, filled black by the even-odd rule, with no line along them. No other attribute stands
-- there but `version` and `id`, which change nothing that is seen. A size or a view of zero, by which nothing is shown
-- (sections 5.1 and 7.7), is read as any other; and whether identifiers are names, each of one element, isn't read.
use Rattle.std.specs.Prelude.{ℕ, ◌&&◌, ◌||◌, Bool, true, false, if◌then◌else◌, List, [], ◌∷◌, ◌++◌, codes, map, Option, Some, None, option_map, option_and_then, bytes_eq}
use Rattle.std.specs.Char.{is_ascii_digit}
use Rattle.document_readings.specs.Drawn.{Subpath}
use Rattle.document_readings.specs.WholeNumbers.{Begun, nothing, sign, digits, natural_of, with_digit}
use Rattle.document_readings.specs.PathData.{path_subpaths}
use Rattle.document_readings.specs.TextLines.{spaced_words}
use Rattle.document_readings.specs.Transforms.{Transform, transforms_of}
use Rattle.document_readings.specs.XmlTags.{Attribute}
use Rattle.document_readings.specs.XmlTree.{Element, element, Elements, none, behind, xml_root}

-- the value of the attribute of this name
abbrev pub value_of : List ℕ → List Attribute → Option (List ℕ)
value_of name [] = None
value_of name (first ∷ attributes) = if bytes_eq name first.name then Some first.value else value_of name attributes

-- what an attribute says, if it is there
abbrev pub read_by : {A : Type 0} → (List ℕ → Option A) → List ℕ → List Attribute → Option A
read_by read name attributes = option_and_then read (value_of name attributes)

-- the name is one of these
abbrev pub is_among : List ℕ → List (List ℕ) → Bool
is_among name [] = false
is_among name (first ∷ names) = bytes_eq name first || is_among name names

-- each attribute has one of these names
abbrev pub are_among : List Attribute → List (List ℕ) → Bool
are_among [] names = true
are_among (first ∷ attributes) names = is_among first.name names && are_among attributes names

-- where the attribute is given, its value is one of these
abbrev pub is_one_of : Option (List ℕ) → List (List ℕ) → Bool
is_one_of None values = true
is_one_of (Some value) values = is_among value values

-- the number that has ended before this unit, where it is `pt`
abbrev pub points_unit : Begun → List ℕ → Option ℕ
points_unit nothing unit = None
points_unit (sign minus) unit = None
points_unit (digits minus value) unit = if bytes_eq unit (codes "pt") then Some value else None

-- a length in points (section 7.10), behind such a beginning: digits, and then `pt`
abbrev pub length_from : Begun → List ℕ → Option ℕ
length_from begun [] = None
length_from begun (byte ∷ bytes) = if is_ascii_digit byte then length_from (with_digit begun byte) bytes else points_unit begun (byte ∷ bytes)

-- the rectangle that is shown: where it begins, and how wide and high it is (section 7.7)
pub record View : Type 0 where
  pub x : ℕ
  pub y : ℕ
  pub width : ℕ
  pub height : ℕ

-- four numbers
abbrev pub view_of : List (Option ℕ) → Option View
view_of (Some x ∷ Some y ∷ Some width ∷ Some height ∷ []) = Some (record { x = x; y = y; width = width; height = height })
view_of numbers = None

-- the rectangle of a view box: four whole numbers without a sign, with one space between two
abbrev pub view_in : List ℕ → Option View
view_in text = view_of (map natural_of (spaced_words text))

-- the value is that of the rule by which an area within two outlines is outside (section 11.3)
abbrev pub is_even_odd : Option (List ℕ) → Bool
is_even_odd None = false
is_even_odd (Some rule) = bytes_eq rule (codes "evenodd")

-- the subpaths of a path element, which is filled by the even-odd rule
abbrev pub path_in : List ℕ → List Attribute → Elements → Option (List Subpath)
path_in name attributes none =
    if bytes_eq name (codes "path") && are_among attributes (codes "id" ∷ codes "fill-rule" ∷ codes "d" ∷ []) && is_even_odd (value_of (codes "fill-rule") attributes)
    then read_by path_subpaths (codes "d") attributes
    else None
path_in name attributes (behind children child) = None

-- the shapes of the paths, in order
abbrev pub shapes_in : Elements → Option (List (List Subpath))
shapes_in none = Some []
shapes_in (behind before (element name attributes children)) =
    option_and_then (λ shapes. option_map (λ shape. shapes ++ shape ∷ []) (path_in name attributes children)) (shapes_in before)

-- what a document shows: on a page of so many points a view, and in it black shapes, whose places are transformed
pub record Picture : Type 0 where
  pub width : ℕ
  pub height : ℕ
  pub view : View
  pub transforms : List Transform
  pub shapes : List (List Subpath)

-- shapes are black, with no line along them, as they are too where nothing is said of it (sections 11.3 and 11.4)
abbrev pub are_black : List Attribute → Bool
are_black attributes = is_one_of (value_of (codes "fill") attributes) (codes "#000000" ∷ codes "black" ∷ []) && is_one_of (value_of (codes "stroke") attributes) (codes "none" ∷ [])

-- the group of the paths
abbrev pub group_in : ℕ → ℕ → View → Elements → Option Picture
group_in width height view (behind none (element name attributes paths)) =
    if bytes_eq name (codes "g") && are_among attributes (codes "id" ∷ codes "transform" ∷ codes "fill" ∷ codes "stroke" ∷ []) && are_black attributes
    then option_and_then (λ transforms. option_map (λ shapes. record { width = width; height = height; view = view; transforms = transforms; shapes = shapes }) (shapes_in paths))
    (read_by transforms_of (codes "transform") attributes)
    else None
group_in width height view elements = None

-- the namespace of SVG (section 5.1)
abbrev pub svg_namespace : List ℕ
svg_namespace = codes "http://www.w3.org/2000/svg"

-- the value names the namespace of SVG
abbrev pub is_svg_namespace : Option (List ℕ) → Bool
is_svg_namespace None = false
is_svg_namespace (Some name) = bytes_eq name svg_namespace

-- the picture of a root
abbrev pub picture_in : Element → Option Picture
picture_in (element name attributes children) =
    if bytes_eq name (codes "svg")
    && are_among attributes (codes "version" ∷ codes "id" ∷ codes "xmlns" ∷ codes "width" ∷ codes "height" ∷ codes "viewBox" ∷ [])
    && is_svg_namespace (value_of (codes "xmlns") attributes) && is_one_of (value_of (codes "version") attributes) (codes "1.0" ∷ codes "1.1" ∷ [])
    then option_and_then (λ width. option_and_then (λ height. option_and_then (λ view. group_in width height view children)
    (read_by view_in (codes "viewBox") attributes))
    (read_by (length_from nothing) (codes "height") attributes))
    (read_by (length_from nothing) (codes "width") attributes)
    else None

-- the picture of a text
abbrev pub svg_picture : List ℕ → Option Picture
svg_picture text = option_and_then picture_in (xml_root text)
