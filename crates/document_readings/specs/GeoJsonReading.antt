-- Polygons of a GeoJSON text (RFC 7946, sections 3.1.1, 3.1.6, 3.2, 3.3 and 7.1), over the values of JSON texts that the
-- kit's `json` defines (RFC 8259). Covered is a collection of features that are polygons, with positions of two numbers.
-- Members that no section names may stand beside (section 6.1). Outside are bounding boxes (section 5), identifiers of
-- features, heights, exponents, and a last position that is spelled otherwise than the first one. Which way rings run
-- isn't read: a reader shouldn't refuse one that runs the other way (section 3.1.6). Nor is whether positions are degrees
-- (section 4).
use Rattle.std.specs.Prelude.{ℕ, ◌&&◌, ◌==◌, nat_le, ℤ, pos, negsuc, Bool, true, false, not, if◌then◌else◌, List, [], ◌∷◌, codes, length, Option, Some, None, option_map, option_and_then, is_some, bytes_eq}
use Rattle.json.specs.Json as json
use Rattle.json.specs.Json.{Json, Items, no_items, item, Members, no_members, member, document}
use Rattle.json.specs.Find.{get_member}
use Rattle.document_readings.specs.Decimals.{Decimal, Position, decimal_of}

-- the value of the only member of this name: where two have one name, readers differ (RFC 8259, section 4)
abbrev pub only_member : List ℕ → Members → Option Json
only_member name no_members = None
only_member name (member first value members) =
    if bytes_eq first name then (if is_some (get_member name members) then None else Some value) else only_member name members

-- what that member of an object is
abbrev pub member_of : List ℕ → Json → Option Json
member_of name (json.object members) = only_member name members
member_of name value = None

-- the object has no member of these names
abbrev pub lacks : List (List ℕ) → Json → Bool
lacks [] value = true
lacks (name ∷ names) (json.object members) = not (is_some (get_member name members)) && lacks names (json.object members)
lacks (name ∷ names) value = false

-- the value of a number
abbrev pub number_in : Json → Option Decimal
number_in (json.number text) = decimal_of text
number_in value = None

-- the values of an array's items, each read the same way
abbrev pub all_of : {A : Type 0} → (Json → Option A) → Items → Option (List A)
all_of read no_items = Some []
all_of read (item value items) = option_and_then (λ a. option_map (λ more. a ∷ more) (all_of read items)) (read value)

-- the values of an array
abbrev pub list_in : {A : Type 0} → (Json → Option A) → Json → Option (List A)
list_in read (json.array items) = all_of read items
list_in read value = None

-- two numbers
abbrev pub pair_of : List Decimal → Option Position
pair_of (x ∷ y ∷ []) = Some (record { x = x; y = y })
pair_of numbers = None

-- a position (section 3.1.1)
abbrev pub position_in : Json → Option Position
position_in value = option_and_then pair_of (list_in number_in value)

-- the same whole number
abbrev pub is_same_integer : ℤ → ℤ → Bool
is_same_integer (pos a) (pos b) = a == b
is_same_integer (negsuc a) (negsuc b) = a == b
is_same_integer a b = false

-- the same number, with as many decimals
abbrev pub is_same_decimal : Decimal → Decimal → Bool
is_same_decimal a b = is_same_integer a.units b.units && (a.places == b.places)

-- the same position
abbrev pub is_same_position : Position → Position → Bool
is_same_position p q = is_same_decimal p.x q.x && is_same_decimal p.y q.y

-- the positions behind this one end with this one
abbrev pub ends_with : Position → Position → List Position → Bool
ends_with last p [] = is_same_position p last
ends_with last p (q ∷ positions) = ends_with last q positions

-- the last position is the first one
abbrev pub is_closed_ring : List Position → Bool
is_closed_ring [] = false
is_closed_ring (first ∷ positions) = ends_with first first positions

-- a linear ring: four positions or more, of which the last is the first one (section 3.1.6)
abbrev pub linear_ring : List Position → Option (List Position)
linear_ring ring = if nat_le 4 (length ring) && is_closed_ring ring then Some ring else None

-- a ring of positions
abbrev pub ring_in : Json → Option (List Position)
ring_in value = option_and_then linear_ring (list_in position_in value)

-- a polygon has an outer ring, and then those of its holes
abbrev pub polygon_rings : List (List Position) → Option (List (List Position))
polygon_rings [] = None
polygon_rings (outer ∷ holes) = Some (outer ∷ holes)

-- the coordinates of a polygon
abbrev pub rings_in : Json → Option (List (List Position))
rings_in value = option_and_then polygon_rings (list_in ring_in value)

-- the value is the string
abbrev pub is_string : List ℕ → Option Json → Bool
is_string text (Some (json.string s)) = bytes_eq s text
is_string text value = false

-- the member `type` names this type
abbrev pub is_type : List ℕ → Json → Bool
is_type name value = is_string name (member_of (codes "type") value)

-- the properties of a feature: an object, or null (section 3.2)
abbrev pub are_properties : Option Json → Bool
are_properties (Some (json.object _)) = true
are_properties (Some json.null) = true
are_properties value = false

-- a geometry that is a polygon, and has no member of a feature or of a collection (section 7.1)
abbrev pub geometry_in : Json → Option (List (List Position))
geometry_in value =
    if is_type (codes "Polygon") value && lacks (codes "bbox" ∷ codes "geometry" ∷ codes "properties" ∷ codes "features" ∷ []) value
    then option_and_then rings_in (member_of (codes "coordinates") value)
    else None

-- a feature, with its properties, and no member of a geometry or of a collection (section 7.1)
abbrev pub feature_in : Json → Option (List (List Position))
feature_in value =
    if is_type (codes "Feature") value && are_properties (member_of (codes "properties") value)
    && lacks (codes "bbox" ∷ codes "id" ∷ codes "coordinates" ∷ codes "geometries" ∷ codes "features" ∷ []) value
    then option_and_then geometry_in (member_of (codes "geometry") value)
    else None

-- a collection of features, with no member of a geometry or of a feature (section 7.1)
abbrev pub collection_in : Json → Option (List (List (List Position)))
collection_in value =
    if is_type (codes "FeatureCollection") value
    && lacks (codes "bbox" ∷ codes "coordinates" ∷ codes "geometries" ∷ codes "geometry" ∷ codes "properties" ∷ []) value
    then option_and_then (list_in feature_in) (member_of (codes "features") value)
    else None

-- the polygons of a text
abbrev pub geojson_polygons : List ℕ → Option (List (List (List Position)))
geojson_polygons text = option_and_then collection_in (document text)
