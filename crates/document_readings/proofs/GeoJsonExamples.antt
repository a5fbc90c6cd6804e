-- GeoJSON texts that are read, and texts that are not.
use Rattle.std.proofs.Common.{◌≡◌, ℕ, pos, negsuc, List, [], ◌∷◌, ◌++◌, codes, refl, Option, Some, None}
use Rattle.json.specs.Lex.{lex, punctuate}
use Rattle.json.specs.Text.{content}
use Rattle.json.specs.Word.{word, after_number}
use Rattle.json.specs.Json.{value, items, members}
use Rattle.document_readings.specs.Decimals.{Decimal, Position, decimal_of}
use Rattle.document_readings.specs.GeoJsonReading.{geojson_polygons}

-- decimal numbers are exact
two_and_a_half : decimal_of (codes "-2.50") ≡ Some (record { units = negsuc 249; places = 2 })
two_and_a_half = refl

two_points : decimal_of (codes "2.5.0") ≡ None
two_points = refl

nothing_behind : decimal_of (codes "2.") ≡ None
nothing_behind = refl

nothing_before : decimal_of (codes ".5") ≡ None
nothing_before = refl

lone_minus : decimal_of (codes "-") ≡ None
lone_minus = refl

plus : decimal_of (codes "+1") ≡ None
plus = refl

exponent : decimal_of (codes "1e2") ≡ None
exponent = refl

-- a triangle with tenths
abbrev tenths : ℕ → Decimal
tenths n = record { units = pos n; places = 1 }

abbrev at : ℕ → ℕ → Position
at x y = record { x = tenths x; y = tenths y }

abbrev triangle : List (List (List Position))
triangle = ((at 0 0 ∷ at 15 0 ∷ at 0 20 ∷ at 0 0 ∷ []) ∷ []) ∷ []

-- as a collection of one feature, with these members of the feature and rings
abbrev collection_with : List ℕ → List ℕ → List ℕ
collection_with feature rings =
    codes "{\"type\":\"FeatureCollection\",\"features\":[\n{" ++ feature ++ codes ",\"geometry\":{\"type\":\"Polygon\",\"coordinates\":[" ++ rings ++ codes "]}}\n]}\n"

abbrev feature_as_ours : List ℕ
feature_as_ours = codes "\"type\":\"Feature\",\"properties\":{}"

abbrev read : List ℕ → List ℕ → Option (List (List (List Position)))
read feature rings = geojson_polygons (collection_with feature rings)

ours : read feature_as_ours (codes "[[0.0,0.0],[1.5,0.0],[0.0,2.0],[0.0,0.0]]") ≡ Some triangle
unfolding lex content punctuate word after_number value items members
ours = refl

-- as GDAL 3.6 writes it
gdal : geojson_polygons (codes "{\n\"type\": \"FeatureCollection\",\n\"name\": \"in\",\n\"features\": [\n{ \"type\": \"Feature\", \"properties\": { }, \"geometry\": { \"type\": \"Polygon\", \"coordinates\": [ [ [ 0.0, 0.0 ], [ 1.5, 0.0 ], [ 0.0, 2.0 ], [ 0.0, 0.0 ] ] ] } }\n]\n}\n") ≡ Some triangle
unfolding lex content punctuate word after_number value items members
gdal = refl

-- rings: not closed, of three positions, closed by another spelling, none at all, a hole that isn't closed
unclosed : read feature_as_ours (codes "[[0.0,0.0],[1.5,0.0],[0.0,2.0],[0.0,0.1]]") ≡ None
unfolding lex content punctuate word after_number value items members
unclosed = refl

three_positions : read feature_as_ours (codes "[[0.0,0.0],[1.5,0.0],[0.0,0.0]]") ≡ None
unfolding lex content punctuate word after_number value items members
three_positions = refl

other_spelling : read feature_as_ours (codes "[[0.0,0.0],[1.5,0.0],[0.0,2.0],[0,0]]") ≡ None
unfolding lex content punctuate word after_number value items members
other_spelling = refl

no_ring : read feature_as_ours [] ≡ None
unfolding lex content punctuate word after_number value items members
no_ring = refl

unclosed_hole : read feature_as_ours (codes "[[0.0,0.0],[1.5,0.0],[0.0,2.0],[0.0,0.0]],[[0.1,0.1],[0.2,0.1],[0.1,0.2],[0.1,0.3]]") ≡ None
unfolding lex content punctuate word after_number value items members
unclosed_hole = refl

-- positions: of three numbers, of one, of a string
three_numbers : read feature_as_ours (codes "[[0.0,0.0,0.0],[1.5,0.0,0.0],[0.0,2.0,0.0],[0.0,0.0,0.0]]") ≡ None
unfolding lex content punctuate word after_number value items members
three_numbers = refl

one_number : read feature_as_ours (codes "[[0.0],[1.5],[0.0],[0.0]]") ≡ None
unfolding lex content punctuate word after_number value items members
one_number = refl

strings : read feature_as_ours (codes "[[\"0.0\",0.0],[1.5,0.0],[0.0,2.0],[\"0.0\",0.0]]") ≡ None
unfolding lex content punctuate word after_number value items members
strings = refl

-- features: of another type, of two, without properties, with properties that are neither an object nor null
other_type : read (codes "\"type\":\"feature\",\"properties\":{}") (codes "[[0.0,0.0],[1.5,0.0],[0.0,2.0],[0.0,0.0]]") ≡ None
unfolding lex content punctuate word after_number value items members
other_type = refl

two_types : read (codes "\"type\":\"Feature\",\"type\":\"Feature\",\"properties\":{}") (codes "[[0.0,0.0],[1.5,0.0],[0.0,2.0],[0.0,0.0]]") ≡ None
unfolding lex content punctuate word after_number value items members
two_types = refl

no_properties : read (codes "\"type\":\"Feature\"") (codes "[[0.0,0.0],[1.5,0.0],[0.0,2.0],[0.0,0.0]]") ≡ None
unfolding lex content punctuate word after_number value items members
no_properties = refl

number_properties : read (codes "\"type\":\"Feature\",\"properties\":1") (codes "[[0.0,0.0],[1.5,0.0],[0.0,2.0],[0.0,0.0]]") ≡ None
unfolding lex content punctuate word after_number value items members
number_properties = refl

-- members that would be those of another object (section 7.1): a feature's of a geometry and of a collection, a collection's
-- of a feature, a geometry's of a feature; and members that aren't covered
feature_coordinates : read (codes "\"type\":\"Feature\",\"properties\":{},\"coordinates\":[]") (codes "[[0.0,0.0],[1.5,0.0],[0.0,2.0],[0.0,0.0]]") ≡ None
unfolding lex content punctuate word after_number value items members
feature_coordinates = refl

feature_features : read (codes "\"type\":\"Feature\",\"properties\":{},\"features\":[]") (codes "[[0.0,0.0],[1.5,0.0],[0.0,2.0],[0.0,0.0]]") ≡ None
unfolding lex content punctuate word after_number value items members
feature_features = refl

collection_properties : geojson_polygons (codes "{\"type\":\"FeatureCollection\",\"properties\":{},\"features\":[]}") ≡ None
unfolding lex content punctuate word after_number value items members
collection_properties = refl

geometry_properties : geojson_polygons (codes "{\"type\":\"FeatureCollection\",\"features\":[{\"type\":\"Feature\",\"properties\":{},\"geometry\":{\"type\":\"Polygon\",\"properties\":{},\"coordinates\":[[[0.0,0.0],[1.5,0.0],[0.0,2.0],[0.0,0.0]]]}}]}") ≡ None
unfolding lex content punctuate word after_number value items members
geometry_properties = refl

boxed : read (codes "\"type\":\"Feature\",\"properties\":{},\"bbox\":[0,0,1]") (codes "[[0.0,0.0],[1.5,0.0],[0.0,2.0],[0.0,0.0]]") ≡ None
unfolding lex content punctuate word after_number value items members
boxed = refl

identified : read (codes "\"type\":\"Feature\",\"properties\":{},\"id\":[]") (codes "[[0.0,0.0],[1.5,0.0],[0.0,2.0],[0.0,0.0]]") ≡ None
unfolding lex content punctuate word after_number value items members
identified = refl

-- collections: of another geometry, with a comma too many, with something behind
point : geojson_polygons (codes "{\"type\":\"FeatureCollection\",\"features\":[{\"type\":\"Feature\",\"properties\":null,\"geometry\":{\"type\":\"Point\",\"coordinates\":[0,0]}}]}") ≡ None
unfolding lex content punctuate word after_number value items members
point = refl

comma_behind : geojson_polygons (codes "{\"type\":\"FeatureCollection\",\"features\":[],}") ≡ None
unfolding lex content punctuate word after_number value items members
comma_behind = refl

something_behind : geojson_polygons (codes "{\"type\":\"FeatureCollection\",\"features\":[]}]") ≡ None
unfolding lex content punctuate word after_number value items members
something_behind = refl

empty_collection : geojson_polygons (codes "{\"type\":\"FeatureCollection\",\"features\":[]}") ≡ Some []
unfolding lex content punctuate word after_number value items members
empty_collection = refl
