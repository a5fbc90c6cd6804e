-- A GeoJSON text is read as its trace's polygons.
use Rattle.std.proofs.Common.{◌≡◌, ℕ, ◌-◌, ◌^◌, ◌<◌, ◌≤◌, ℤ, unsigned_abs, List, [], ◌∷◌, ◌++◌, codes, flat_map, map, reverse, length, refl, ap, sym, ◌∙◌, subst, append_assoc, Option, Some, arith}
use Rattle.std.proofs.lemmas.List.{append-nil, get_or-reverse, length-reverse}
use Rattle.std.proofs.lemmas.List.Elements.{All-head, All-tail}
use Rattle.std.specs.Prelude.{All, option_map, option_and_then}
use Rattle.json.specs.Token.{Token, begin_object, end_object, begin_array, end_array, key}
use Rattle.json.specs.Token as token
use Rattle.json.specs.Json.{Json, array, object, Items, no_items, item, no_members, member, number, string, value, if_last, max_depth, document}
use Rattle.json.specs.Lex.{tokens}
use Rattle.json.specs.Tree.{json_tokens, items_tokens, depth, items_depth}
use Rattle.json.proofs.Printed.Trees.{value-json_tokens}
use Rattle.pt_core.specs.declared.piece.Piece.{Piece}
use Rattle.pt_core.specs.declared.point.Point.{Point}
use Rattle.pt_core.specs.declared.trace.Group.{Group}
use Rattle.pt_core.specs.declared.trace.Trace.{Trace}
use Rattle.pt_core.specs.Floor.{rounded}
use Rattle.pt_core.specs.Outlines.{outline_at}
use Rattle.dxf_geojson.specs.Chords.{chord_points}
use Rattle.dxf_geojson.specs.DxfText.{pixels_text}
use Rattle.dxf_geojson.specs.GeoJsonText.{geojson_text}
use Rattle.document_readings.specs.GeoJsonReading.{number_in, all_of, list_in, pair_of, position_in, linear_ring, ring_in, polygon_rings, rings_in, feature_in, collection_in, geojson_polygons}
use Rattle.document_readings.specs.Places.{AreInReach}
use Rattle.document_readings.specs.Rings.{HasTwoPieces, HaveTwoPieces, position_of, ring_of, hole_ring_of, group_rings, trace_polygons}
use Rattle.document_readings.specs.TraceShapes.{group_outlines}
use Rattle.document_readings.proofs.Chords.{IsRoundable, outline_chords_within, thousandths_small}
use Rattle.document_readings.proofs.JsonTokens.{IsNumbered, ring_tokens, hole_points, feature_head, feature_tokens, geojson_tokens}
use Rattle.document_readings.proofs.Rings.{ring_is_linear, hole_ring_is_linear}
use Rattle.document_readings.proofs.Thousandths.{thousandths_are_number, thousandths_read}

-- the value of a text
abbrev items_of : {A : Type 0} → (A → Json) → List A → Items
items_of f [] = no_items
items_of f (x ∷ xs) = item (f x) (items_of f xs)

abbrev position_json : Point → Json
position_json p = array (item (number (pixels_text p.x)) (item (number (pixels_text p.y)) no_items))

abbrev ring_json : List Point → Json
ring_json points = array (items_of position_json points)

abbrev rings_json : List (List Piece) → Group → Json
rings_json outlines group = array (item (ring_json (chord_points (outline_at outlines group.outer))) (items_of (λ hole. ring_json (hole_points outlines hole)) group.holes))

abbrev feature_json : List (List Piece) → Group → Json
feature_json outlines group =
    object (member (codes "type") (string (codes "Feature")) (member (codes "properties") (object no_members)
    (member (codes "geometry") (object (member (codes "type") (string (codes "Polygon")) (member (codes "coordinates") (rings_json outlines group) no_members))) no_members)))

abbrev collection_json : List (List Piece) → List Group → Json
collection_json outlines groups =
    object (member (codes "type") (string (codes "FeatureCollection")) (member (codes "features") (array (items_of (feature_json outlines) groups)) no_members))

-- its tokens
items_tokens_of : {A : Type 0} (f : A → Json) (xs : List A) → items_tokens (items_of f xs) ≡ flat_map (λ x. json_tokens (f x)) xs ++ end_array ∷ []
items_tokens_of f [] = refl
items_tokens_of f (x ∷ xs) = ap (λ ts. json_tokens (f x) ++ ts) (items_tokens_of f xs) ∙ sym (append_assoc (json_tokens (f x)) (flat_map (λ y. json_tokens (f y)) xs) (end_array ∷ []))

same_texts : {A B : Type 0} (f g : A → List B) (xs : List A) → ((x : A) → f x ≡ g x) → flat_map f xs ≡ flat_map g xs
same_texts f g [] same = refl
same_texts f g (x ∷ xs) same = ap (λ t. t ++ flat_map f xs) (same x) ∙ ap (λ t. g x ++ t) (same_texts f g xs same)

ring_json_tokens : (points : List Point) → json_tokens (ring_json points) ≡ ring_tokens points
ring_json_tokens points = ap (λ ts. begin_array ∷ ts) (items_tokens_of position_json points)

rings_json_tokens : (outlines : List (List Piece)) (group : Group)
    → json_tokens (rings_json outlines group) ≡ begin_array ∷ (ring_tokens (chord_points (outline_at outlines group.outer)) ++ (flat_map (λ hole. ring_tokens (hole_points outlines hole)) group.holes ++ end_array ∷ []))
rings_json_tokens outlines group =
    let outer = chord_points (outline_at outlines group.outer) in
    ap (λ ts. begin_array ∷ (ts ++ items_tokens (items_of (λ hole. ring_json (hole_points outlines hole)) group.holes))) (ring_json_tokens outer)
    ∙ ap (λ ts. begin_array ∷ (ring_tokens outer ++ ts)) (items_tokens_of (λ hole. ring_json (hole_points outlines hole)) group.holes
    ∙ ap (λ ts. ts ++ end_array ∷ []) (same_texts (λ hole. json_tokens (ring_json (hole_points outlines hole))) (λ hole. ring_tokens (hole_points outlines hole)) group.holes (λ hole. ring_json_tokens (hole_points outlines hole))))

feature_json_tokens : (outlines : List (List Piece)) (group : Group) → json_tokens (feature_json outlines group) ≡ feature_tokens outlines group
feature_json_tokens outlines group =
    let outer = ring_tokens (chord_points (outline_at outlines group.outer)) in
    let holes = flat_map (λ hole. ring_tokens (hole_points outlines hole)) group.holes in
    ap (λ ts. begin_object ∷ key (codes "type") ∷ token.string (codes "Feature") ∷ key (codes "properties") ∷ begin_object ∷ end_object ∷ key (codes "geometry") ∷ begin_object
    ∷ key (codes "type") ∷ token.string (codes "Polygon") ∷ key (codes "coordinates") ∷ ((ts ++ end_object ∷ []) ++ end_object ∷ [])) (rings_json_tokens outlines group)
    ∙ ap (λ ts. feature_head ++ ts) (regrouped outer holes)
  where
    regrouped : (a b : List Token) → ((a ++ (b ++ end_array ∷ [])) ++ end_object ∷ []) ++ end_object ∷ [] ≡ a ++ (b ++ end_array ∷ end_object ∷ end_object ∷ [])
    regrouped a b = simp append_assoc

collection_json_tokens : (outlines : List (List Piece)) (groups : List Group)
    → json_tokens (collection_json outlines groups)
    ≡ begin_object ∷ key (codes "type") ∷ token.string (codes "FeatureCollection") ∷ key (codes "features") ∷ begin_array ∷ (flat_map (feature_tokens outlines) groups ++ (end_array ∷ end_object ∷ []))
collection_json_tokens outlines groups =
    ap (λ ts. begin_object ∷ key (codes "type") ∷ token.string (codes "FeatureCollection") ∷ key (codes "features") ∷ begin_array ∷ (ts ++ end_object ∷ []))
    (items_tokens_of (feature_json outlines) groups ∙ ap (λ ts. ts ++ end_array ∷ []) (same_texts (λ group. json_tokens (feature_json outlines group)) (feature_tokens outlines) groups (feature_json_tokens outlines)))
    ∙ ap (λ ts. begin_object ∷ key (codes "type") ∷ token.string (codes "FeatureCollection") ∷ key (codes "features") ∷ begin_array ∷ ts) (append_assoc (flat_map (feature_tokens outlines) groups) (end_array ∷ []) (end_object ∷ []))

-- how deep it nests
items_shallow : {A : Type 0} (f : A → Json) (n : ℕ) (xs : List A) → ((x : A) → depth (f x) ≤ n) → items_depth (items_of f xs) ≤ n
items_shallow f n [] each = omega arith
items_shallow f n (x ∷ xs) each = omega (arith, each x, items_shallow f n xs each)

ring_shallow : (points : List Point) → depth (ring_json points) ≤ 2
ring_shallow points = omega (arith, items_shallow position_json 1 points (λ p. omega arith))

feature_shallow : (outlines : List (List Piece)) (group : Group) → depth (feature_json outlines group) ≤ 5
feature_shallow outlines group =
    let outer = ring_shallow (chord_points (outline_at outlines group.outer)) in
    let holes = items_shallow (λ hole. ring_json (hole_points outlines hole)) 2 group.holes (λ hole. ring_shallow (hole_points outlines hole)) in
    omega arith

collection_shallow : (outlines : List (List Piece)) (groups : List Group) → depth (collection_json outlines groups) ≤ max_depth
collection_shallow outlines groups = omega (arith, items_shallow (feature_json outlines) 5 groups (feature_shallow outlines))

-- the text is this value
numbered : (p : Point) → IsRoundable p → IsNumbered p
numbered p near = record {
  x = thousandths_are_number (rounded p.x 1000) (thousandths_small p.x near.x);
  y = thousandths_are_number (rounded p.y 1000) (thousandths_small p.y near.y);
}

pub all_reversed : {A : Type 0} (P : A → Type 0) (xs : List A) → All P xs → All P (reverse xs)
all_reversed P xs all k d below =
    let within : k < length xs = omega (arith, length-reverse xs) in
    subst P (sym (get_or-reverse xs k d within)) (all (length xs - 1 - k) d (omega arith))

pub value_of_text : (trace : Trace) → AreInReach trace.outlines → document (geojson_text trace) ≡ Some (collection_json trace.outlines trace.groups)
value_of_text trace near =
    let j = collection_json trace.outlines trace.groups in
    let within = λ (i : ℕ). outline_chords_within trace.outlines i near in
    let are : (i : ℕ) → All IsNumbered (chord_points (outline_at trace.outlines i)) = λ i k d below. numbered _ (within i k d below) in
    let back : (i : ℕ) → All IsNumbered (hole_points trace.outlines i) = λ i. all_reversed IsNumbered (chord_points (outline_at trace.outlines i)) (are i) in
    let same : tokens (geojson_text trace) ≡ json_tokens j ++ [] = geojson_tokens trace.outlines are back trace.groups ∙ sym (collection_json_tokens trace.outlines trace.groups) ∙ sym (append-nil (json_tokens j)) in
    ap (λ ts. option_and_then (λ p. if_last p.0 p.1) (value max_depth ts)) same
    ∙ ap (option_and_then (λ p. if_last p.0 p.1)) (value-json_tokens j max_depth [] (collection_shallow trace.outlines trace.groups))

-- and read as these polygons
items_read : {A C : Type 0} (read : Json → Option C) (f : A → Json) (g : A → C) (xs : List A) → All (λ x. read (f x) ≡ Some (g x)) xs → all_of read (items_of f xs) ≡ Some (map g xs)
items_read read f g [] all = refl
items_read read f g (x ∷ xs) all =
    ap (option_and_then (λ a. option_map (λ more. a ∷ more) (all_of read (items_of f xs)))) (All-head (λ y. read (f y) ≡ Some (g y)) x xs all)
    ∙ ap (option_map (λ more. g x ∷ more)) (items_read read f g xs (All-tail (λ y. read (f y) ≡ Some (g y)) x xs all))

number_read : (c : ℤ) → unsigned_abs c ≤ 2 ^ 40 → number_in (number (pixels_text c)) ≡ Some (record { units = rounded c 1000; places = 3 })
number_read c small = thousandths_read (rounded c 1000) (thousandths_small c small)

position_read : (p : Point) → IsRoundable p → position_in (position_json p) ≡ Some (position_of p)
position_read p near =
    ap (λ x. option_and_then pair_of (option_and_then (λ a. option_map (λ more. a ∷ more) (option_and_then (λ b. option_map (λ more. b ∷ more) (Some [])) (number_in (number (pixels_text p.y))))) x)) (number_read p.x near.x)
    ∙ ap (λ y. option_and_then pair_of (option_map (λ more. record { units = rounded p.x 1000; places = 3 } ∷ more) (option_and_then (λ b. option_map (λ more. b ∷ more) (Some [])) y))) (number_read p.y near.y)

ring_read : (points : List Point) → All IsRoundable points → list_in position_in (ring_json points) ≡ Some (map position_of points)
ring_read points near = items_read position_in position_json position_of points (λ k d below. position_read _ (near k d below))

module _ (outlines : List (List Piece)) (near : AreInReach outlines) where
  within : (i : ℕ) → All IsRoundable (chord_points (outline_at outlines i))
  within i = outline_chords_within outlines i near

  outer_read : (i : ℕ) → HasTwoPieces (outline_at outlines i) → ring_in (ring_json (chord_points (outline_at outlines i))) ≡ Some (ring_of (outline_at outlines i))
  outer_read i two = ap (option_and_then linear_ring) (ring_read (chord_points (outline_at outlines i)) (within i)) ∙ ring_is_linear (outline_at outlines i) two

  hole_read : (hole : ℕ) → HasTwoPieces (outline_at outlines hole) → ring_in (ring_json (hole_points outlines hole)) ≡ Some (hole_ring_of (outline_at outlines hole))
  hole_read hole two =
      ap (option_and_then linear_ring) (ring_read (hole_points outlines hole) (all_reversed IsRoundable (chord_points (outline_at outlines hole)) (within hole)))
      ∙ hole_ring_is_linear (outline_at outlines hole) two

  holes_read : (holes : List ℕ) → All HasTwoPieces (map (outline_at outlines) holes)
      → all_of ring_in (items_of (λ hole. ring_json (hole_points outlines hole)) holes) ≡ Some (map (λ hole. hole_ring_of (outline_at outlines hole)) holes)
  holes_read [] two = refl
  holes_read (hole ∷ holes) two =
      ap (option_and_then (λ a. option_map (λ more. a ∷ more) (all_of ring_in (items_of (λ h. ring_json (hole_points outlines h)) holes))))
      (hole_read hole (All-head HasTwoPieces (outline_at outlines hole) (map (outline_at outlines) holes) two))
      ∙ ap (option_map (λ more. hole_ring_of (outline_at outlines hole) ∷ more)) (holes_read holes (All-tail HasTwoPieces (outline_at outlines hole) (map (outline_at outlines) holes) two))

  rings_read : (group : Group) → All HasTwoPieces (group_outlines outlines group) → rings_in (rings_json outlines group) ≡ Some (group_rings outlines group)
  rings_read group two =
      let outer = outline_at outlines group.outer in
      let inner = map (outline_at outlines) group.holes in
      let holes = items_of (λ hole. ring_json (hole_points outlines hole)) group.holes in
      ap (λ o. option_and_then polygon_rings (option_and_then (λ a. option_map (λ more. a ∷ more) (all_of ring_in holes)) o)) (outer_read group.outer (All-head HasTwoPieces outer inner two))
      ∙ ap (λ o. option_and_then polygon_rings (option_map (λ more. ring_of outer ∷ more) o)) (holes_read group.holes (All-tail HasTwoPieces outer inner two))

  collection_read : (groups : List Group) → All (λ group. All HasTwoPieces (group_outlines outlines group)) groups → collection_in (collection_json outlines groups) ≡ Some (map (group_rings outlines) groups)
  collection_read groups two = items_read feature_in (feature_json outlines) (group_rings outlines) groups (λ k d below. rings_read _ (two k d below))

pub polygons_of_text : (trace : Trace) → AreInReach trace.outlines → HaveTwoPieces trace → geojson_polygons (geojson_text trace) ≡ Some (trace_polygons trace)
polygons_of_text trace near two = ap (option_and_then collection_in) (value_of_text trace near) ∙ collection_read trace.outlines near trace.groups two
