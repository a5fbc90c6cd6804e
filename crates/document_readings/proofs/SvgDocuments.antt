-- A document of vector graphics is read as its trace's picture.
use Rattle.std.proofs.Common.{◌≡◌, ℕ, ◌*◌, ◌^◌, ◌<◌, ◌≤◌, Bool, true, false, List, [], ◌∷◌, ◌++◌, codes, flat_map, map, refl, ap, sym, ◌∙◌, append_assoc, Some, arith}
use Rattle.std.proofs.lemmas.List.{append-nil}
use Rattle.std.proofs.lemmas.List.Elements.{All-head, All-tail}
use Rattle.std.proofs.Math.Nat.{mul-le-mul}
use Rattle.std.specs.Prelude.{decimal, All, option_map, option_and_then}
use Rattle.pt_core.specs.declared.piece.Piece.{Piece}
use Rattle.pt_core.specs.declared.trace.Group.{Group}
use Rattle.pt_core.specs.declared.trace.Trace.{Trace}
use Rattle.pt_core.specs.Outlines.{outline_at}
use Rattle.outline_pen.specs.Shapes.{shape_text, flat_text, group_text}
use Rattle.svg_backend.specs.SvgText.{svg_mark, paths_text, head_text, svg_text}
use Rattle.document_readings.specs.Drawn.{Subpath}
use Rattle.document_readings.specs.WholeNumbers.{nothing}
use Rattle.document_readings.specs.Places.{AreInReach, outline_subpath}
use Rattle.document_readings.specs.SvgPicture.{up_the_page, trace_picture}
use Rattle.document_readings.specs.SvgReading.{View, picture_in, group_in, shapes_in, path_in, svg_picture, length_from, view_in}
use Rattle.document_readings.specs.TraceShapes.{path_data, group_outlines, one_shape, shapes_of}
use Rattle.document_readings.specs.XmlTags as xml
use Rattle.document_readings.specs.XmlTags.{Attribute, TagPart, begin, attribute, opened, empty, end, parts_from}
use Rattle.document_readings.specs.XmlTree.{Element, element, Elements, none, behind, OpenElement, growing, grown, grow_all, closed_root, xml_root}
use Rattle.document_readings.proofs.BytesPass.{all_pass, decimal_passes, passes_append}
use Rattle.document_readings.proofs.OutlineBytes.{shapes_near}
use Rattle.document_readings.proofs.PathReading.{data_drawn}
use Rattle.document_readings.proofs.SvgParts.{points_read, view_read, transforms_read}
use Rattle.document_readings.proofs.ValueBytes.{data_is_value, digit_is_value, is_value_byte, value_read}

abbrev named : List ℕ → List ℕ → Attribute
named name value = record { name = name; value = value }

-- a path element, around its data
abbrev element_text : List ℕ → List ℕ
element_text shape_data = codes "<path fill-rule=\"evenodd\" d=\"" ++ (shape_data ++ codes "\"/>\n")

abbrev path_attributes : List ℕ → List Attribute
path_attributes shape_data = named (codes "fill-rule") (codes "evenodd") ∷ named (codes "d") shape_data ∷ []

abbrev element_parts : List ℕ → List TagPart
element_parts shape_data = begin (codes "path") ∷ attribute (named (codes "fill-rule") (codes "evenodd")) ∷ attribute (named (codes "d") shape_data) ∷ empty ∷ []

element_read : (shape_data rest : List ℕ) (parts : List TagPart) → all_pass is_value_byte shape_data ≡ true → parts_from xml.between rest ≡ Some parts
    → parts_from xml.between (element_text shape_data ++ rest) ≡ Some (element_parts shape_data ++ parts)
element_read shape_data rest parts plain reads =
    let regrouped : element_text shape_data ++ rest ≡ codes "<path fill-rule=\"evenodd\" d=\"" ++ (shape_data ++ 34 ∷ (codes "/>\n" ++ rest)) = simp append_assoc in
    ap (parts_from xml.between) regrouped
    ∙ ap (λ o. option_map (λ ps. begin (codes "path") ∷ ps) (option_map (λ ps. attribute (named (codes "fill-rule") (codes "evenodd")) ∷ ps) o))
    (value_read (codes "d") shape_data (codes "/>\n" ++ rest) plain ∙ ap (λ o. option_map (λ ps. attribute (named (codes "d") shape_data) ∷ ps) (option_map (λ ps. empty ∷ ps) o)) reads)

-- the paths of shapes
abbrev shapes_text : ℕ → List (List (List Piece)) → List ℕ
shapes_text unit shapes = flat_map (λ shape. element_text (path_data unit shape)) shapes

abbrev shapes_parts : ℕ → List (List (List Piece)) → List TagPart
shapes_parts unit shapes = flat_map (λ shape. element_parts (path_data unit shape)) shapes

shapes_read : (unit : ℕ) (shapes : List (List (List Piece))) (rest : List ℕ) (parts : List TagPart) → unit ≤ 1000 → All AreInReach shapes
    → parts_from xml.between rest ≡ Some parts → parts_from xml.between (shapes_text unit shapes ++ rest) ≡ Some (shapes_parts unit shapes ++ parts)
shapes_read unit [] rest parts few near reads = reads
shapes_read unit (shape ∷ shapes) rest parts few near reads =
    ap (parts_from xml.between) (append_assoc (element_text (path_data unit shape)) (shapes_text unit shapes) rest)
    ∙ element_read (path_data unit shape) (shapes_text unit shapes ++ rest) (shapes_parts unit shapes ++ parts)
    (data_is_value unit shape few (All-head AreInReach shape shapes near))
    (shapes_read unit shapes rest parts few (All-tail AreInReach shape shapes near) reads)

-- they are what the document has
shape_bytes : (unit : ℕ) (first : List Piece) (more : List (List Piece)) → shape_text svg_mark unit first more ≡ element_text (path_data unit (first ∷ more))
shape_bytes unit first more = simp append_assoc

groups_bytes : (unit : ℕ) (outlines : List (List Piece)) (groups : List Group)
    → flat_map (group_text svg_mark unit outlines) groups ≡ shapes_text unit (map (group_outlines outlines) groups)
groups_bytes unit outlines [] = refl
groups_bytes unit outlines (group ∷ groups) =
    ap (λ t. t ++ flat_map (group_text svg_mark unit outlines) groups) (shape_bytes unit (outline_at outlines group.outer) (map (outline_at outlines) group.holes))
    ∙ ap (λ t. element_text (path_data unit (group_outlines outlines group)) ++ t) (groups_bytes unit outlines groups)

flat_bytes : (unit : ℕ) (outlines : List (List Piece)) → flat_text svg_mark unit outlines ≡ shapes_text unit (one_shape outlines)
flat_bytes unit [] = refl
flat_bytes unit (first ∷ more) = shape_bytes unit first more ∙ sym (append-nil (element_text (path_data unit (first ∷ more))))

paths_bytes : (unit : ℕ) (flat : Bool) (trace : Trace) → paths_text unit flat trace ≡ shapes_text unit (shapes_of flat trace)
paths_bytes unit true trace = flat_bytes unit trace.outlines
paths_bytes unit false trace = groups_bytes unit trace.outlines trace.groups

-- the tags before the paths
abbrev size_value : ℕ → List ℕ
size_value n = decimal n ++ codes "pt"

abbrev view_value : ℕ → ℕ → List ℕ
view_value width height = codes "0 0 " ++ decimal width ++ codes " " ++ decimal height

abbrev upwards_value : ℕ → List ℕ
upwards_value height = codes "translate(0," ++ decimal height ++ codes ") scale(1,-1)"

abbrev root_attributes : ℕ → ℕ → ℕ → List Attribute
root_attributes unit width height =
    named (codes "version") (codes "1.0") ∷ named (codes "xmlns") (codes "http://www.w3.org/2000/svg") ∷ named (codes "width") (size_value width) ∷ named (codes "height") (size_value height)
    ∷ named (codes "viewBox") (view_value (width * unit) (height * unit)) ∷ []

abbrev group_attributes : ℕ → ℕ → List Attribute
group_attributes unit height =
    named (codes "transform") (upwards_value (height * unit)) ∷ named (codes "fill") (codes "#000000") ∷ named (codes "stroke") (codes "none") ∷ []

abbrev head_parts : ℕ → ℕ → ℕ → List TagPart
head_parts unit width height =
    begin (codes "svg") ∷ attribute (named (codes "version") (codes "1.0")) ∷ attribute (named (codes "xmlns") (codes "http://www.w3.org/2000/svg"))
    ∷ attribute (named (codes "width") (size_value width)) ∷ attribute (named (codes "height") (size_value height))
    ∷ attribute (named (codes "viewBox") (view_value (width * unit) (height * unit))) ∷ opened
    ∷ begin (codes "g") ∷ attribute (named (codes "transform") (upwards_value (height * unit))) ∷ attribute (named (codes "fill") (codes "#000000"))
    ∷ attribute (named (codes "stroke") (codes "none")) ∷ opened ∷ []

sizes_are_values : (n : ℕ) → n < 2 ^ 64 → all_pass is_value_byte (size_value n) ≡ true
sizes_are_values n small = passes_append is_value_byte (decimal n) (codes "pt") (decimal_passes is_value_byte digit_is_value n small) refl

views_are_values : (width height : ℕ) → width < 2 ^ 64 → height < 2 ^ 64 → all_pass is_value_byte (view_value width height) ≡ true
views_are_values width height wide high =
    passes_append is_value_byte (codes "0 0 " ++ decimal width ++ codes " ") (decimal height)
    (passes_append is_value_byte (codes "0 0 " ++ decimal width) (codes " ") (passes_append is_value_byte (codes "0 0 ") (decimal width) refl (decimal_passes is_value_byte digit_is_value width wide)) refl) (decimal_passes is_value_byte digit_is_value height high)

upwards_are_values : (height : ℕ) → height < 2 ^ 64 → all_pass is_value_byte (upwards_value height) ≡ true
upwards_are_values height high =
    passes_append is_value_byte (codes "translate(0," ++ decimal height) (codes ") scale(1,-1)") (passes_append is_value_byte (codes "translate(0,") (decimal height) refl (decimal_passes is_value_byte digit_is_value height high)) refl

spread : (a b w c h d wide s high e f up g rest : List ℕ)
    → (a ++ ((b ++ w ++ c ++ h) ++ (d ++ wide ++ s ++ high ++ e)) ++ (f ++ up ++ g)) ++ rest
    ≡ a ++ (b ++ (w ++ (c ++ (h ++ (d ++ (wide ++ (s ++ (high ++ (e ++ (f ++ (up ++ (g ++ rest))))))))))))
spread a b w c h d wide s high e f up g rest = simp append_assoc

values_spread : (x w p q hs h vb z wide s high gt t up sc fl rest : List ℕ)
    → x ++ ((w ++ p) ++ (q ++ (hs ++ ((h ++ p) ++ (q ++ (vb ++ ((z ++ wide ++ s ++ high) ++ (q ++ (gt ++ ((t ++ up ++ sc) ++ (q ++ (fl ++ rest))))))))))))
    ≡ x ++ (w ++ (p ++ (q ++ (hs ++ (h ++ (p ++ (q ++ (vb ++ (z ++ (wide ++ (s ++ (high ++ (q ++ (gt ++ (t ++ (up ++ (sc ++ (q ++ (fl ++ rest)))))))))))))))))))
values_spread x w p q hs h vb z wide s high gt t up sc fl rest = simp append_assoc

head_bytes : (w h wide high up rest : List ℕ)
    → (codes "<?xml version=\"1.0\" standalone=\"no\"?>\n<svg version=\"1.0\" xmlns=\"http://www.w3.org/2000/svg\" "
    ++ ((codes "width=\"" ++ w ++ codes "pt\" height=\"" ++ h) ++ (codes "pt\" viewBox=\"0 0 " ++ wide ++ codes " " ++ high ++ codes "\">\n"))
    ++ (codes "<g transform=\"translate(0," ++ up ++ codes ") scale(1,-1)\" fill=\"#000000\" stroke=\"none\">\n")) ++ rest
    ≡ codes "<?xml version=\"1.0\" standalone=\"no\"?>\n<svg version=\"1.0\" xmlns=\"http://www.w3.org/2000/svg\" width=\""
    ++ ((w ++ codes "pt") ++ 34 ∷ (codes " height=\"" ++ ((h ++ codes "pt") ++ 34 ∷ (codes " viewBox=\"" ++ ((codes "0 0 " ++ wide ++ codes " " ++ high)
    ++ 34 ∷ (codes ">\n<g transform=\"" ++ ((codes "translate(0," ++ up ++ codes ") scale(1,-1)") ++ 34 ∷ (codes " fill=\"#000000\" stroke=\"none\">\n" ++ rest))))))))
head_bytes w h wide high up rest =
    spread (codes "<?xml version=\"1.0\" standalone=\"no\"?>\n<svg version=\"1.0\" xmlns=\"http://www.w3.org/2000/svg\" ") (codes "width=\"") w (codes "pt\" height=\"") h
    (codes "pt\" viewBox=\"0 0 ") wide (codes " ") high (codes "\">\n") (codes "<g transform=\"translate(0,") up (codes ") scale(1,-1)\" fill=\"#000000\" stroke=\"none\">\n") rest
    ∙ sym (values_spread (codes "<?xml version=\"1.0\" standalone=\"no\"?>\n<svg version=\"1.0\" xmlns=\"http://www.w3.org/2000/svg\" width=\"") w (codes "pt") (codes "\"") (codes " height=\"") h
    (codes " viewBox=\"") (codes "0 0 ") wide (codes " ") high (codes ">\n<g transform=\"") (codes "translate(0,") up (codes ") scale(1,-1)") (codes " fill=\"#000000\" stroke=\"none\">\n") rest)

-- a value, and what follows its quotation mark
value_then : (name value rest : List ℕ) (parts : List TagPart) → all_pass is_value_byte value ≡ true → parts_from xml.valued rest ≡ Some parts
    → parts_from (xml.valuing name []) (value ++ 34 ∷ rest) ≡ Some (attribute (named name value) ∷ parts)
value_then name value rest parts plain reads = value_read name value rest plain ∙ ap (option_map (λ ps. attribute (named name value) ∷ ps)) reads

head_read : (unit width height : ℕ) (rest : List ℕ) (parts : List TagPart) → width < 2 ^ 64 → height < 2 ^ 64 → width * unit < 2 ^ 64 → height * unit < 2 ^ 64
    → parts_from xml.between rest ≡ Some parts → parts_from xml.start (head_text unit width height ++ rest) ≡ Some (head_parts unit width height ++ parts)
head_read unit width height rest parts wide high wide_units high_units reads =
    let colour = attribute (named (codes "fill") (codes "#000000")) in
    let stroke = attribute (named (codes "stroke") (codes "none")) in
    let up = upwards_value (height * unit) in
    let view = view_value (width * unit) (height * unit) in
    let behind_up = codes " fill=\"#000000\" stroke=\"none\">\n" ++ rest in
    let up_parts = colour ∷ stroke ∷ opened ∷ parts in
    let last : parts_from xml.valued behind_up ≡ Some up_parts =
    ap (λ o. option_map (λ ps. colour ∷ ps) (option_map (λ ps. stroke ∷ ps) (option_map (λ ps. opened ∷ ps) o))) reads in
    let behind_view = codes ">\n<g transform=\"" ++ (up ++ 34 ∷ behind_up) in
    let view_parts = opened ∷ begin (codes "g") ∷ attribute (named (codes "transform") up) ∷ up_parts in
    let third : parts_from xml.valued behind_view ≡ Some view_parts =
    ap (λ o. option_map (λ ps. opened ∷ ps) (option_map (λ ps. begin (codes "g") ∷ ps) o))
    (value_then (codes "transform") up behind_up up_parts (upwards_are_values (height * unit) high_units) last) in
    let behind_height = codes " viewBox=\"" ++ (view ++ 34 ∷ behind_view) in
    let height_parts = attribute (named (codes "viewBox") view) ∷ view_parts in
    let second : parts_from xml.valued behind_height ≡ Some height_parts =
    value_then (codes "viewBox") view behind_view view_parts (views_are_values (width * unit) (height * unit) wide_units high_units) third in
    let behind_width = codes " height=\"" ++ (size_value height ++ 34 ∷ behind_height) in
    let width_parts = attribute (named (codes "height") (size_value height)) ∷ height_parts in
    let first : parts_from xml.valued behind_width ≡ Some width_parts =
    value_then (codes "height") (size_value height) behind_height height_parts (sizes_are_values height high) second in
    let sizes = value_then (codes "width") (size_value width) behind_width width_parts (sizes_are_values width wide) first in
    ap (parts_from xml.start) (head_bytes (decimal width) (decimal height) (decimal (width * unit)) (decimal (height * unit)) (decimal (height * unit)) rest)
    ∙ ap (λ o. option_map (λ ps. begin (codes "svg") ∷ ps) (option_map (λ ps. attribute (named (codes "version") (codes "1.0")) ∷ ps)
    (option_map (λ ps. attribute (named (codes "xmlns") (codes "http://www.w3.org/2000/svg")) ∷ ps) o))) sizes

-- the whole text
units_fit : (side unit : ℕ) → side < 2 ^ 32 → unit ≤ 1000 → side * unit ≤ 2 ^ 32 * 1000
units_fit side unit small few = let most : side ≤ 2 ^ 32 = omega arith in mul-le-mul most few

document_parts : (unit : ℕ) (flat : Bool) (trace : Trace) → unit ≤ 1000 → trace.width < 2 ^ 32 → trace.height < 2 ^ 32 → AreInReach trace.outlines
    → parts_from xml.start (svg_text unit flat trace) ≡ Some (head_parts unit trace.width trace.height ++ (shapes_parts unit (shapes_of flat trace) ++ (end (codes "g") ∷ end (codes "svg") ∷ [])))
document_parts unit flat trace few wide high near =
    let wide_units : trace.width * unit ≤ 2 ^ 32 * 1000 = units_fit trace.width unit wide few in
    let high_units : trace.height * unit ≤ 2 ^ 32 * 1000 = units_fit trace.height unit high few in
    let tail = codes "</g>\n</svg>\n" in
    let paths = shapes_read unit (shapes_of flat trace) tail (end (codes "g") ∷ end (codes "svg") ∷ []) few (shapes_near flat trace near) refl in
    ap (parts_from xml.start) (append_assoc (head_text unit trace.width trace.height) (paths_text unit flat trace) tail)
    ∙ ap (λ t. parts_from xml.start (head_text unit trace.width trace.height ++ (t ++ tail))) (paths_bytes unit flat trace)
    ∙ head_read unit trace.width trace.height (shapes_text unit (shapes_of flat trace) ++ tail) (shapes_parts unit (shapes_of flat trace) ++ (end (codes "g") ∷ end (codes "svg") ∷ []))
    (omega arith) (omega arith) (omega arith) (omega arith) paths

-- the elements that they are
abbrev path_element : ℕ → List (List Piece) → Element
path_element unit shape = element (codes "path") (path_attributes (path_data unit shape)) none

abbrev with_paths : ℕ → Elements → List (List (List Piece)) → Elements
with_paths unit before [] = before
with_paths unit before (shape ∷ shapes) = with_paths unit (behind before (path_element unit shape)) shapes

paths_grow : (unit : ℕ) (name : List ℕ) (attributes : List Attribute) (opens : List OpenElement) (before : Elements) (shapes : List (List (List Piece))) (parts : List TagPart)
    → grow_all (growing (record { name = name; attributes = attributes; children = before } ∷ opens)) (shapes_parts unit shapes ++ parts)
    ≡ grow_all (growing (record { name = name; attributes = attributes; children = with_paths unit before shapes } ∷ opens)) parts
paths_grow unit name attributes opens before [] parts = refl
paths_grow unit name attributes opens before (shape ∷ shapes) parts = paths_grow unit name attributes opens (behind before (path_element unit shape)) shapes parts

abbrev document_root : ℕ → Bool → Trace → Element
document_root unit flat trace =
    element (codes "svg") (root_attributes unit trace.width trace.height)
    (behind none (element (codes "g") (group_attributes unit trace.height) (with_paths unit none (shapes_of flat trace))))

document_grows : (unit : ℕ) (flat : Bool) (trace : Trace)
    → grow_all (growing []) (head_parts unit trace.width trace.height ++ (shapes_parts unit (shapes_of flat trace) ++ (end (codes "g") ∷ end (codes "svg") ∷ []))) ≡ Some (grown (document_root unit flat trace))
document_grows unit flat trace =
    paths_grow unit (codes "g") (group_attributes unit trace.height)
    (record { name = codes "svg"; attributes = root_attributes unit trace.width trace.height; children = none } ∷ []) none (shapes_of flat trace) (end (codes "g") ∷ end (codes "svg") ∷ [])

document_rooted : (unit : ℕ) (flat : Bool) (trace : Trace) → unit ≤ 1000 → trace.width < 2 ^ 32 → trace.height < 2 ^ 32 → AreInReach trace.outlines
    → xml_root (svg_text unit flat trace) ≡ Some (document_root unit flat trace)
document_rooted unit flat trace few wide high near =
    ap (λ o. option_and_then closed_root (option_and_then (grow_all (growing [])) o)) (document_parts unit flat trace few wide high near)
    ∙ ap (option_and_then closed_root) (document_grows unit flat trace)

-- and what they show
paths_shown : (unit : ℕ) (before : Elements) (shown : List (List Subpath)) (shapes : List (List (List Piece))) → unit ≤ 1000 → All AreInReach shapes
    → shapes_in before ≡ Some shown → shapes_in (with_paths unit before shapes) ≡ Some (shown ++ map (map (outline_subpath unit)) shapes)
paths_shown unit before shown [] few near reads = reads ∙ ap Some (sym (append-nil shown))
paths_shown unit before shown (shape ∷ shapes) few near reads =
    let here : shapes_in (behind before (path_element unit shape)) ≡ Some (shown ++ map (outline_subpath unit) shape ∷ []) =
    ap (option_and_then (λ done. option_map (λ one. done ++ one ∷ []) (path_in (codes "path") (path_attributes (path_data unit shape)) none))) reads
    ∙ ap (option_map (λ one. shown ++ one ∷ [])) (data_drawn unit shape few (All-head AreInReach shape shapes near)) in
    paths_shown unit (behind before (path_element unit shape)) (shown ++ map (outline_subpath unit) shape ∷ []) shapes few (All-tail AreInReach shape shapes near) here
    ∙ ap Some (append_assoc shown (map (outline_subpath unit) shape ∷ []) (map (map (outline_subpath unit)) shapes))

-- so the text is the trace's picture
pub document_shown : (unit : ℕ) (flat : Bool) (trace : Trace) → unit ≤ 1000 → trace.width < 2 ^ 32 → trace.height < 2 ^ 32 → AreInReach trace.outlines
    → svg_picture (svg_text unit flat trace) ≡ Some (trace_picture unit flat trace)
document_shown unit flat trace few wide high near =
    let wide_units : trace.width * unit ≤ 2 ^ 32 * 1000 = units_fit trace.width unit wide few in
    let high_units : trace.height * unit ≤ 2 ^ 32 * 1000 = units_fit trace.height unit high few in
    let paths = with_paths unit none (shapes_of flat trace) in
    let children = behind none (element (codes "g") (group_attributes unit trace.height) paths) in
    let whole_view : View = record { x = 0; y = 0; width = trace.width * unit; height = trace.height * unit } in
    let shown = paths_shown unit none [] (shapes_of flat trace) few (shapes_near flat trace near) refl in
    ap (option_and_then picture_in) (document_rooted unit flat trace few wide high near)
    ∙ ap (λ w. option_and_then (λ width. option_and_then (λ height. option_and_then (λ view. group_in width height view children)
    (view_in (view_value (trace.width * unit) (trace.height * unit)))) (length_from nothing (size_value trace.height))) w) (points_read trace.width (omega arith))
    ∙ ap (λ h. option_and_then (λ height. option_and_then (λ view. group_in trace.width height view children)
    (view_in (view_value (trace.width * unit) (trace.height * unit)))) h) (points_read trace.height (omega arith))
    ∙ ap (λ v. option_and_then (λ view. group_in trace.width trace.height view children) v) (view_read (trace.width * unit) (trace.height * unit) (omega arith) (omega arith))
    ∙ ap (λ t. option_and_then (λ transforms. option_map (λ shapes. record { width = trace.width; height = trace.height; view = whole_view; transforms = transforms; shapes = shapes }) (shapes_in paths)) t)
    (transforms_read (trace.height * unit) (omega arith))
    ∙ ap (λ o. option_map (λ shapes. record { width = trace.width; height = trace.height; view = whole_view; transforms = up_the_page (trace.height * unit); shapes = shapes }) o) shown
