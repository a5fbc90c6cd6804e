-- Values of attributes are read as they stand where their bytes need no escape.
use Rattle.std.proofs.Common.{◌≡◌, ℕ, ◌≤◌, Bool, true, false, not, cond, List, [], ◌∷◌, ◌++◌, refl, ap, sym, ◌∙◌, append_assoc, Option, arith}
use Rattle.std.proofs.lemmas.Bool.{true≢false}
use Rattle.std.proofs.lemmas.Bool.Decides.{nat_tests}
use Rattle.std.proofs.lemmas.List.{append-nil}
use Rattle.std.specs.Prelude.{option_map, ◌==◌, ◌&&◌}
use Rattle.outline_pen.specs.declared.pen.Mark.{Mark}
use Rattle.outline_pen.specs.declared.pen.Mark.TheVariants as mark
use Rattle.pt_base.specs.Whole.{IsDigit}
use Rattle.pt_core.specs.declared.piece.Piece.{Piece}
use Rattle.svg_backend.specs.SvgText.{svg_mark}
use Rattle.document_readings.specs.Places.{AreInReach}
use Rattle.document_readings.specs.TraceShapes.{path_data}
use Rattle.document_readings.specs.TextLines.{is_white_space}
use Rattle.document_readings.specs.XmlTags.{TagPart, attribute, name_start, name_more, space, less, greater, slash, question, equals, quote, ampersand, other, outside, begins_name, continues_name, is_printable, XmlState, valuing, valued, tag_step, parts_from}
use Rattle.document_readings.proofs.OutlineBytes.{is_stroke, more_pass}
use Rattle.document_readings.proofs.BytesPass.{all_pass, both_true}

-- a printable character that is no quotation mark, no `<` and no `&`
abbrev pub is_value_byte : ℕ → Bool
is_value_byte b = is_printable b && (not (b == 34) && (not (b == 60) && not (b == 38)))

pub digit_is_value : (b : ℕ) → IsDigit b → is_value_byte b ≡ true
digit_is_value b d = grind (arith, nat_tests)

value_step : (name value : List ℕ) (byte : ℕ) (go_on : XmlState → Option (List TagPart)) (ns nm s q l g sl e qu a p : Bool) → (s ≡ true → byte ≡ 32) → (p && (not q && (not l && not a))) ≡ true
    → tag_step (valuing name value) (cond ns name_start (cond nm name_more (cond s space (cond q quote (cond l less (cond g greater (cond sl slash (cond e equals (cond qu question (cond a ampersand (cond p other outside))))))))))) byte go_on
    ≡ go_on (valuing name (value ++ byte ∷ []))
value_step name value byte go_on true nm s q l g sl e qu a p blank h = refl
value_step name value byte go_on false true s q l g sl e qu a p blank h = refl
value_step name value byte go_on false false true q l g sl e qu a p blank h = ap (λ b. go_on (valuing name (value ++ b ∷ []))) (sym (blank refl))
value_step name value byte go_on false false false true l g sl e qu a true blank h = absurd (true≢false (sym h))
value_step name value byte go_on false false false true l g sl e qu a false blank h = absurd (true≢false (sym h))
value_step name value byte go_on false false false false true g sl e qu a true blank h = absurd (true≢false (sym h))
value_step name value byte go_on false false false false true g sl e qu a false blank h = absurd (true≢false (sym h))
value_step name value byte go_on false false false false false true sl e qu a p blank h = refl
value_step name value byte go_on false false false false false false true e qu a p blank h = refl
value_step name value byte go_on false false false false false false false true qu a p blank h = refl
value_step name value byte go_on false false false false false false false false true a p blank h = refl
value_step name value byte go_on false false false false false false false false false true true blank h = absurd (true≢false (sym h))
value_step name value byte go_on false false false false false false false false false true false blank h = absurd (true≢false (sym h))
value_step name value byte go_on false false false false false false false false false false true blank h = refl
value_step name value byte go_on false false false false false false false false false false false blank h = absurd (true≢false (sym h))

blank_is_space : (b : ℕ) → is_value_byte b ≡ true → is_white_space b ≡ true → b ≡ 32
blank_is_space b plain white = grind (arith, nat_tests)

values_pass : (name value bs rest : List ℕ) → all_pass is_value_byte bs ≡ true → parts_from (valuing name value) (bs ++ rest) ≡ parts_from (valuing name (value ++ bs)) rest
values_pass name value [] rest plain = ap (λ v. parts_from (valuing name v) rest) (sym (append-nil value))
values_pass name value (b ∷ bs) rest plain =
    let both = both_true (is_value_byte b) (all_pass is_value_byte bs) plain in
    value_step name value b (λ next. parts_from next (bs ++ rest)) (begins_name b) (continues_name b) (is_white_space b) (b == 34) (b == 60) (b == 62) (b == 47) (b == 61) (b == 63) (b == 38) (is_printable b)
    (blank_is_space b both.0) both.0
    ∙ values_pass name (value ++ b ∷ []) bs rest both.1
    ∙ ap (λ v. parts_from (valuing name v) rest) (append_assoc value (b ∷ []) bs)

-- a value up to its closing quotation mark
pub value_read : (name value rest : List ℕ) → all_pass is_value_byte value ≡ true
    → parts_from (valuing name []) (value ++ 34 ∷ rest) ≡ option_map (λ parts. attribute (record { name = name; value = value }) ∷ parts) (parts_from valued rest)
value_read name value rest plain = values_pass name [] value (34 ∷ rest) plain

-- path data is such a value
stroke_is_value : (m : Mark) → is_stroke m ≡ true → all_pass is_value_byte (svg_mark m) ≡ true
stroke_is_value mark.Shape h = absurd (true≢false (sym h))
stroke_is_value mark.Shaped h = absurd (true≢false (sym h))
stroke_is_value mark.Next h = refl
stroke_is_value mark.Start h = refl
stroke_is_value mark.Started h = refl
stroke_is_value mark.Line h = refl
stroke_is_value mark.Lined h = refl
stroke_is_value mark.Curve h = refl
stroke_is_value mark.Curved h = refl
stroke_is_value mark.Closed h = refl

pub data_is_value : (unit : ℕ) (outlines : List (List Piece)) → unit ≤ 1000 → AreInReach outlines → all_pass is_value_byte (path_data unit outlines) ≡ true
data_is_value unit [] few near = refl
data_is_value unit (pieces ∷ outlines) few near = more_pass is_value_byte digit_is_value refl refl svg_mark stroke_is_value unit few (pieces ∷ outlines) near
