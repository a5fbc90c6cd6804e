-- The head of a document tells its page's box.
use Rattle.std.proofs.Common.{◌≡◌, ℕ, ◌^◌, ◌<◌, nat_le, ◌&&◌, true, if◌then◌else◌, List, ◌∷◌, ◌++◌, codes, refl, ap, ◌∙◌, append_assoc, Some, None, arith}
use Rattle.std.proofs.lemmas.Bool.Decides.{nat_tests}
use Rattle.std.proofs.lemmas.List.Splits.{slice_split_at}
use Rattle.std.proofs.lemmas.List.Elements.{All-append, All-cons}
use Rattle.std.specs.Prelude.{All, decimal, ◌==◌}
use Rattle.pt_core.specs.declared.trace.Trace.{Trace}
use Rattle.eps_backend.specs.EpsText.{comments_text, drawing_text, eps_text}
use Rattle.document_readings.specs.EpsBox.{box_by, box_in, box_of_lines, eps_box}
use Rattle.document_readings.specs.WholeNumbers.{natural_of}
use Rattle.document_readings.specs.TextLines.{spaced_words}
use Rattle.document_readings.proofs.Lines.{IsNoLineFeed, number_in_line, within_line}
use Rattle.document_readings.proofs.Naturals.{last_word, natural_read, word_before_space}

abbrev box_line : ℕ → ℕ → List ℕ
box_line width height = codes "%%BoundingBox: 0 0 " ++ (decimal width ++ 32 ∷ decimal height)

box_bytes : (w h rest : List ℕ) → (codes "%!PS-Adobe-3.0 EPSF-3.0\n%%BoundingBox: 0 0 " ++ w ++ codes " " ++ h ++ codes "\n%%EndComments\n") ++ rest
    ≡ codes "%!PS-Adobe-3.0 EPSF-3.0\n" ++ ((codes "%%BoundingBox: 0 0 " ++ (w ++ 32 ∷ h)) ++ 10 ∷ (codes "%%EndComments\n" ++ rest))
box_bytes w h rest = simp append_assoc

box_line_within : (width height : ℕ) → width < 2 ^ 64 → height < 2 ^ 64 → All IsNoLineFeed (box_line width height)
box_line_within width height wide high =
    All-append IsNoLineFeed (codes "%%BoundingBox: 0 0 ") (decimal width ++ 32 ∷ decimal height) (within_line (codes "%%BoundingBox: 0 0 ") refl)
    (All-append IsNoLineFeed (decimal width) (32 ∷ decimal height) (number_in_line width wide) (All-cons IsNoLineFeed 32 (decimal height) refl (number_in_line height high)))

none_is_least : (n : ℕ) → nat_le 0 n ≡ true
none_is_least n = grind (arith, nat_tests)

box_line_read : (width height : ℕ) → width < 2 ^ 64 → height < 2 ^ 64
    → box_in (spaced_words (box_line width height)) ≡ Some (record { left = 0; bottom = 0; right = width; top = height })
box_line_read width height wide high =
    ap (λ ws. box_in (codes "%%BoundingBox:" ∷ codes "0" ∷ codes "0" ∷ ws)) (word_before_space width (decimal height) wide)
    ∙ ap (λ ws. box_in (codes "%%BoundingBox:" ∷ codes "0" ∷ codes "0" ∷ decimal width ∷ ws)) (last_word height high)
    ∙ ap (λ w. box_by (Some 0) (Some 0) w (natural_of (decimal height))) (natural_read width wide)
    ∙ ap (λ h. box_by (Some 0) (Some 0) (Some width) h) (natural_read height high)
    ∙ ap (λ wide. if wide && nat_le 0 height then Some (record { left = 0; bottom = 0; right = width; top = height }) else None) (none_is_least width)
    ∙ ap (λ high. if high then Some (record { left = 0; bottom = 0; right = width; top = height }) else None) (none_is_least height)

head_boxed : (width height : ℕ) (rest : List ℕ) → width < 2 ^ 64 → height < 2 ^ 64
    → eps_box (comments_text width height ++ rest) ≡ Some (record { left = 0; bottom = 0; right = width; top = height })
head_boxed width height rest wide high =
    ap eps_box (box_bytes (decimal width) (decimal height) rest)
    ∙ ap (λ ls. box_of_lines (codes "%!PS-Adobe-3.0 EPSF-3.0" ∷ ls)) (slice_split_at (λ b. b == 10) (box_line width height) 10 (codes "%%EndComments\n" ++ rest) (box_line_within width height wide high) refl)
    ∙ box_line_read width height wide high

pub document_boxed : (unit : ℕ) (trace : Trace) → trace.width < 2 ^ 32 → trace.height < 2 ^ 32
    → eps_box (eps_text unit trace) ≡ Some (record { left = 0; bottom = 0; right = trace.width; top = trace.height })
document_boxed unit trace wide high =
    ap eps_box (append_assoc (comments_text trace.width trace.height) (drawing_text unit trace) (codes "%%EOF\n"))
    ∙ head_boxed trace.width trace.height (drawing_text unit trace ++ codes "%%EOF\n") (omega arith) (omega arith)
