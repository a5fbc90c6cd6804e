-- The document of a file's pages is read as these pages, and paints them one behind another.
use Rattle.std.proofs.Common.{◌≡◌, ℕ, suc, ◌+◌, ◌^◌, ◌<◌, ◌≤◌, Bool, true, false, not, cond, List, [], ◌∷◌, ◌++◌, codes, map, length, get_or, refl, ap, sym, ◌∙◌, append_assoc, Some, None, arith, length-append}
use Rattle.std.proofs.lemmas.Bool.Decides.{nat_tests}
use Rattle.std.proofs.lemmas.List.{append-nil, length-map}
use Rattle.std.proofs.lemmas.List.Elements.{All-head, All-tail, All-nil, All-cons, All-append, All-map}
use Rattle.std.proofs.lemmas.List.Splits.{slice_split_at}
use Rattle.std.specs.Prelude.{decimal, All, option_and_then, bytes_eq, ◌==◌, ◌&&◌, if◌then◌else◌}
use Rattle.std.specs.List.{concat}
use Rattle.outline_pen.specs.declared.pen.Mark.{Mark}
use Rattle.outline_pen.specs.declared.pen.Mark.TheVariants as mark
use Rattle.pt_base.specs.Whole.{IsDigit}
use Rattle.pt_core.specs.declared.trace.Trace.{Trace}
use Rattle.eps_backend.specs.EpsText.{eps_mark, drawing_text, ps_page_text, scale_text}
use Rattle.run_output.specs.Parts.{file_text, page_pieces, pages_text, prolog_text, trailer_text}
use Rattle.document_readings.specs.DscReading.{page, number, number_at_end, program, before_pages, in_page, in_trailer, counted, comment_of, dsc_line, dsc_step, is_told, pages_by, dsc_pages}
use Rattle.document_readings.specs.WholeNumbers.{natural_of}
use Rattle.document_readings.specs.Places.{AreInReach}
use Rattle.document_readings.specs.TextLines.{spaced_words, text_lines}
use Rattle.document_readings.proofs.BytesPass.{all_pass, both_true, passes_append, decimal_passes}
use Rattle.document_readings.proofs.Digits.{by_first_digit}
use Rattle.document_readings.proofs.Lines.{IsNoLineFeed, number_in_line, within_line}
use Rattle.document_readings.proofs.Naturals.{natural_read, word_before_space, last_word}
use Rattle.document_readings.proofs.OutlineBytes.{groups_pass, shapes_near}

-- no comment begins in such a text
abbrev pub is_no_percent : ℕ → Bool
is_no_percent b = not (b == 37)

digit_is_none : (b : ℕ) → IsDigit b → is_no_percent b ≡ true
digit_is_none b d = grind (arith, nat_tests)

mark_is_none : (m : Mark) → all_pass is_no_percent (eps_mark m) ≡ true
mark_is_none mark.Shape = refl
mark_is_none mark.Shaped = refl
mark_is_none mark.Next = refl
mark_is_none mark.Start = refl
mark_is_none mark.Started = refl
mark_is_none mark.Line = refl
mark_is_none mark.Lined = refl
mark_is_none mark.Curve = refl
mark_is_none mark.Curved = refl
mark_is_none mark.Closed = refl

-- the text is lines of a program
pub record IsProgram (text : List ℕ) : Type 0 where
  pub front : List ℕ
  pub ends : text ≡ front ++ 10 ∷ []
  pub plain : all_pass is_no_percent front ≡ true

scale_plain : (unit : ℕ) → unit ≤ 1000 → all_pass is_no_percent (scale_text unit) ≡ true
scale_plain unit few =
    passes_append is_no_percent (codes "gsave\n1 " ++ decimal unit) (codes " div dup scale\n")
    (passes_append is_no_percent (codes "gsave\n1 ") (decimal unit) refl (decimal_passes is_no_percent digit_is_none unit (omega arith))) refl

drawing_plain : (unit : ℕ) (trace : Trace) → unit ≤ 1000 → AreInReach trace.outlines → all_pass is_no_percent (drawing_text unit trace) ≡ true
drawing_plain unit trace few near =
    let shapes = groups_pass is_no_percent digit_is_none refl refl eps_mark (λ m h. mark_is_none m) unit few refl refl trace.outlines trace.groups (shapes_near false trace near) in
    passes_append is_no_percent (scale_text unit ++ _) (codes "grestore\n") (passes_append is_no_percent (scale_text unit) _ (scale_plain unit few) shapes) refl

pub page_is_program : (unit : ℕ) (trace : Trace) → unit ≤ 1000 → AreInReach trace.outlines → IsProgram (ps_page_text unit trace)
page_is_program unit trace few near = record {
  front = drawing_text unit trace ++ codes "showpage";
  ends = sym (append_assoc (drawing_text unit trace) (codes "showpage") (10 ∷ []));
  plain = passes_append is_no_percent (drawing_text unit trace) (codes "showpage") (drawing_plain unit trace few near) refl;
}

-- a line of it is no comment
program_line : (line : List ℕ) → all_pass is_no_percent line ≡ true → dsc_line line ≡ program
program_line [] plain = refl
program_line (a ∷ []) plain = refl
program_line (a ∷ b ∷ rest) plain =
    let first = (both_true (is_no_percent a) (all_pass is_no_percent (b ∷ rest)) plain).0 in
    let no : (a == 37) ≡ false = grind (arith, nat_tests) in
    ap (λ t. cond (cond t (cond (b == 37) true (b == 33)) false) (comment_of (spaced_words (a ∷ b ∷ rest))) program) no

-- the lines of a page go into its text
line_taken : (done : List (List ℕ)) (text line rest : List ℕ) → All IsNoLineFeed line → all_pass is_no_percent line ≡ true
    → pages_by (in_page done text) (text_lines (line ++ 10 ∷ rest)) ≡ pages_by (in_page done (text ++ line ++ 10 ∷ [])) (text_lines rest)
line_taken done text line rest within plain =
    ap (pages_by (in_page done text)) (slice_split_at (λ b. b == 10) line 10 rest within refl)
    ∙ ap (λ kind. option_and_then (λ next. pages_by next (text_lines rest)) (dsc_step (in_page done text) kind line)) (program_line line plain)

module _ (done : List (List ℕ)) (front rest : List ℕ) where
  -- the rest of a page goes into its text, behind the beginning of a line
  abbrev IsTaken : List ℕ → List ℕ → Type 0
  IsTaken text line = pages_by (in_page done text) (text_lines (line ++ (front ++ 10 ∷ rest))) ≡ pages_by (in_page done (text ++ (line ++ (front ++ 10 ∷ [])))) (text_lines rest)

  byte_taken : (text line : List ℕ) (b : ℕ) (ends : Bool) → (b == 10) ≡ ends → All IsNoLineFeed line → all_pass is_no_percent line ≡ true → is_no_percent b ≡ true
      → ((t l : List ℕ) → All IsNoLineFeed l → all_pass is_no_percent l ≡ true → IsTaken t l)
      → pages_by (in_page done text) (text_lines (line ++ ((b ∷ front) ++ 10 ∷ rest))) ≡ pages_by (in_page done (text ++ (line ++ ((b ∷ front) ++ 10 ∷ [])))) (text_lines rest)
  byte_taken text line b true is within plain here again =
      let ten : b ≡ 10 = grind (arith, nat_tests) in
      let regrouped : (text ++ line ++ 10 ∷ []) ++ (front ++ 10 ∷ []) ≡ text ++ (line ++ ((10 ∷ front) ++ 10 ∷ [])) = simp append_assoc in
      ap (λ c. pages_by (in_page done text) (text_lines (line ++ ((c ∷ front) ++ 10 ∷ rest)))) ten
      ∙ line_taken done text line (front ++ 10 ∷ rest) within plain
      ∙ again (text ++ line ++ 10 ∷ []) [] (All-nil IsNoLineFeed) refl
      ∙ ap (λ t. pages_by (in_page done t) (text_lines rest)) regrouped
      ∙ ap (λ c. pages_by (in_page done (text ++ (line ++ ((c ∷ front) ++ 10 ∷ [])))) (text_lines rest)) (sym ten)
  byte_taken text line b false is within plain here again =
      ap (λ l. pages_by (in_page done text) (text_lines l)) (sym (append_assoc line (b ∷ []) (front ++ 10 ∷ rest)))
      ∙ again text (line ++ b ∷ []) (All-append IsNoLineFeed line (b ∷ []) within (All-cons IsNoLineFeed b [] is (All-nil IsNoLineFeed)))
      (passes_append is_no_percent line (b ∷ []) plain (ap (λ t. t && true) here))
      ∙ ap (λ l. pages_by (in_page done (text ++ l)) (text_lines rest)) (append_assoc line (b ∷ []) (front ++ 10 ∷ []))

page_taken : (done : List (List ℕ)) (text line front rest : List ℕ) → All IsNoLineFeed line → all_pass is_no_percent line ≡ true → all_pass is_no_percent front ≡ true
    → IsTaken done front rest text line
page_taken done text line [] rest within plain front_plain =
    line_taken done text line rest within plain ∙ ap (λ t. pages_by (in_page done t) (text_lines rest)) (append_assoc text line (10 ∷ []))
page_taken done text line (b ∷ front) rest within plain front_plain =
    let both = both_true (is_no_percent b) (all_pass is_no_percent front) front_plain in
    byte_taken done front rest text line b (b == 10) refl within plain both.0 (λ t l w p. page_taken done t l front rest w p both.1)

program_taken : (done : List (List ℕ)) (text rest : List ℕ) → IsProgram text → pages_by (in_page done []) (text_lines (text ++ rest)) ≡ pages_by (in_page done text) (text_lines rest)
program_taken done text rest is =
    ap (λ t. pages_by (in_page done []) (text_lines (t ++ rest))) is.ends
    ∙ ap (λ t. pages_by (in_page done []) (text_lines t)) (append_assoc is.front (10 ∷ []) rest)
    ∙ page_taken done [] [] is.front rest (All-nil IsNoLineFeed) refl is.plain
    ∙ ap (λ t. pages_by (in_page done t) (text_lines rest)) (sym is.ends)

-- the comment before a page
abbrev page_line : ℕ → List ℕ
page_line p = codes "%%Page: " ++ (decimal p ++ 32 ∷ decimal p)

page_line_within : (p : ℕ) → p < 2 ^ 64 → All IsNoLineFeed (page_line p)
page_line_within p small =
    All-append IsNoLineFeed (codes "%%Page: ") (decimal p ++ 32 ∷ decimal p) (within_line (codes "%%Page: ") refl)
    (All-append IsNoLineFeed (decimal p) (32 ∷ decimal p) (number_in_line p small) (All-cons IsNoLineFeed 32 (decimal p) refl (number_in_line p small)))

page_line_read : (p : ℕ) → p < 2 ^ 64 → dsc_line (page_line p) ≡ page (Some p)
page_line_read p small =
    ap (λ ws. comment_of (codes "%%Page:" ∷ ws)) (word_before_space p (decimal p) small)
    ∙ ap (λ ws. comment_of (codes "%%Page:" ∷ decimal p ∷ ws)) (last_word p small)
    ∙ ap page (natural_read p small)

page_bytes : (d text rest : List ℕ) → (codes "%%Page: " ++ (d ++ (codes " " ++ (d ++ (codes "\n" ++ (text ++ [])))))) ++ rest ≡ (codes "%%Page: " ++ (d ++ 32 ∷ d)) ++ 10 ∷ (text ++ rest)
page_bytes d text rest = simp (append_assoc, append-nil)

page_lines : (before : ℕ) (text rest : List ℕ) → before + 1 < 2 ^ 64 → text_lines (concat (page_pieces (before + 1) text) ++ rest) ≡ page_line (before + 1) ∷ text_lines (text ++ rest)
page_lines before text rest small =
    ap text_lines (page_bytes (decimal (before + 1)) text rest) ∙ slice_split_at (λ b. b == 10) (page_line (before + 1)) 10 (text ++ rest) (page_line_within (before + 1) small) refl

-- the trailer
number_is_no_word : (n : ℕ) → n < 2 ^ 64 → bytes_eq (decimal n) (codes "(atend)") ≡ false
number_is_no_word n small =
    by_first_digit (λ ds m. bytes_eq ds (codes "(atend)") ≡ false) (λ b ds first others.
    let no : (b == 40) ≡ false = grind (arith, nat_tests) in
    ap (λ t. t && bytes_eq ds (codes "atend)")) no) n small

number_line_read : (n : ℕ) → n < 2 ^ 64 → dsc_line (codes "%%Pages: " ++ decimal n) ≡ number (Some n)
number_line_read n small =
    ap (λ ws. comment_of (codes "%%Pages:" ∷ ws)) (last_word n small)
    ∙ ap (λ t. cond t number_at_end (number (natural_of (decimal n)))) (number_is_no_word n small)
    ∙ ap number (natural_read n small)

is_it : (n m : ℕ) → n ≡ m → is_told (Some n) m ≡ true
is_it n m same = grind (arith, nat_tests)

trailer_bytes : (d : List ℕ) → codes "%%Trailer\n%%Pages: " ++ (d ++ (codes "\n%%EOF\n" ++ [])) ≡ codes "%%Trailer\n" ++ ((codes "%%Pages: " ++ d) ++ 10 ∷ codes "%%EOF\n")
trailer_bytes d = simp append_assoc

trailer_lines : (n : ℕ) → n < 2 ^ 64 → text_lines (trailer_text n) ≡ codes "%%Trailer" ∷ (codes "%%Pages: " ++ decimal n) ∷ codes "%%EOF" ∷ [] ∷ []
trailer_lines n small =
    ap text_lines (trailer_bytes (decimal n))
    ∙ ap (λ ls. codes "%%Trailer" ∷ ls) (slice_split_at (λ b. b == 10) (codes "%%Pages: " ++ decimal n) 10 (codes "%%EOF\n")
    (All-append IsNoLineFeed (codes "%%Pages: ") (decimal n) (within_line (codes "%%Pages: ") refl) (number_in_line n small)) refl)

-- the number of pages, and the end
number_taken : (pages : List (List ℕ)) (n : ℕ) → n ≡ length pages → n < 2 ^ 64 → pages_by (in_trailer pages) ((codes "%%Pages: " ++ decimal n) ∷ codes "%%EOF" ∷ [] ∷ []) ≡ Some pages
number_taken pages n same small =
    let lines = codes "%%EOF" ∷ [] ∷ [] in
    ap (λ kind. option_and_then (λ next. pages_by next lines) (dsc_step (in_trailer pages) kind (codes "%%Pages: " ++ decimal n))) (number_line_read n small)
    ∙ ap (λ t. option_and_then (λ next. pages_by next lines) (if t then Some (counted pages) else None)) (is_it n (length pages) same)

-- behind a page the further ones follow, and then the trailer
module _ (n : ℕ) (n_small : n < 2 ^ 64) where
  more_taken : (before : ℕ) (done : List (List ℕ)) (text : List ℕ) (texts : List (List ℕ)) → before ≡ length done + 1 → n ≡ before + length texts → All IsProgram texts
      → pages_by (in_page done text) (text_lines (pages_text before texts ++ trailer_text n)) ≡ Some (done ++ text ∷ texts)
  more_taken before done text [] at count are =
      let many : n ≡ length (done ++ text ∷ []) = omega (arith, length-append done (text ∷ [])) in
      ap (pages_by (in_page done text)) (trailer_lines n n_small) ∙ number_taken (done ++ text ∷ []) n many n_small
  more_taken before done text (next ∷ texts) at count are =
      let small : before + 1 < 2 ^ 64 = omega arith in
      let rest = pages_text (suc before) texts ++ trailer_text n in
      let lines = text_lines (next ++ rest) in
      let here : IsProgram next = All-head IsProgram next texts are in
      let many : suc before ≡ length (done ++ text ∷ []) + 1 = omega (arith, length-append done (text ∷ [])) in
      let left : n ≡ suc before + length texts = omega arith in
      let told : before + 1 ≡ length done + 2 = omega arith in
      ap (λ t. pages_by (in_page done text) (text_lines t)) (append_assoc (concat (page_pieces (before + 1) next)) (pages_text (suc before) texts) (trailer_text n))
      ∙ ap (pages_by (in_page done text)) (page_lines before next rest small)
      ∙ ap (λ kind. option_and_then (λ s. pages_by s lines) (dsc_step (in_page done text) kind (page_line (before + 1)))) (page_line_read (before + 1) small)
      ∙ ap (λ t. option_and_then (λ s. pages_by s lines) (if t then Some (in_page (done ++ text ∷ []) []) else None)) (is_it (before + 1) (length done + 2) told)
      ∙ program_taken (done ++ text ∷ []) next rest here
      ∙ more_taken (suc before) (done ++ text ∷ []) next texts many left (All-tail IsProgram next texts are)
      ∙ ap Some (append_assoc done (text ∷ []) (next ∷ texts))

-- so the document of a file is its pages
pub file_pages : (texts : List (List ℕ)) → length texts < 2 ^ 64 → All IsProgram texts → dsc_pages (file_text texts) ≡ Some texts
file_pages [] small are =
    ap (pages_by before_pages) (trailer_lines 0 (omega arith)) ∙ number_taken [] 0 refl (omega arith)
file_pages (text ∷ texts) small are =
    let n = length (text ∷ texts) in
    let rest = pages_text 1 texts ++ trailer_text n in
    let lines = text_lines (text ++ rest) in
    let here : IsProgram text = All-head IsProgram text texts are in
    let left : n ≡ 1 + length texts = omega arith in
    ap (λ t. dsc_pages t) (append_assoc prolog_text (concat (page_pieces 1 text) ++ pages_text 1 texts) (trailer_text n))
    ∙ ap (λ t. pages_by before_pages (text_lines t)) (append_assoc (concat (page_pieces 1 text)) (pages_text 1 texts) (trailer_text n))
    ∙ ap (pages_by before_pages) (page_lines 0 text rest (omega arith))
    ∙ ap (λ kind. option_and_then (λ s. pages_by s lines) (dsc_step before_pages kind (page_line 1))) (page_line_read 1 (omega arith))
    ∙ program_taken [] text rest here
    ∙ more_taken n small 1 [] text texts refl left (All-tail IsProgram text texts are)

pub files_pages : (unit : ℕ) (traces : List Trace) → unit ≤ 1000 → length traces < 2 ^ 64 → All (λ trace. AreInReach trace.outlines) traces
    → dsc_pages (file_text (map (ps_page_text unit) traces)) ≡ Some (map (ps_page_text unit) traces)
files_pages unit traces few small near =
    file_pages (map (ps_page_text unit) traces) (omega (arith, length-map traces (ps_page_text unit)))
    (All-map IsProgram (ps_page_text unit) traces (λ k d below. page_is_program unit (get_or traces k d) few (near k d below)))
