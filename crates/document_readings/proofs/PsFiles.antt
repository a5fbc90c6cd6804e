-- The document of a file's pages paints them one behind another, and the head of a document of one page tells its box.
use Rattle.std.proofs.Common.{◌≡◌, ℕ, suc, ◌+◌, ◌^◌, ◌<◌, ◌≤◌, List, [], ◌∷◌, ◌++◌, codes, false, flat_map, map, length, ap, sym, ◌∙◌, append_assoc, Some, arith}
use Rattle.std.proofs.lemmas.List.{append-nil, length-map}
use Rattle.std.proofs.lemmas.List.Elements.{All-head, All-tail}
use Rattle.std.specs.Prelude.{decimal, All, option_map, option_and_then}
use Rattle.std.specs.List.{concat}
use Rattle.list_reader.proofs.Runs.{digits_of_decimal}
use Rattle.pt_core.specs.declared.trace.Trace.{Trace}
use Rattle.eps_backend.specs.EpsText.{drawing_text, ps_page_text}
use Rattle.run_output.specs.Parts.{file_text, page_pieces, pages_text, prolog_text, trailer_text}
use Rattle.document_readings.specs.Places.{AreInReach}
use Rattle.document_readings.specs.PsReading.{Filled, execute_all, machine_behind, painted_by, ps_painted}
use Rattle.document_readings.specs.PsWords as ps
use Rattle.document_readings.specs.PsWords.{PsWord, showpage, ps_words}
use Rattle.document_readings.specs.TraceShapes.{filled_shapes, shapes_of}
use Rattle.document_readings.proofs.PsPainting.{program_done}
use Rattle.document_readings.proofs.PsText.{comment_pass, program_read, program_words, shape_words}

-- a page's comment is passed over
page_bytes : (d text rest : List ℕ) → (codes "%%Page: " ++ (d ++ (codes " " ++ (d ++ (codes "\n" ++ (text ++ [])))))) ++ rest ≡ codes "%%Page: " ++ (d ++ 32 ∷ (d ++ 10 ∷ (text ++ rest)))
page_bytes d text rest = simp (append_assoc, append-nil)

page_comment_read : (p : ℕ) (text rest : List ℕ) → p < 2 ^ 64 → ps_words ps.between (concat (page_pieces p text) ++ rest) ≡ ps_words ps.between (text ++ rest)
page_comment_read p text rest small =
    let d = decimal p in
    ap (ps_words ps.between) (page_bytes d text rest)
    ∙ comment_pass d (32 ∷ (d ++ 10 ∷ (text ++ rest))) (digits_of_decimal p small)
    ∙ comment_pass d (10 ∷ (text ++ rest)) (digits_of_decimal p small)

trailer_read : (n : ℕ) → n < 2 ^ 64 → ps_words ps.between (trailer_text n) ≡ Some []
trailer_read n small = comment_pass (decimal n) (codes "\n%%EOF\n" ++ []) (digits_of_decimal n small)

module _ (unit : ℕ) (few : unit ≤ 1000) where
  -- the words of pages
  abbrev pages_words : List Trace → List PsWord
  pages_words [] = []
  pages_words (trace ∷ traces) = program_words unit (flat_map (shape_words unit few) (shapes_of false trace)) (showpage ∷ pages_words traces)

  page_bytes_behind : (trace : Trace) (rest : List ℕ) → ps_page_text unit trace ++ rest ≡ drawing_text unit trace ++ (codes "showpage\n" ++ rest)
  page_bytes_behind trace rest = append_assoc (drawing_text unit trace) (codes "showpage\n") rest

  pages_read : (before : ℕ) (traces : List Trace) (rest : List ℕ) → before + length traces < 2 ^ 64 → All (λ trace. AreInReach trace.outlines) traces → ps_words ps.between rest ≡ Some []
      → ps_words ps.between (pages_text before (map (ps_page_text unit) traces) ++ rest) ≡ Some (pages_words traces)
  pages_read before [] rest small near reads = reads
  pages_read before (trace ∷ traces) rest small near reads =
      let text = ps_page_text unit trace in
      let more = pages_text (suc before) (map (ps_page_text unit) traces) in
      let here : AreInReach trace.outlines = All-head (λ (t : Trace). AreInReach t.outlines) trace traces near in
      let later = pages_read (suc before) traces rest (omega arith) (All-tail (λ (t : Trace). AreInReach t.outlines) trace traces near) reads in
      let shown : ps_words ps.between (codes "showpage\n" ++ (more ++ rest)) ≡ Some (showpage ∷ pages_words traces) = ap (λ o. option_map (λ ws. showpage ∷ ws) o) later in
      ap (ps_words ps.between) (append_assoc (concat (page_pieces (before + 1) text)) more rest)
      ∙ page_comment_read (before + 1) text (more ++ rest) (omega arith)
      ∙ ap (ps_words ps.between) (page_bytes_behind trace (more ++ rest))
      ∙ program_read unit few trace (codes "showpage\n" ++ (more ++ rest)) (showpage ∷ pages_words traces) here shown

  pages_done : (some : 1 ≤ unit) (done : List (List Filled)) (traces : List Trace)
      → execute_all (machine_behind done) (pages_words traces) ≡ Some (machine_behind (done ++ map (filled_shapes unit) traces))
  pages_done some done [] = ap (λ d. Some (machine_behind d)) (sym (append-nil done))
  pages_done some done (trace ∷ traces) =
      program_done unit few some trace done (showpage ∷ pages_words traces)
      ∙ pages_done some (done ++ filled_shapes unit trace ∷ []) traces
      ∙ ap (λ d. Some (machine_behind d)) (append_assoc done (filled_shapes unit trace ∷ []) (map (filled_shapes unit) traces))

  file_words : (traces : List Trace) → length traces < 2 ^ 64 → All (λ trace. AreInReach trace.outlines) traces
      → ps_words ps.between (file_text (map (ps_page_text unit) traces)) ≡ Some (pages_words traces)
  file_words traces small near =
      let texts = map (ps_page_text unit) traces in
      ap (ps_words ps.between) (append_assoc prolog_text (pages_text 0 texts) (trailer_text (length texts)))
      ∙ pages_read 0 traces (trailer_text (length texts)) (omega arith) near (trailer_read (length texts) (omega (arith, length-map traces (ps_page_text unit))))

pub file_painted : (unit : ℕ) (traces : List Trace) → 1 ≤ unit → unit ≤ 1000 → length traces < 2 ^ 64 → All (λ trace. AreInReach trace.outlines) traces
    → ps_painted (file_text (map (ps_page_text unit) traces)) ≡ Some (record { pages = map (filled_shapes unit) traces; unshown = [] })
file_painted unit traces some few small near =
    ap (λ o. option_and_then (λ m. painted_by m.operands (m.graphics).pen m.saved m) (option_and_then (execute_all (machine_behind [])) o)) (file_words unit few traces small near)
    ∙ ap (option_and_then (λ m. painted_by m.operands (m.graphics).pen m.saved m)) (pages_done unit few some [] traces)
