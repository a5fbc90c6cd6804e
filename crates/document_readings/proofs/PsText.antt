-- The words of a program.
use Rattle.std.proofs.Common.{◌≡◌, ℕ, suc, ◌+◌, ◌-◌, ◌*◌, ◌^◌, ◌<◌, ◌≤◌, ℤ, pos, negsuc, neg_ℤ, ◌-ℤ◌, unsigned_abs, Bool, true, false, List, [], ◌∷◌, ◌++◌, codes, flat_map, map, refl, ap, sym, ◌∙◌, append_assoc, Some, arith}
use Rattle.std.proofs.lemmas.List.Concat.{flat_map-append}
use Rattle.std.proofs.lemmas.List.Elements.{All-head, All-tail}
use Rattle.std.specs.Prelude.{decimal, All, option_map}
use Rattle.std.specs.Fmt.{signed_decimal}
use Rattle.pt_base.specs.Whole.{IsDigit, value_after}
use Rattle.pt_core.specs.declared.piece.Piece.{Piece}
use Rattle.pt_core.specs.declared.piece.Piece.TheVariants.{Corner, Curve}
use Rattle.pt_core.specs.declared.point.Point.{Point}
use Rattle.pt_core.specs.declared.trace.Group.{Group}
use Rattle.pt_core.specs.declared.trace.Trace.{Trace}
use Rattle.pt_core.specs.ClosedWalk.{origin}
use Rattle.pt_core.specs.Floor.{rounded}
use Rattle.pt_core.specs.Outlines.{end_of, start_from}
use Rattle.pt_core.specs.UnitText.{place_text, step_text}
use Rattle.outline_pen.specs.Shapes.{line_text, curve_text, piece_text, pieces_text, outline_text, more_text, group_text}
use Rattle.eps_backend.specs.EpsText.{eps_mark, comments_text, drawing_text}
use Rattle.list_reader.proofs.Runs.{digits_of_decimal}
use Rattle.document_readings.specs.Drawn.{Command, move, line, curve, close}
use Rattle.document_readings.specs.WholeNumbers.{sign, digits}
use Rattle.document_readings.specs.Places.{IsPointInReach, IsPieceInReach, AreInReach}
use Rattle.document_readings.specs.PsWords as ps
use Rattle.document_readings.specs.PsWords.{PsWord, number, gsave, div, dup, scale, moveto, rlineto, rcurveto, closepath, eofill, grestore, ps_words}
use Rattle.document_readings.specs.TraceShapes.{group_outlines, shapes_of}
use Rattle.document_readings.proofs.Commands.{piece_commands, pieces_commands, outline_commands}
use Rattle.document_readings.proofs.Digits.{by_first_digit, is_digit_true}
use Rattle.document_readings.proofs.OutlineBytes.{shapes_near}
use Rattle.document_readings.proofs.Nearness.{end_near, start_near, origin_near}
use Rattle.document_readings.proofs.PathReading.{small_difference, rounded_small}

-- a number, and a space behind
digits_pass : (ds : List ℕ) (negative : Bool) (value : ℕ) (rest : List ℕ) → All IsDigit ds
    → ps_words (ps.counting (digits negative value)) (ds ++ rest) ≡ ps_words (ps.counting (digits negative (value_after value ds))) rest
digits_pass [] negative value rest all = refl
digits_pass (d ∷ ds) negative value rest all = rw (is_digit_true d (All-head IsDigit d ds all)) (digits_pass ds negative (10 * value + (d - 48)) rest (All-tail IsDigit d ds all))

both_read : (n : ℕ) (rest : List ℕ) → n < 2 ^ 64
    → (ps_words ps.between (decimal n ++ 32 ∷ rest) ≡ option_map (λ more. number (pos n) ∷ more) (ps_words ps.between rest))
    × (ps_words (ps.counting (sign true)) (decimal n ++ 32 ∷ rest) ≡ option_map (λ more. number (neg_ℤ (pos n)) ∷ more) (ps_words ps.between rest))
both_read n rest small =
    by_first_digit (λ ds m. (ps_words ps.between (ds ++ 32 ∷ rest) ≡ option_map (λ more. number (pos m) ∷ more) (ps_words ps.between rest))
    × (ps_words (ps.counting (sign true)) (ds ++ 32 ∷ rest) ≡ option_map (λ more. number (neg_ℤ (pos m)) ∷ more) (ps_words ps.between rest)))
    (λ d ds first others. (rw (is_digit_true d first) (digits_pass ds false (0 + (d - 48)) (32 ∷ rest) others), rw (is_digit_true d first) (digits_pass ds true (0 + (d - 48)) (32 ∷ rest) others))) n small

number_read : (z : ℤ) (rest : List ℕ) (words : List PsWord) → unsigned_abs z < 2 ^ 62 → ps_words ps.between rest ≡ Some words
    → ps_words ps.between (signed_decimal z ++ 32 ∷ rest) ≡ Some (number z ∷ words)
number_read (pos n) rest words small reads = (both_read n rest (omega arith)).0 ∙ ap (option_map (λ more. number (pos n) ∷ more)) reads
number_read (negsuc n) rest words small reads = (both_read (suc n) rest (omega arith)).1 ∙ ap (option_map (λ more. number (negsuc n) ∷ more)) reads

pair_read : (x y : ℤ) (rest : List ℕ) (words : List PsWord) → unsigned_abs x < 2 ^ 62 → unsigned_abs y < 2 ^ 62 → ps_words ps.between rest ≡ Some words
    → ps_words ps.between ((signed_decimal x ++ codes " " ++ signed_decimal y) ++ 32 ∷ rest) ≡ Some (number x ∷ number y ∷ words)
pair_read x y rest words x_small y_small reads =
    simp append_assoc (number_read x (signed_decimal y ++ 32 ∷ rest) (number y ∷ words) x_small (number_read y rest words y_small reads))

-- the words of a command
abbrev pub command_words : Command → List PsWord
command_words (move at) = number at.x ∷ number at.y ∷ moveto ∷ []
command_words (line step) = number step.x ∷ number step.y ∷ rlineto ∷ []
command_words (curve first second step) = number first.x ∷ number first.y ∷ number second.x ∷ number second.y ∷ number step.x ∷ number step.y ∷ rcurveto ∷ []
command_words close = closepath ∷ []

abbrev pub commands_words : List Command → List PsWord
commands_words commands = flat_map command_words commands

curve_bytes : (s t u rest : List ℕ) → ([] ++ s ++ codes " " ++ t ++ codes " " ++ u ++ codes " rcurveto\n") ++ rest ≡ s ++ 32 ∷ (t ++ 32 ∷ (u ++ 32 ∷ (codes "rcurveto\n" ++ rest)))
curve_bytes s t u rest = simp append_assoc

outline_bytes : (place pieces rest : List ℕ) → (([] ++ place ++ codes " moveto\n") ++ pieces ++ codes "closepath\n") ++ rest ≡ place ++ 32 ∷ (codes "moveto\n" ++ (pieces ++ (codes "closepath\n" ++ rest)))
outline_bytes place pieces rest = simp append_assoc

module _ (unit : ℕ) (few : unit ≤ 1000) where
  place_read : (p : Point) (rest : List ℕ) (words : List PsWord) → IsPointInReach p → ps_words ps.between rest ≡ Some words
      → ps_words ps.between (place_text unit p ++ 32 ∷ rest) ≡ Some (number (rounded p.x unit) ∷ number (rounded p.y unit) ∷ words)
  place_read p rest words near reads =
      let x = rounded_small p.x unit near.x few in
      let y = rounded_small p.y unit near.y few in
      pair_read (rounded p.x unit) (rounded p.y unit) rest words (omega arith) (omega arith) reads

  step_read : (from to : Point) (rest : List ℕ) (words : List PsWord) → IsPointInReach from → IsPointInReach to → ps_words ps.between rest ≡ Some words
      → ps_words ps.between (step_text unit from to ++ 32 ∷ rest) ≡ Some (number (rounded to.x unit -ℤ rounded from.x unit) ∷ number (rounded to.y unit -ℤ rounded from.y unit) ∷ words)
  step_read from to rest words from_near to_near reads =
      pair_read (rounded to.x unit -ℤ rounded from.x unit) (rounded to.y unit -ℤ rounded from.y unit) rest words
      (small_difference (rounded to.x unit) (rounded from.x unit) (rounded_small to.x unit to_near.x few) (rounded_small from.x unit from_near.x few))
      (small_difference (rounded to.y unit) (rounded from.y unit) (rounded_small to.y unit to_near.y few) (rounded_small from.y unit from_near.y few))
      reads

  line_read : (from to : Point) (rest : List ℕ) (words : List PsWord) → IsPointInReach from → IsPointInReach to → ps_words ps.between rest ≡ Some words
      → ps_words ps.between (line_text eps_mark unit from to ++ rest)
      ≡ Some (number (rounded to.x unit -ℤ rounded from.x unit) ∷ number (rounded to.y unit -ℤ rounded from.y unit) ∷ rlineto ∷ words)
  line_read from to rest words from_near to_near reads =
      ap (ps_words ps.between) (append_assoc (step_text unit from to) (codes " rlineto\n") rest)
      ∙ step_read from to (codes "rlineto\n" ++ rest) (rlineto ∷ words) from_near to_near (ap (option_map (λ more. rlineto ∷ more)) reads)

  curve_read : (from first second end : Point) (rest : List ℕ) (words : List PsWord) → IsPointInReach from → IsPointInReach first → IsPointInReach second → IsPointInReach end → ps_words ps.between rest ≡ Some words
      → ps_words ps.between (curve_text eps_mark unit from first second end ++ rest)
      ≡ Some (number (rounded first.x unit -ℤ rounded from.x unit) ∷ number (rounded first.y unit -ℤ rounded from.y unit) ∷ number (rounded second.x unit -ℤ rounded from.x unit) ∷ number (rounded second.y unit -ℤ rounded from.y unit)
      ∷ number (rounded end.x unit -ℤ rounded from.x unit) ∷ number (rounded end.y unit -ℤ rounded from.y unit) ∷ rcurveto ∷ words)
  curve_read from first second end rest words from_near first_near second_near end_near reads =
      let one = step_text unit from first in
      let two = step_text unit from second in
      let three = step_text unit from end in
      let tail = codes "rcurveto\n" ++ rest in
      let last_words = number (rounded end.x unit -ℤ rounded from.x unit) ∷ number (rounded end.y unit -ℤ rounded from.y unit) ∷ rcurveto ∷ words in
      let last = step_read from end tail (rcurveto ∷ words) from_near end_near (ap (option_map (λ more. rcurveto ∷ more)) reads) in
      let middle_words = number (rounded second.x unit -ℤ rounded from.x unit) ∷ number (rounded second.y unit -ℤ rounded from.y unit) ∷ last_words in
      let middle = step_read from second (three ++ 32 ∷ tail) last_words from_near second_near last in
      ap (ps_words ps.between) (curve_bytes one two three rest)
      ∙ step_read from first (two ++ 32 ∷ (three ++ 32 ∷ tail)) middle_words from_near first_near middle

  piece_read : (from : Point) (piece : Piece) (rest : List ℕ) (words : List PsWord) → IsPointInReach from → IsPieceInReach piece → ps_words ps.between rest ≡ Some words
      → ps_words ps.between (piece_text eps_mark unit from piece ++ rest) ≡ Some (commands_words (piece_commands unit from piece) ++ words)
  piece_read from (Corner at end) rest words from_near near reads =
      ap (ps_words ps.between) (append_assoc (line_text eps_mark unit from at) (line_text eps_mark unit at end) rest)
      ∙ line_read from at (line_text eps_mark unit at end ++ rest) (number (rounded end.x unit -ℤ rounded at.x unit) ∷ number (rounded end.y unit -ℤ rounded at.y unit) ∷ rlineto ∷ words) from_near near.0
      (line_read at end rest words near.0 near.1 reads)
  piece_read from (Curve first second end al) rest words from_near near reads = curve_read from first second end rest words from_near near.0 near.1 near.2 reads

  words_append : (a b : List Command) (words : List PsWord) → commands_words a ++ (commands_words b ++ words) ≡ commands_words (a ++ b) ++ words
  words_append a b words = sym (ap (λ ws. ws ++ words) (flat_map-append command_words a b) ∙ append_assoc (commands_words a) (commands_words b) words)

  pieces_read : (from : Point) (pieces : List Piece) (rest : List ℕ) (words : List PsWord) → IsPointInReach from → All IsPieceInReach pieces → ps_words ps.between rest ≡ Some words
      → ps_words ps.between (pieces_text eps_mark unit from pieces ++ rest) ≡ Some (commands_words (pieces_commands unit from pieces) ++ words)
  pieces_read from [] rest words from_near near reads = reads
  pieces_read from (piece ∷ pieces) rest words from_near near reads =
      let here = All-head IsPieceInReach piece pieces near in
      let later = pieces_read (end_of piece) pieces rest words (end_near piece here) (All-tail IsPieceInReach piece pieces near) reads in
      ap (ps_words ps.between) (append_assoc (piece_text eps_mark unit from piece) (pieces_text eps_mark unit (end_of piece) pieces) rest)
      ∙ piece_read from piece (pieces_text eps_mark unit (end_of piece) pieces ++ rest) (commands_words (pieces_commands unit (end_of piece) pieces) ++ words) from_near here later
      ∙ ap Some (words_append (piece_commands unit from piece) (pieces_commands unit (end_of piece) pieces) words)

  outline_read : (pieces : List Piece) (rest : List ℕ) (words : List PsWord) → All IsPieceInReach pieces → ps_words ps.between rest ≡ Some words
      → ps_words ps.between (outline_text eps_mark unit pieces ++ rest) ≡ Some (commands_words (outline_commands unit pieces) ++ words)
  outline_read pieces rest words near reads =
      let start = start_from origin pieces in
      let start_is_near = start_near origin pieces origin_near near in
      let closing : ps_words ps.between (codes "closepath\n" ++ rest) ≡ Some (closepath ∷ words) = ap (option_map (λ more. closepath ∷ more)) reads in
      let along = pieces_read start pieces (codes "closepath\n" ++ rest) (closepath ∷ words) start_is_near near closing in
      let along_words = commands_words (pieces_commands unit start pieces) ++ closepath ∷ words in
      let moved : ps_words ps.between (codes "moveto\n" ++ (pieces_text eps_mark unit start pieces ++ (codes "closepath\n" ++ rest))) ≡ Some (moveto ∷ along_words) = ap (option_map (λ more. moveto ∷ more)) along in
      ap (ps_words ps.between) (outline_bytes (place_text unit start) (pieces_text eps_mark unit start pieces) rest)
      ∙ place_read start (codes "moveto\n" ++ (pieces_text eps_mark unit start pieces ++ (codes "closepath\n" ++ rest))) (moveto ∷ along_words) start_is_near moved
      ∙ ap (λ ws. Some (number (rounded start.x unit) ∷ number (rounded start.y unit) ∷ moveto ∷ ws)) (words_append (pieces_commands unit start pieces) (close ∷ []) words)

  outlines_read : (outlines : List (List Piece)) (rest : List ℕ) (words : List PsWord) → AreInReach outlines → ps_words ps.between rest ≡ Some words
      → ps_words ps.between (more_text eps_mark unit outlines ++ rest) ≡ Some (commands_words (flat_map (outline_commands unit) outlines) ++ words)
  outlines_read [] rest words near reads = reads
  outlines_read (pieces ∷ outlines) rest words near reads =
      let later = outlines_read outlines rest words (All-tail (All IsPieceInReach) pieces outlines near) reads in
      ap (ps_words ps.between) (append_assoc (outline_text eps_mark unit pieces) (more_text eps_mark unit outlines) rest)
      ∙ outline_read pieces (more_text eps_mark unit outlines ++ rest) (commands_words (flat_map (outline_commands unit) outlines) ++ words) (All-head (All IsPieceInReach) pieces outlines near) later
      ∙ ap Some (words_append (outline_commands unit pieces) (flat_map (outline_commands unit) outlines) words)

  -- shapes
  abbrev pub shape_words : List (List Piece) → List PsWord
  shape_words shape = commands_words (flat_map (outline_commands unit) shape) ++ eofill ∷ []

  shape_read : (shape : List (List Piece)) (rest : List ℕ) (words : List PsWord) → AreInReach shape → ps_words ps.between rest ≡ Some words
      → ps_words ps.between ((more_text eps_mark unit shape ++ codes "eofill\n") ++ rest) ≡ Some (shape_words shape ++ words)
  shape_read shape rest words near reads =
      ap (ps_words ps.between) (append_assoc (more_text eps_mark unit shape) (codes "eofill\n") rest)
      ∙ outlines_read shape (codes "eofill\n" ++ rest) (eofill ∷ words) near (ap (option_map (λ more. eofill ∷ more)) reads)
      ∙ ap Some (sym (append_assoc (commands_words (flat_map (outline_commands unit) shape)) (eofill ∷ []) words))

  groups_read : (outlines : List (List Piece)) (groups : List Group) (rest : List ℕ) (words : List PsWord) → All AreInReach (map (group_outlines outlines) groups) → ps_words ps.between rest ≡ Some words
      → ps_words ps.between (flat_map (group_text eps_mark unit outlines) groups ++ rest) ≡ Some (flat_map shape_words (map (group_outlines outlines) groups) ++ words)
  groups_read outlines [] rest words near reads = reads
  groups_read outlines (group ∷ groups) rest words near reads =
      let shape = group_outlines outlines group in
      let shapes = map (group_outlines outlines) groups in
      let later = groups_read outlines groups rest words (All-tail AreInReach shape shapes near) reads in
      ap (ps_words ps.between) (append_assoc (group_text eps_mark unit outlines group) (flat_map (group_text eps_mark unit outlines) groups) rest)
      ∙ shape_read shape (flat_map (group_text eps_mark unit outlines) groups ++ rest) (flat_map shape_words shapes ++ words) (All-head AreInReach shape shapes near) later
      ∙ ap Some (sym (append_assoc (shape_words shape) (flat_map shape_words shapes) words))

-- the program around them
abbrev pub program_words : ℕ → List PsWord → List PsWord → List PsWord
program_words unit shapes ending = gsave ∷ number (pos 1) ∷ number (pos unit) ∷ div ∷ dup ∷ scale ∷ (shapes ++ grestore ∷ ending)

program_bytes : (unit drawing rest : List ℕ) → ((codes "gsave\n1 " ++ unit ++ codes " div dup scale\n") ++ drawing ++ codes "grestore\n") ++ rest ≡ codes "gsave\n1 " ++ (unit ++ 32 ∷ (codes "div dup scale\n" ++ (drawing ++ (codes "grestore\n" ++ rest))))
program_bytes unit drawing rest = simp append_assoc

pub program_read : (unit : ℕ) (few : unit ≤ 1000) (trace : Trace) (rest : List ℕ) (words : List PsWord) → AreInReach trace.outlines → ps_words ps.between rest ≡ Some words
    → ps_words ps.between (drawing_text unit trace ++ rest) ≡ Some (program_words unit (flat_map (shape_words unit few) (shapes_of false trace)) words)
program_read unit few trace rest words near reads =
    let drawing = flat_map (group_text eps_mark unit trace.outlines) trace.groups in
    let shapes = flat_map (shape_words unit few) (shapes_of false trace) in
    let ending : ps_words ps.between (codes "grestore\n" ++ rest) ≡ Some (grestore ∷ words) = ap (option_map (λ more. grestore ∷ more)) reads in
    let drawn = groups_read unit few trace.outlines trace.groups (codes "grestore\n" ++ rest) (grestore ∷ words) (shapes_near false trace near) ending in
    let scaled : ps_words ps.between (codes "div dup scale\n" ++ (drawing ++ (codes "grestore\n" ++ rest))) ≡ Some (div ∷ dup ∷ scale ∷ (shapes ++ grestore ∷ words)) =
    ap (λ o. option_map (λ more. div ∷ more) (option_map (λ more. dup ∷ more) (option_map (λ more. scale ∷ more) o))) drawn in
    ap (ps_words ps.between) (program_bytes (decimal unit) drawing rest)
    ∙ ap (λ o. option_map (λ more. gsave ∷ more) (option_map (λ more. number (pos 1) ∷ more) o))
    (number_read (pos unit) (codes "div dup scale\n" ++ (drawing ++ (codes "grestore\n" ++ rest))) (div ∷ dup ∷ scale ∷ (shapes ++ grestore ∷ words)) (omega arith) scaled)

-- comments are passed over
pub comment_pass : (ds rest : List ℕ) → All IsDigit ds → ps_words ps.comment (ds ++ rest) ≡ ps_words ps.comment rest
comment_pass [] rest all = refl
comment_pass (d ∷ ds) rest all = rw (is_digit_true d (All-head IsDigit d ds all)) (comment_pass ds rest (All-tail IsDigit d ds all))

comments_bytes : (w h rest : List ℕ) → (codes "%!PS-Adobe-3.0 EPSF-3.0\n%%BoundingBox: 0 0 " ++ w ++ codes " " ++ h ++ codes "\n%%EndComments\n") ++ rest
    ≡ codes "%!PS-Adobe-3.0 EPSF-3.0\n%%BoundingBox: 0 0 " ++ (w ++ (codes " " ++ (h ++ (codes "\n%%EndComments\n" ++ rest))))
comments_bytes w h rest = simp append_assoc

pub comments_read : (width height : ℕ) (rest : List ℕ) → width < 2 ^ 64 → height < 2 ^ 64 → ps_words ps.between (comments_text width height ++ rest) ≡ ps_words ps.between rest
comments_read width height rest wide high =
    ap (ps_words ps.between) (comments_bytes (decimal width) (decimal height) rest)
    ∙ comment_pass (decimal width) (codes " " ++ (decimal height ++ (codes "\n%%EndComments\n" ++ rest))) (digits_of_decimal width wide)
    ∙ comment_pass (decimal height) (codes "\n%%EndComments\n" ++ rest) (digits_of_decimal height high)
