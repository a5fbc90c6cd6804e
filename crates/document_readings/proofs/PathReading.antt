-- Path data as the pen writes it is read word by word.
use Rattle.std.proofs.Common.{◌≡◌, ℕ, suc, ◌+◌, ◌-◌, ◌*◌, ◌^◌, ◌<◌, ◌≤◌, ℤ, pos, negsuc, neg_ℤ, ◌-ℤ◌, unsigned_abs, Bool, true, false, List, [], ◌∷◌, ◌++◌, codes, flat_map, map, refl, ap, sym, ◌∙◌, subst, append_assoc, Some, arith}
use Rattle.std.proofs.lemmas.Int.{ints}
use Rattle.std.proofs.lemmas.Bool.Decides.{nat_tests}
use Rattle.std.proofs.lemmas.List.{append-nil}
use Rattle.std.proofs.lemmas.List.Elements.{All-head, All-tail}
use Rattle.std.specs.Prelude.{decimal, All, option_map, option_and_then}
use Rattle.std.specs.Fmt.{signed_decimal}
use Rattle.std.specs.Char.{is_ascii_digit}
use Rattle.pt_base.specs.Whole.{IsDigit, value_after}
use Rattle.pt_core.specs.declared.piece.Piece.{Piece}
use Rattle.pt_core.specs.declared.piece.Piece.TheVariants.{Corner, Curve}
use Rattle.pt_core.specs.declared.point.Point.{Point}
use Rattle.pt_core.specs.ClosedWalk.{origin}
use Rattle.pt_core.specs.Floor.{rounded}
use Rattle.pt_core.specs.Outlines.{end_of, start_from}
use Rattle.pt_core.specs.UnitText.{place_text, step_text}
use Rattle.pt_core.proofs.FloorDivision.{rounded_most}
use Rattle.outline_pen.specs.Shapes.{line_text, curve_text, piece_text, pieces_text, outline_text, more_text}
use Rattle.svg_backend.specs.SvgText.{svg_mark}
use Rattle.document_readings.proofs.Digits.{by_first_digit}
use Rattle.document_readings.proofs.Nearness.{end_near, start_near, origin_near}
use Rattle.document_readings.proofs.Commands.{shift_from, piece_commands, pieces_commands, outline_commands, outlines_drawn}
use Rattle.document_readings.specs.Drawn.{Command, move, line, curve, close, drawn}
use Rattle.document_readings.specs.Places.{IsPointInReach, IsPieceInReach, AreInReach, rounded_place, outline_subpath}
use Rattle.document_readings.specs.WholeNumbers.{nothing, digits}
use Rattle.document_readings.specs.PathData.{PathWord, big_m, small_l, small_c, small_z, number, path_byte, digit, path_words, commands_of, path_commands, path_subpaths}
use Rattle.document_readings.specs.TraceShapes.{path_data}

pub is_digit_class : (b : ℕ) → IsDigit b → path_byte b ≡ digit
is_digit_class b d = let e : is_ascii_digit b ≡ true = grind (arith, nat_tests) in rw e refl

-- digits go on in the number that has begun
pub digits_read : (ds : List ℕ) (minus : Bool) (value : ℕ) (rest : List ℕ) → All IsDigit ds
    → path_words (digits minus value) (ds ++ rest) ≡ path_words (digits minus (value_after value ds)) rest
digits_read [] minus value rest all = refl
digits_read (b ∷ ds) minus value rest all =
    rw (is_digit_class b (All-head IsDigit b ds all)) (digits_read ds minus (10 * value + (b - 48)) rest (All-tail IsDigit b ds all))

-- digits that begin a number, with a space behind, and with a minus sign before
both_read : (n : ℕ) (rest : List ℕ) → n < 2 ^ 64
    → (path_words nothing (decimal n ++ 32 ∷ rest) ≡ option_map (λ more. number (pos n) ∷ more) (path_words nothing rest))
    × (path_words nothing (45 ∷ (decimal n ++ 32 ∷ rest)) ≡ option_map (λ more. number (neg_ℤ (pos n)) ∷ more) (path_words nothing rest))
both_read n rest small =
    by_first_digit (λ ds m. (path_words nothing (ds ++ 32 ∷ rest) ≡ option_map (λ more. number (pos m) ∷ more) (path_words nothing rest))
    × (path_words nothing (45 ∷ (ds ++ 32 ∷ rest)) ≡ option_map (λ more. number (neg_ℤ (pos m)) ∷ more) (path_words nothing rest)))
    (λ b ds first others. (rw (is_digit_class b first) (digits_read ds false (0 + (b - 48)) (32 ∷ rest) others), rw (is_digit_class b first) (digits_read ds true (0 + (b - 48)) (32 ∷ rest) others))) n small

-- a written number is read, where a space follows it
pub number_read : (z : ℤ) (rest : List ℕ) → unsigned_abs z < 2 ^ 62
    → path_words nothing (signed_decimal z ++ 32 ∷ rest) ≡ option_map (λ more. number z ∷ more) (path_words nothing rest)
number_read (pos n) rest small = (both_read n rest (omega arith)).0
number_read (negsuc n) rest small = (both_read (suc n) rest (omega arith)).1

number_behind : (z : ℤ) (rest : List ℕ) (words : List PathWord) → unsigned_abs z < 2 ^ 62 → path_words nothing rest ≡ Some words
    → path_words nothing (signed_decimal z ++ 32 ∷ rest) ≡ Some (number z ∷ words)
number_behind z rest words small e = number_read z rest small ∙ ap (option_map (λ more. number z ∷ more)) e

-- two numbers with a space between
pair_text : ℤ → ℤ → List ℕ
pair_text x y = signed_decimal x ++ codes " " ++ signed_decimal y

pair_behind : (x y : ℤ) (rest : List ℕ) (words : List PathWord) → unsigned_abs x < 2 ^ 62 → unsigned_abs y < 2 ^ 62 → path_words nothing rest ≡ Some words
    → path_words nothing ((signed_decimal x ++ codes " " ++ signed_decimal y) ++ 32 ∷ rest) ≡ Some (number x ∷ number y ∷ words)
pair_behind x y rest words x_small y_small e =
    simp append_assoc (number_behind x (signed_decimal y ++ 32 ∷ rest) (number y ∷ words) x_small (number_behind y rest words y_small e))

pub small_difference : (a b : ℤ) → unsigned_abs a ≤ 2 ^ 40 → unsigned_abs b ≤ 2 ^ 40 → unsigned_abs (a -ℤ b) < 2 ^ 62
small_difference a b a_small b_small = omega (arith, ints)

pub rounded_small : (c : ℤ) (unit : ℕ) → unsigned_abs c ≤ 2 ^ 31 → unit ≤ 1000 → unsigned_abs (rounded c unit) ≤ 2 ^ 40
rounded_small c unit small few = rounded_most c unit (omega arith) few

-- a text begins with a space, and these are the commands of what follows
pub record Goes (text : List ℕ) (commands : List Command) : Type 0 where
  pub tail : List ℕ
  pub spaced : text ≡ 32 ∷ tail
  pub words : List PathWord
  pub worded : path_words nothing tail ≡ Some words
  pub grouped : commands_of words ≡ Some commands

around : (a s b text : List ℕ) → (a ++ s ++ b) ++ text ≡ a ++ (s ++ (b ++ text))
around a s b text = append_assoc (a ++ s) b text ∙ append_assoc a s (b ++ text)

outline_bytes : (place pieces rest : List ℕ) → (codes "M" ++ place ++ [] ++ pieces ++ codes " z") ++ rest ≡ codes "M" ++ (place ++ (pieces ++ (codes " z" ++ rest)))
outline_bytes place pieces rest = simp append_assoc

-- the words of a text, and the commands that they are
pub record ReadsCommands (text : List ℕ) (commands : List Command) : Type 0 where
  pub words : List PathWord
  pub worded : path_words nothing text ≡ Some words
  pub grouped : commands_of words ≡ Some commands

around_three : (a s t u text : List ℕ) → (a ++ s ++ codes " " ++ t ++ codes " " ++ u ++ []) ++ text ≡ a ++ (s ++ 32 ∷ (t ++ 32 ∷ (u ++ text)))
around_three a s t u text = simp (append_assoc, append-nil)

module _ (unit : ℕ) (few : unit ≤ 1000) where
  place_behind : (p : Point) (rest : List ℕ) (words : List PathWord) → IsPointInReach p → path_words nothing rest ≡ Some words
      → path_words nothing (place_text unit p ++ 32 ∷ rest) ≡ Some (number (rounded p.x unit) ∷ number (rounded p.y unit) ∷ words)
  place_behind p rest words near e =
      let x = rounded_small p.x unit near.x few in
      let y = rounded_small p.y unit near.y few in
      pair_behind (rounded p.x unit) (rounded p.y unit) rest words (omega arith) (omega arith) e

  step_behind : (from to : Point) (rest : List ℕ) (words : List PathWord) → IsPointInReach from → IsPointInReach to → path_words nothing rest ≡ Some words
      → path_words nothing (step_text unit from to ++ 32 ∷ rest) ≡ Some (number (rounded to.x unit -ℤ rounded from.x unit) ∷ number (rounded to.y unit -ℤ rounded from.y unit) ∷ words)
  step_behind from to rest words from_near to_near e =
      pair_behind (rounded to.x unit -ℤ rounded from.x unit) (rounded to.y unit -ℤ rounded from.y unit) rest words
      (small_difference (rounded to.x unit) (rounded from.x unit) (rounded_small to.x unit to_near.x few) (rounded_small from.x unit from_near.x few))
      (small_difference (rounded to.y unit) (rounded from.y unit) (rounded_small to.y unit to_near.y few) (rounded_small from.y unit from_near.y few))
      e

  line_goes : (from to : Point) (text : List ℕ) (commands : List Command) → IsPointInReach from → IsPointInReach to → Goes text commands
      → Goes (line_text svg_mark unit from to ++ text) (line (shift_from (rounded_place unit from) (rounded_place unit to)) ∷ commands)
  line_goes from to text commands from_near to_near goes = record {
    tail = 108 ∷ (step_text unit from to ++ text);
    spaced = around (codes " l") (step_text unit from to) [] text;
    words = small_l ∷ number (rounded to.x unit -ℤ rounded from.x unit) ∷ number (rounded to.y unit -ℤ rounded from.y unit) ∷ goes.words;
    worded =
        ap (λ t. path_words nothing (108 ∷ (step_text unit from to ++ t))) goes.spaced
        ∙ ap (option_map (λ more. small_l ∷ more)) (step_behind from to goes.tail goes.words from_near to_near goes.worded);
    grouped = ap (option_map (λ more. line (shift_from (rounded_place unit from) (rounded_place unit to)) ∷ more)) goes.grouped;
  }

  curve_goes : (from first second end : Point) (text : List ℕ) (commands : List Command) → IsPointInReach from → IsPointInReach first → IsPointInReach second → IsPointInReach end
      → Goes text commands
      → Goes (curve_text svg_mark unit from first second end ++ text)
      (curve (shift_from (rounded_place unit from) (rounded_place unit first)) (shift_from (rounded_place unit from) (rounded_place unit second)) (shift_from (rounded_place unit from) (rounded_place unit end)) ∷ commands)
  curve_goes from first second end text commands from_near first_near second_near end_near goes =
      let one = step_text unit from first in
      let two = step_text unit from second in
      let three = step_text unit from end in
      let last = step_behind from end goes.tail goes.words from_near end_near goes.worded in
      let middle = step_behind from second (three ++ 32 ∷ goes.tail) (number (rounded end.x unit -ℤ rounded from.x unit) ∷ number (rounded end.y unit -ℤ rounded from.y unit) ∷ goes.words) from_near second_near last in
      let all = step_behind from first (two ++ 32 ∷ (three ++ 32 ∷ goes.tail))
      (number (rounded second.x unit -ℤ rounded from.x unit) ∷ number (rounded second.y unit -ℤ rounded from.y unit) ∷ number (rounded end.x unit -ℤ rounded from.x unit) ∷ number (rounded end.y unit -ℤ rounded from.y unit) ∷ goes.words)
      from_near first_near middle in
      record {
        tail = 99 ∷ (one ++ 32 ∷ (two ++ 32 ∷ (three ++ text)));
        spaced = around_three (codes " c") one two three text;
        words = small_c ∷ number (rounded first.x unit -ℤ rounded from.x unit) ∷ number (rounded first.y unit -ℤ rounded from.y unit) ∷ number (rounded second.x unit -ℤ rounded from.x unit) ∷ number (rounded second.y unit -ℤ rounded from.y unit) ∷ number (rounded end.x unit -ℤ rounded from.x unit) ∷ number (rounded end.y unit -ℤ rounded from.y unit) ∷ goes.words;
        worded =
            ap (λ t. path_words nothing (99 ∷ (one ++ 32 ∷ (two ++ 32 ∷ (three ++ t))))) goes.spaced
            ∙ ap (option_map (λ more. small_c ∷ more)) all;
        grouped =
            ap (option_map (λ more. curve (shift_from (rounded_place unit from) (rounded_place unit first)) (shift_from (rounded_place unit from) (rounded_place unit second)) (shift_from (rounded_place unit from) (rounded_place unit end)) ∷ more)) goes.grouped;
      }

  piece_goes : (from : Point) (piece : Piece) (text : List ℕ) (commands : List Command) → IsPointInReach from → IsPieceInReach piece → Goes text commands
      → Goes (piece_text svg_mark unit from piece ++ text) (piece_commands unit from piece ++ commands)
  piece_goes from (Corner at end) text commands from_near near goes =
      let last = line_goes at end text commands near.0 near.1 goes in
      let both = line_goes from at (line_text svg_mark unit at end ++ text) (line (shift_from (rounded_place unit at) (rounded_place unit end)) ∷ commands) from_near near.0 last in
      subst (λ t. Goes t (piece_commands unit from (Corner at end) ++ commands)) (sym (append_assoc (line_text svg_mark unit from at) (line_text svg_mark unit at end) text)) both
  piece_goes from (Curve first second end al) text commands from_near near goes =
      curve_goes from first second end text commands from_near near.0 near.1 near.2 goes

  pieces_go : (from : Point) (pieces : List Piece) (text : List ℕ) (commands : List Command) → IsPointInReach from → All IsPieceInReach pieces → Goes text commands
      → Goes (pieces_text svg_mark unit from pieces ++ text) (pieces_commands unit from pieces ++ commands)
  pieces_go from [] text commands from_near near goes = goes
  pieces_go from (piece ∷ pieces) text commands from_near near goes =
      let here = All-head IsPieceInReach piece pieces near in
      let later = pieces_go (end_of piece) pieces text commands (end_near piece here) (All-tail IsPieceInReach piece pieces near) goes in
      let both = piece_goes from piece (pieces_text svg_mark unit (end_of piece) pieces ++ text) (pieces_commands unit (end_of piece) pieces ++ commands) from_near here later in
      subst (λ t. Goes t (pieces_commands unit from (piece ∷ pieces) ++ commands)) (sym (append_assoc (piece_text svg_mark unit from piece) (pieces_text svg_mark unit (end_of piece) pieces) text))
      (subst (λ cs. Goes (piece_text svg_mark unit from piece ++ (pieces_text svg_mark unit (end_of piece) pieces ++ text)) cs) (sym (append_assoc (piece_commands unit from piece) (pieces_commands unit (end_of piece) pieces) commands)) both)

  -- an outline, and what follows its `z`
  outline_reads : (pieces : List Piece) (rest : List ℕ) (words : List PathWord) (commands : List Command) → All IsPieceInReach pieces
      → path_words nothing rest ≡ Some words → commands_of words ≡ Some commands
      → ReadsCommands (outline_text svg_mark unit pieces ++ rest) (outline_commands unit pieces ++ commands)
  outline_reads pieces rest words commands near worded grouped =
      let start = start_from origin pieces in
      let start_is_near = start_near origin pieces origin_near near in
      let ending : Goes (codes " z" ++ rest) (close ∷ commands) = record {
        tail = 122 ∷ rest;
        spaced = refl;
        words = small_z ∷ words;
        worded = ap (option_map (λ more. small_z ∷ more)) worded;
        grouped = ap (option_map (λ more. close ∷ more)) grouped;
      } in
      let goes = pieces_go start pieces (codes " z" ++ rest) (close ∷ commands) start_is_near near ending in
      let regrouped : outline_text svg_mark unit pieces ++ rest ≡ codes "M" ++ (place_text unit start ++ (pieces_text svg_mark unit start pieces ++ (codes " z" ++ rest))) =
      outline_bytes (place_text unit start) (pieces_text svg_mark unit start pieces) rest in
      let same_commands : move (rounded_place unit start) ∷ (pieces_commands unit start pieces ++ close ∷ commands) ≡ outline_commands unit pieces ++ commands =
      ap (λ cs. move (rounded_place unit start) ∷ cs) (sym (append_assoc (pieces_commands unit start pieces) (close ∷ []) commands)) in
      record {
        words = big_m ∷ number (rounded start.x unit) ∷ number (rounded start.y unit) ∷ goes.words;
        worded =
            ap (path_words nothing) regrouped
            ∙ ap (λ t. path_words nothing (codes "M" ++ (place_text unit start ++ t))) goes.spaced
            ∙ ap (option_map (λ more. big_m ∷ more)) (place_behind start goes.tail goes.words start_is_near goes.worded);
        grouped =
            ap (option_map (λ more. move (rounded_place unit start) ∷ more)) goes.grouped ∙ ap Some same_commands;
      }

  more_reads : (outlines : List (List Piece)) → AreInReach outlines → ReadsCommands (more_text svg_mark unit outlines) (flat_map (outline_commands unit) outlines)
  more_reads [] near = record { words = []; worded = refl; grouped = refl }
  more_reads (pieces ∷ outlines) near =
      let later = more_reads outlines (All-tail (All IsPieceInReach) pieces outlines near) in
      let here = outline_reads pieces (more_text svg_mark unit outlines) later.words (flat_map (outline_commands unit) outlines) (All-head (All IsPieceInReach) pieces outlines near) later.worded later.grouped in
      record { words = here.words; worded = here.worded; grouped = here.grouped }

  -- path data is the commands of its outlines
  data_reads : (outlines : List (List Piece)) → AreInReach outlines → path_commands (path_data unit outlines) ≡ Some (flat_map (outline_commands unit) outlines)
  data_reads [] near = refl
  data_reads (first ∷ more) near =
      let later = more_reads more (All-tail (All IsPieceInReach) first more near) in
      let here = outline_reads first (more_text svg_mark unit more) later.words (flat_map (outline_commands unit) more) (All-head (All IsPieceInReach) first more near) later.worded later.grouped in
      ap (option_and_then commands_of) here.worded ∙ here.grouped

-- so path data draws its outlines
pub data_drawn : (unit : ℕ) (outlines : List (List Piece)) → unit ≤ 1000 → AreInReach outlines
    → path_subpaths (path_data unit outlines) ≡ Some (map (outline_subpath unit) outlines)
data_drawn unit outlines few near = ap (option_and_then drawn) (data_reads unit few outlines near) ∙ outlines_drawn unit outlines
