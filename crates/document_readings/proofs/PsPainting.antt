-- What the words of a program do.
use Rattle.std.proofs.Common.{◌≡◌, ℕ, zero, suc, ◌≤◌, pos, false, List, [], ◌∷◌, ◌++◌, flat_map, map, refl, ap, sym, ◌∙◌, append_assoc, Option, Some, None, arith}
use Rattle.std.proofs.lemmas.List.{append-nil}
use Rattle.std.specs.Prelude.{option_map, option_and_then}
use Rattle.pt_core.specs.declared.piece.Piece.{Piece}
use Rattle.pt_core.specs.declared.trace.Trace.{Trace}
use Rattle.document_readings.specs.Drawn.{Command, Pen, up, move, line, curve, close, pen_after, pen_after_all}
use Rattle.document_readings.specs.Places.{outline_subpath}
use Rattle.document_readings.specs.PsReading.{Operand, quotient, Graphics, first_graphics, Filled, Machine, execute_all, machine_behind}
use Rattle.document_readings.specs.PsWords.{PsWord, eofill, grestore}
use Rattle.document_readings.specs.TraceShapes.{shapes_of, filled_shapes}
use Rattle.document_readings.proofs.Commands.{outline_commands, outlines_after}
use Rattle.document_readings.proofs.PsText.{command_words, commands_words, shape_words, program_words}

-- what a command does
then_map : {A B C : Type 0} (f : A → B) (k : B → Option C) (o : Option A) → option_and_then k (option_map f o) ≡ option_and_then (λ a. k (f a)) o
then_map f k None = refl
then_map f k (Some a) = refl

then_then : {A B C : Type 0} (f : A → Option B) (k : B → Option C) (o : Option A) → option_and_then k (option_and_then f o) ≡ option_and_then (λ a. option_and_then k (f a)) o
then_then f k None = refl
then_then f k (Some a) = refl

each_same : {A B : Type 0} (f g : A → Option B) (o : Option A) → ((a : A) → f a ≡ g a) → option_and_then f o ≡ option_and_then g o
each_same f g None same = refl
each_same f g (Some a) same = same a

module _ (scales : List (Operand × Operand)) (saved : List Graphics) (filled : List Filled) (pages : List (List Filled)) where
  abbrev machine_at : Pen → Machine
  machine_at pen = record { operands = []; graphics = record { scales = scales; pen = pen }; saved = saved; filled = filled; pages = pages }

  command_done : (pen : Pen) (command : Command) (words : List PsWord)
      → execute_all (machine_at pen) (command_words command ++ words) ≡ option_and_then (λ next. execute_all (machine_at next) words) (pen_after pen command)
  command_done pen (move at) words = then_map machine_at (λ m. execute_all m words) (pen_after pen (move at))
  command_done pen (line step) words = then_map machine_at (λ m. execute_all m words) (pen_after pen (line step))
  command_done pen (curve first second step) words = then_map machine_at (λ m. execute_all m words) (pen_after pen (curve first second step))
  command_done pen close words = then_map machine_at (λ m. execute_all m words) (pen_after pen close)

  commands_done : (pen : Pen) (commands : List Command) (words : List PsWord)
      → execute_all (machine_at pen) (commands_words commands ++ words) ≡ option_and_then (λ next. execute_all (machine_at next) words) (pen_after_all pen commands)
  commands_done pen [] words = refl
  commands_done pen (command ∷ commands) words =
      ap (execute_all (machine_at pen)) (append_assoc (command_words command) (commands_words commands) words)
      ∙ command_done pen command (commands_words commands ++ words)
      ∙ each_same (λ next. execute_all (machine_at next) (commands_words commands ++ words)) (λ next. option_and_then (λ last. execute_all (machine_at last) words) (pen_after_all next commands)) (pen_after pen command)
      (λ next. commands_done next commands words)
      ∙ sym (then_then (λ next. pen_after_all next commands) (λ last. execute_all (machine_at last) words) (pen_after pen command))

abbrev shape_filled : List (Operand × Operand) → ℕ → List (List Piece) → Filled
shape_filled scales unit shape = record { scales = scales; subpaths = map (outline_subpath unit) shape }

shape_done : (unit : ℕ) (few : unit ≤ 1000) (scales : List (Operand × Operand)) (saved : List Graphics) (filled : List Filled) (pages : List (List Filled)) (shape : List (List Piece)) (words : List PsWord)
    → execute_all (record { operands = []; graphics = record { scales = scales; pen = up [] }; saved = saved; filled = filled; pages = pages }) (shape_words unit few shape ++ words)
    ≡ execute_all (record { operands = []; graphics = record { scales = scales; pen = up [] }; saved = saved; filled = filled ++ shape_filled scales unit shape ∷ []; pages = pages }) words
shape_done unit few scales saved filled pages shape words =
    let commands = flat_map (outline_commands unit) shape in
    ap (execute_all (record { operands = []; graphics = record { scales = scales; pen = up [] }; saved = saved; filled = filled; pages = pages })) (append_assoc (commands_words commands) (eofill ∷ []) words)
    ∙ commands_done scales saved filled pages (up []) commands (eofill ∷ words)
    ∙ ap (option_and_then (λ next. execute_all (record { operands = []; graphics = record { scales = scales; pen = next }; saved = saved; filled = filled; pages = pages }) (eofill ∷ words))) (outlines_after unit [] shape)

shapes_done : (unit : ℕ) (few : unit ≤ 1000) (scales : List (Operand × Operand)) (saved : List Graphics) (filled : List Filled) (pages : List (List Filled)) (shapes : List (List (List Piece))) (words : List PsWord)
    → execute_all (record { operands = []; graphics = record { scales = scales; pen = up [] }; saved = saved; filled = filled; pages = pages }) (flat_map (shape_words unit few) shapes ++ words)
    ≡ execute_all (record { operands = []; graphics = record { scales = scales; pen = up [] }; saved = saved; filled = filled ++ map (shape_filled scales unit) shapes; pages = pages }) words
shapes_done unit few scales saved filled pages [] words =
    ap (λ f. execute_all (record { operands = []; graphics = record { scales = scales; pen = up [] }; saved = saved; filled = f; pages = pages }) words) (sym (append-nil filled))
shapes_done unit few scales saved filled pages (shape ∷ shapes) words =
    ap (execute_all (record { operands = []; graphics = record { scales = scales; pen = up [] }; saved = saved; filled = filled; pages = pages })) (append_assoc (shape_words unit few shape) (flat_map (shape_words unit few) shapes) words)
    ∙ shape_done unit few scales saved filled pages shape (flat_map (shape_words unit few) shapes ++ words)
    ∙ shapes_done unit few scales saved (filled ++ shape_filled scales unit shape ∷ []) pages shapes words
    ∙ ap (λ f. execute_all (record { operands = []; graphics = record { scales = scales; pen = up [] }; saved = saved; filled = f; pages = pages }) words) (append_assoc filled (shape_filled scales unit shape ∷ []) (map (shape_filled scales unit) shapes))

-- what it fills
pub program_done : (unit : ℕ) (few : unit ≤ 1000) (some : 1 ≤ unit) (trace : Trace) (pages : List (List Filled)) (ending : List PsWord)
    → execute_all (machine_behind pages) (program_words unit (flat_map (shape_words unit few) (shapes_of false trace)) ending)
    ≡ execute_all (record { operands = []; graphics = first_graphics; saved = []; filled = filled_shapes unit trace; pages = pages }) ending
program_done zero few some trace pages ending = absurd (omega arith)
program_done (suc u) few some trace pages ending =
    let scales = (quotient (pos 1) (pos (suc u)), quotient (pos 1) (pos (suc u))) ∷ [] in
    shapes_done (suc u) few scales (first_graphics ∷ []) [] pages (shapes_of false trace) (grestore ∷ ending)
