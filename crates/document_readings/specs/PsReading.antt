-- What a PostScript program paints (PostScript Language Reference, third edition: 3.4 on stacks, 4.2 on the graphics
-- state, 4.4 on paths, 4.5 on painting, and chapter 8 on operators). Covered are the operators `gsave`, `div`, `dup`,
-- `scale`, `moveto`, `rlineto`, `rcurveto`, `closepath`, `eofill`, `grestore` and `showpage`, of closed subpaths alone. No
-- page is shown, and no program ends, where anything is left over: an operand, a saved graphics state, or a path.
use Rattle.std.specs.Prelude.{ℕ, zero, ℤ, pos, List, [], ◌∷◌, ◌++◌, Option, Some, None, option_map, option_and_then}
use Rattle.document_readings.specs.Drawn.{Command, Pen, Place, Subpath, pen_after, close, curve, line, move, up, down}
use Rattle.document_readings.specs.PsWords.{PsWord, number, gsave, div, dup, scale, moveto, rlineto, rcurveto, closepath, eofill, grestore, showpage, unknown, ps_words}
use Rattle.document_readings.specs.PsWords as words

-- a number on the stack: a whole one, or the quotient of two
pub data Operand : Type 0 where
  whole : ℤ → Operand
  quotient : ℤ → ℤ → Operand

-- the graphics state: the scales that are in force, the last one first, and the current path
pub record Graphics : Type 0 where
  pub scales : List (Operand × Operand)
  pub pen : Pen

-- the graphics state at the beginning of a page: no scale, and no path
abbrev pub first_graphics : Graphics
first_graphics = record { scales = []; pen = up [] }

-- a shape that was filled by the even-odd rule, and the scales that were in force
pub record Filled : Type 0 where
  pub scales : List (Operand × Operand)
  pub subpaths : List Subpath

-- the operands, the last one first; the graphics state, and those that were saved, the last one first; what was filled on
-- the page; and the pages that were shown
pub record Machine : Type 0 where
  pub operands : List Operand
  pub graphics : Graphics
  pub saved : List Graphics
  pub filled : List Filled
  pub pages : List (List Filled)

-- the last two operands, which are whole
abbrev pub with_two : List Operand → (Place → List Operand → Option Machine) → Option Machine
with_two (whole y ∷ whole x ∷ rest) f = f (record { x = x; y = y }) rest
with_two operands f = None

-- a command draws on the current path
abbrev pub draws : Machine → Command → List Operand → Option Machine
draws m command rest =
    option_map (λ pen. record m { operands = rest; graphics = record { scales = (m.graphics).scales; pen = pen } }) (pen_after (m.graphics).pen command)

-- the last two operands, which are whole, are a quotient; by nothing no number is divided
abbrev pub divides : List Operand → Option (List Operand)
divides (whole (pos zero) ∷ rest) = None
divides (whole b ∷ whole a ∷ rest) = Some (quotient a b ∷ rest)
divides operands = None

-- the last operand is there twice
abbrev pub doubles : List Operand → Option (List Operand)
doubles (last ∷ rest) = Some (last ∷ last ∷ rest)
doubles operands = None

-- a scale is put over the others, where no path is begun
abbrev pub scales_by : List Operand → Pen → Machine → Option Machine
scales_by (y ∷ x ∷ rest) (up []) m =
    Some (record m { operands = rest; graphics = record { scales = (x, y) ∷ (m.graphics).scales; pen = up [] } })
scales_by operands pen m = None

-- the current path is filled where all of it is closed, and is empty then
abbrev pub fills : Pen → Machine → Option Machine
fills (up subpaths) m =
    Some (record m {
      graphics = record { scales = (m.graphics).scales; pen = up [] };
      filled = m.filled ++ record { scales = (m.graphics).scales; subpaths = subpaths } ∷ [];
    })
fills (down done start segments now) m = None

-- the graphics state is again the one that was saved last
abbrev pub restores : List Graphics → Machine → Option Machine
restores [] m = None
restores (graphics ∷ saved) m = Some (record m { graphics = graphics; saved = saved })

-- the page is shown, and the next one begins in the first graphics state
abbrev pub shows : List Operand → Pen → List Graphics → Machine → Option Machine
shows [] (up []) [] m = Some (record m { graphics = first_graphics; filled = []; pages = m.pages ++ m.filled ∷ [] })
shows operands pen saved m = None

-- other operands, if there are any
abbrev pub with_operands : Machine → Option (List Operand) → Option Machine
with_operands m operands = option_map (λ rest. record m { operands = rest }) operands

-- what a word does
abbrev pub execute : PsWord → Machine → Option Machine
execute (number z) m = with_operands m (Some (whole z ∷ m.operands))
execute gsave m = Some (record m { saved = m.graphics ∷ m.saved })
execute div m = with_operands m (divides m.operands)
execute dup m = with_operands m (doubles m.operands)
execute scale m = scales_by m.operands (m.graphics).pen m
execute moveto m = with_two m.operands (λ at rest. draws m (move at) rest)
execute rlineto m = with_two m.operands (λ step rest. draws m (line step) rest)
execute rcurveto m = with_two m.operands (λ step rest. with_two rest (λ second rest. with_two rest (λ first rest. draws m (curve first second step) rest)))
execute closepath m = draws m close m.operands
execute eofill m = fills (m.graphics).pen m
execute grestore m = restores m.saved m
execute showpage m = shows m.operands (m.graphics).pen m.saved m
execute unknown m = None

-- what words do, one after another
abbrev pub execute_all : Machine → List PsWord → Option Machine
execute_all m [] = Some m
execute_all m (word ∷ words) = option_and_then (λ next. execute_all next words) (execute word m)

-- the machine before a program, and behind pages that were shown
abbrev pub machine_behind : List (List Filled) → Machine
machine_behind pages = record { operands = []; graphics = first_graphics; saved = []; filled = []; pages = pages }

-- what a program painted: the pages that it showed, and what it filled behind them
pub record Painted : Type 0 where
  pub pages : List (List Filled)
  pub unshown : List Filled

-- what was painted, where nothing is left over
abbrev pub painted_by : List Operand → Pen → List Graphics → Machine → Option Painted
painted_by [] (up []) [] m = Some (record { pages = m.pages; unshown = m.filled })
painted_by operands pen saved m = None

-- what a program paints
abbrev pub ps_painted : List ℕ → Option Painted
ps_painted text =
    option_and_then (λ m. painted_by m.operands (m.graphics).pen m.saved m) (option_and_then (execute_all (machine_behind [])) (ps_words words.between text))
