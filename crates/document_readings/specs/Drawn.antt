-- What commands draw from a current point (SVG 1.1, section 8.3; PostScript Language Reference, third edition,
-- section 4.4). Both formats have the same model: a path is a list of subpaths, a pen stands at the current point,
-- and a command moves the pen by a step. Covered are closed subpaths, each of which begins with a move of its own.
use Rattle.std.specs.Prelude.{◌+ℤ◌, ℤ, List, [], ◌∷◌, ◌++◌, Option, Some, None, option_and_then}

-- a place, or the step from one place to another, in the units of the document
pub record Place : Type 0 where
  pub x : ℤ
  pub y : ℤ

-- the place that lies a step away
abbrev pub displaced : Place → Place → Place
displaced from step = record { x = from.x +ℤ step.x; y = from.y +ℤ step.y }

-- a line to a place, or a cubic Bezier curve by two controls to a place
pub data Segment : Type 0 where
  line_to : Place → Segment
  curve_to : Place → Place → Place → Segment

-- a closed subpath: where it starts, and its segments, each of which begins where the one before ends
pub record Subpath : Type 0 where
  pub start : Place
  pub segments : List Segment

-- a command: the place of a move is absolute, the others are steps from the current point
pub data Command : Type 0 where
  move : Place → Command
  line : Place → Command
  curve : Place → Place → Place → Command
  close : Command

-- the pen is up behind whole subpaths; or it is down behind those and in an open one, which has a start and some
-- segments, and stands at the current point
pub data Pen : Type 0 where
  up : List Subpath → Pen
  down : List Subpath → Place → List Segment → Place → Pen

-- one segment more, to whose end the pen goes
abbrev pub pen_longer : List Subpath → Place → List Segment → Segment → Place → Option Pen
pen_longer done start segments segment end = Some (down done start (segments ++ segment ∷ []) end)

-- a command begins a subpath where none is open, goes on in the open one, or closes it
abbrev pub pen_after : Pen → Command → Option Pen
pen_after (up done) (move at) = Some (down done at [] at)
pen_after (up done) (line step) = None
pen_after (up done) (curve first second step) = None
pen_after (up done) close = None
pen_after (down done start segments now) (move at) = None
pen_after (down done start segments now) (line step) = pen_longer done start segments (line_to (displaced now step)) (displaced now step)
pen_after (down done start segments now) (curve first second step) =
    pen_longer done start segments (curve_to (displaced now first) (displaced now second) (displaced now step)) (displaced now step)
pen_after (down done start segments now) close = Some (up (done ++ record { start = start; segments = segments } ∷ []))

-- one command after another
abbrev pub pen_after_all : Pen → List Command → Option Pen
pen_after_all pen [] = Some pen
pen_after_all pen (command ∷ commands) = option_and_then (λ next. pen_after_all next commands) (pen_after pen command)

-- the subpaths, where none is open
abbrev pub closed_subpaths : Pen → Option (List Subpath)
closed_subpaths (up done) = Some done
closed_subpaths (down done start segments now) = None

-- what commands draw
abbrev pub drawn : List Command → Option (List Subpath)
drawn commands = option_and_then closed_subpaths (pen_after_all (up []) commands)
