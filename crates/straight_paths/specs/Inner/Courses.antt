-- What the steps of a word come to.
use Rattle.std.specs.Prelude.{◌≡◌, ℕ, suc, ◌+◌, ◌<◌, pos, false}
use Rattle.pt_core.specs.declared.point.Point.{Point}
use Rattle.path_cones.specs.Inner.Codes.{IsCoded, coded_step}
use Rattle.path_cones.specs.Inner.Cones.{HoldsNear, IsSound}
use Rattle.path_cones.specs.Corners.{step_from}
use Rattle.path_cones.specs.Straight.{IsStraight}
use Rattle.path_cones.specs.Inner.Tails.{way_along}
use Rattle.straight_paths.specs.Inner.NextSteps.{AreTaken}
use Rattle.path_cones.specs.declared.cone.Cone.{Cone}
use Rattle.path_cones.specs.declared.cone.Cone.TheVariants.{Between, Open}
use Rattle.straight_paths.specs.declared.course.Course.{Course}
use Rattle.straight_paths.specs.declared.course.Narrow.{Narrow}
use Rattle.straight_paths.specs.declared.course.Narrow.TheVariants.{Bounded, Unbounded}
use Rattle.straight_paths.specs.declared.course.Short.{Short}
use Rattle.path_cones.specs.declared.vector.Vector.{Vector}

-- the vector that is kept
abbrev pub wide_of : Short → Vector
wide_of short = record { x = short.x; y = short.y }

-- the cone that is kept
abbrev pub cone_of : Narrow → Cone
cone_of Unbounded = Open
cone_of (Bounded low high) = Between (wide_of low) (wide_of high)

-- the course of no steps
abbrev pub no_course : Course
no_course = record {
  front = 0;
  last = 0;
  way = record { x = pos 0; y = pos 0 };
  cone = Unbounded;
  flags = record { east = false; north = false; west = false; south = false };
}

-- the way, the cone and the directions are those of the path's first `count` steps
pub record HasCourse (path : ℕ → Point) (count : ℕ) (course : Course) : Type 0 where
  pub way : wide_of course.way ≡ way_along path count
  pub near : HoldsNear path count (cone_of course.cone)
  pub taken : AreTaken path count course.flags

-- each path whose first `count` steps are straight and have a code has this course, and its first `few` steps, all but
-- the last one, have the code `front`
pub record IsCourse (count digits few front : ℕ) (course : Course) : Type 0 where
  pub sound : IsSound (cone_of course.cone)
  pub last : course.last < 4
  pub fewer : 0 < count → few + 1 ≡ count
  pub has : (path : ℕ → Point) → IsCoded count path digits → IsStraight path count → HasCourse path count course
  pub ends : (path : ℕ → Point) → 0 < count → IsCoded count path digits → IsStraight path count
      → IsCoded few path front × (step_from path few ≡ coded_step course.last)

-- the new course is that of the old one's steps and one more, and of a word whose front has this number
pub record HasStepMore (old : Course) (front digit : ℕ) (new : Course) : Type 0 where
  pub front_is : new.front ≡ front
  pub last : new.last ≡ digit
  pub sound : IsSound (cone_of new.cone)
  pub has : (path : ℕ → Point) (count : ℕ) → step_from path count ≡ coded_step digit
      → HasCourse path count old → HasCourse path (suc count) new
