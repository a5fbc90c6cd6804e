-- What a table of words tells.
use Rattle.std.specs.Prelude.{◌≡◌, ◌⊎◌, ℕ, ◌+◌, ◌*◌, ◌<◌, ◌≤◌, length, slice_index, slice_index_or}
use Rattle.pt_core.specs.declared.point.Point.{Point}
use Rattle.path_cones.specs.Inner.Codes.{IsCoded}
use Rattle.straight_paths.specs.Inner.Courses.{IsCourse, no_course}
use Rattle.path_cones.specs.Straight.{IsStraight}
use Rattle.straight_paths.specs.Inner.NextSteps.{TellsFront, TellsNext}
use Rattle.straight_paths.specs.declared.course.Course.{Course}
use Rattle.straight_paths.specs.declared.table.Table.{Table}
use Rattle.straight_paths.specs.declared.word.Word.{Word}

-- the number of steps of word number `node`
abbrev pub count_at : Table → ℕ → ℕ
count_at table node = slice_index table.counts.items node

-- the digits of word number `node`
abbrev pub digits_at : Table → ℕ → ℕ
digits_at table node = slice_index table.digits.items node

-- and what its steps come to
abbrev pub course_at : Table → ℕ → Course
course_at table node = slice_index_or table.courses.items node no_course

-- a step in front of word number `node` leads to word number `next`
pub record LeadsToWord (table : Table) (node digit next : ℕ) : Type 0 where
  pub known : next < table.used
  pub tells : TellsNext (count_at table node) (digits_at table node) digit (count_at table next) (digits_at table next)

-- the words are short, and an entry is 0 or tells where a step in front of its word leads
pub record IsWordTable (table : Table) : Type 0 where
  pub few : table.used ≤ 65536
  pub digits : table.used ≤ length table.digits.items
  pub counts : table.used ≤ length table.counts.items
  pub nexts : 4 * table.used ≤ length table.nexts.items
  pub courses : table.used ≤ length table.courses.items
  pub root : 0 < table.used → count_at table 0 ≡ 0
  pub short : (node : ℕ) → node < table.used → count_at table node ≤ 19
  pub tells : (node digit : ℕ) → node < table.used → digit < 4
      → (slice_index table.nexts.items (4 * node + digit) ≡ 0)
      ⊎ LeadsToWord table node digit (slice_index table.nexts.items (4 * node + digit))
  pub front : (node : ℕ) → node < table.used → (course_at table node).front < table.used
  pub course : (node : ℕ) → node < table.used → IsCourse (count_at table node) (digits_at table node)
      (count_at table (course_at table node).front) (digits_at table (course_at table node).front) (course_at table node)

-- `node` is the number of a word of the table
pub record IsWordOf (table : Table) (node : ℕ) : Type 0 where
  pub whole : IsWordTable table
  pub known : node < table.used

-- a step in front of word number `node` without its last step leads to word number `next`, and `last` is that last step
pub record LeadsFront (table : Table) (node digit next last : ℕ) : Type 0 where
  pub known : next < table.used
  pub small : last < 4
  pub tells : TellsFront (count_at table node) (digits_at table node) digit (count_at table next) (digits_at table next) last

-- the course is that of this word, and its front is in the table
pub record IsCourseOf (table : Table) (word : Word) (course : Course) : Type 0 where
  pub known : course.front < table.used
  pub fits : IsCourse word.count word.digits (count_at table course.front) (digits_at table course.front) course

-- the table has this word under number `node`
pub record HasWordAt (table : Table) (word : Word) (node : ℕ) : Type 0 where
  pub known : node < table.used
  pub count : count_at table node ≡ word.count
  pub digits : digits_at table node ≡ word.digits

-- the words of the one are in the other, under the same numbers
pub record KeepsWords (old new : Table) : Type 0 where
  pub used : old.used ≤ new.used
  pub counts : (node : ℕ) → node < old.used → count_at new node ≡ count_at old node
  pub digits : (node : ℕ) → node < old.used → digits_at new node ≡ digits_at old node
  pub courses : (node : ℕ) → node < old.used → course_at new node ≡ course_at old node

-- the one has become the other, with all of its words and maybe more
pub record GrowsInto (old new : Table) : Type 0 where
  pub whole : IsWordTable new
  pub keeps : KeepsWords old new

-- each path whose first steps are straight and have a word's code has that of word number `node`, which is as long
pub record StandsFor (table : Table) (node count digits : ℕ) : Type 0 where
  pub known : node < table.used
  pub same : (path : ℕ → Point) → IsCoded count path digits → IsStraight path count
      → (count_at table node ≡ count) × IsCoded count path (digits_at table node)
