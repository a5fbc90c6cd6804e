-- The memory of a filter: a ring of slots for the rows that it holds, and the sums of their columns. These definitions
-- serve inner contracts only; no promise rests on them.
use Rattle.std.specs.Prelude.{◌≡◌, ℕ, ◌+◌, ◌-◌, ◌*◌, ◌/◌, ◌%◌, ◌<◌, ◌≤◌, min, List, [], length, get_or, map}
use Rattle.std.specs.List.{range_with_len}
use Rattle.pt_core.specs.declared.limits.TheConstants.{LONGEST_SIDE}
use Rattle.mkbitmap.specs.Box.{Gray, sum_between}
use Rattle.mkbitmap.specs.Enlarged.{dark_limit}
use Rattle.mkbitmap.specs.Filtering.{Filtering, HasGone}
use Rattle.mkbitmap.specs.Follows.{Follows}
use Rattle.mkbitmap.specs.declared.limits.TheConstants.{GREATEST_MAXVAL, GREATEST_RADIUS, GREATEST_RELIEF, GREATEST_TIMES}
use Rattle.mkbitmap.specs.declared.filter.Filter.TheInside.{Inside}

-- the first row that is held; the boxes of the next reliefs don't reach further up
abbrev pub first_held : Inside → ℕ
first_held f = min f.pairs f.height - f.radius

-- the contents of the slot of row j
abbrev pub held_row : Inside → ℕ → List ℕ
held_row f j = get_or f.ring.items (j % (2 * f.radius + 1)) []

-- the filter that has this memory
abbrev pub filtering_of : Inside → Filtering
filtering_of f = record {
  width = f.width;
  height = f.height;
  maxval = f.maxval;
  radius = f.radius;
  times = f.times;
  level = f.level;
  taken = f.taken;
  pairs = f.pairs;
  held = map (held_row f) (range_with_len (first_held f) (f.taken - first_held f));
  upper = f.upper.items;
  lower = f.lower.items;
  packed = f.packed.items;
}

-- the sides, the radius and the number of times are in range, and this is the limit of dark mixtures
pub record IsSetUp (width height maxval radius times level limit : ℕ) : Type 0 where
  pub some_columns : 1 ≤ width
  pub some_rows : 1 ≤ height
  pub most_white : maxval ≤ GREATEST_MAXVAL
  pub most_radius : radius ≤ GREATEST_RADIUS
  pub some_times : 1 ≤ times
  pub most_times : times ≤ GREATEST_TIMES
  pub most_columns : times * width ≤ LONGEST_SIDE
  pub most_rows : times * height ≤ LONGEST_SIDE
  pub dark : limit ≡ dark_limit maxval times level

-- the sizes of the lists
pub record HasRoom (f : Inside) : Type 0 where
  pub setup : IsSetUp f.width f.height f.maxval f.radius f.times f.level f.limit
  pub slots : length f.ring.items ≡ 2 * f.radius + 1
  pub slot : (k : ℕ) → k < 2 * f.radius + 1 → length (get_or f.ring.items k []) ≡ f.width
  pub columns : length f.columns.items ≡ f.width
  pub upper : length f.upper.items ≡ f.width
  pub lower : length f.lower.items ≡ f.width
  pub mixed : length f.mixed.items ≡ f.width + 2
  pub packed : length f.packed.items ≡ (f.times * f.width + 7) / 8
  pub pairs : f.pairs ≤ f.height + 1
  pub taken : f.taken ≤ f.height
  pub low : first_held f ≤ f.taken
  pub room : f.taken ≤ first_held f + (2 * f.radius + 1)

-- no sample that is held is brighter than white, the columns' sums are those of the rows that are held, and no relief
-- is too great
pub record IsLaidOut (f : Inside) : Type 0 where
  pub room : HasRoom f
  pub bright : (j : ℕ) → first_held f ≤ j → j < f.taken → (x : ℕ) → get_or (held_row f j) x 0 ≤ f.maxval
  pub sums : (x : ℕ) → x < f.width → get_or f.columns.items x 0 ≡ sum_between (λ j. get_or (held_row f j) x 0) (first_held f) f.taken
  pub upper : (x : ℕ) → get_or f.upper.items x 0 ≤ GREATEST_RELIEF
  pub lower : (x : ℕ) → get_or f.lower.items x 0 ≤ GREATEST_RELIEF

-- the reliefs of another row can be computed, since the rows that they need were taken
abbrev pub IsRowDue : Filtering → Type 0
IsRowDue f = (f.pairs < f.height) × (f.taken ≡ min f.height (f.pairs + f.radius + 1))

-- the filter follows each page that it followed before, and has the reliefs of one more row
abbrev pub StepsOn : Filtering → Filtering → Type 0
StepsOn old new = ((page : Gray) → Follows page old → Follows page new) × HasGone 0 1 old new
