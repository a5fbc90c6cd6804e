-- Areas between an outline's pieces and the origin.
use Rattle.std.specs.Prelude.{◌≡◌, ℕ, ◌+◌, ◌<◌, ℤ, List, length, map, slice_index_or, take}
use Rattle.std.specs.List.{range_with_len}
use Rattle.pt_core.specs.ClosedWalk.{origin}
use Rattle.curve_join.specs.Join.{no_bend, total_area}
use Rattle.curve_join.specs.declared.bend.Bend.{Bend}

-- each piece starts at the end of the one before it
abbrev pub AreLinked : List Bend → Type 0
AreLinked bends =
    (k : ℕ) → k + 1 < length bends → (slice_index_or bends (k + 1) no_bend).start ≡ (slice_index_or bends k no_bend).end

-- ten times the doubled area between the first k pieces and the origin
abbrev pub area_up_to : List Bend → ℕ → ℤ
area_up_to bends k = total_area origin (take k bends)

-- ten times the doubled areas between the first k pieces and the origin, for all k
abbrev pub areas_of : List Bend → List ℤ
areas_of bends = map (area_up_to bends) (range_with_len 0 (length bends + 1))
