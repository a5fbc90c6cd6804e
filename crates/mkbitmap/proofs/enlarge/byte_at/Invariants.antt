use Rattle.std.proofs.Common.{◌≡◌, ◌-◌}
use Rattle.mkbitmap.specs.Inner.Enlarged.{dark}
use Rattle.mkbitmap.specs.Inner.Packing.{bits_value}
use Rattle.mkbitmap.specs.Packing.{padded}
use Rattle.mkbitmap.specs.Inner.CentrePlace.{IsPlaceOf}
use Rattle.mkbitmap.proofs.enlarge.byte_at.Given as goal

abbrev pub invariant-loop-x : goal.invariant-loop-x
invariant-loop-x l = record {
  place : IsPlaceOf l.times l.x l.place;
  value : l.byte ≡ bits_value (padded l.end (dark l.mixed l.times l.limit)) l.column (l.x - l.column);
}
