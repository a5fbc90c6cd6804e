-- Setups with which a page can be filtered.
use Rattle.std.specs.Prelude.{◌≤◌}
use Rattle.mkbitmap_words.specs.declared.setup.Setup.{Setup}
use Rattle.mkbitmap.specs.declared.limits.TheConstants.{GREATEST_LEVEL, GREATEST_RADIUS, GREATEST_TIMES}

-- a page can be filtered with this setup
pub record CanFilter (setup : Setup) : Type 0 where
  pub most_radius : setup.radius ≤ GREATEST_RADIUS
  pub some_times : 1 ≤ setup.times
  pub most_times : setup.times ≤ GREATEST_TIMES
  pub most_level : setup.level ≤ GREATEST_LEVEL
