-- What the lines of a demo need of the settings.
use Rattle.pt_core.specs.declared.settings.Settings.{Settings}
use Rattle.pt_core.specs.Needs.{CanTrace, CanWrite}

-- what a line of a demo needs of the settings
pub record CanCount (settings : Settings) : Type 0 where
  pub traced : CanTrace settings
  pub written : CanWrite settings
