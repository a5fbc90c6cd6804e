-- Settings that words give.
use Rattle.std.specs.Prelude.{ℕ, List, Option}
use Rattle.pt_core.specs.declared.settings.Settings.{Settings}
use Rattle.potrace_words.specs.Asked.{IsAsked}
use Rattle.potrace_words.specs.declared.ask.Ask.TheVariants.{Files}

-- the words ask that files be traced under these settings
pub record AskUnder (words : List (List ℕ)) (settings : Settings) : Type 0 where
  pub names : List (List ℕ)
  pub output : Option (List ℕ)
  pub workers : ℕ
  pub asked : IsAsked words (Files names output workers settings)
