-- A fact that always holds also holds if an option is `None`.
use Rattle.std.specs.Prelude.{Option, Some, None, IfNone}

pub if_none : {A P : Type 0} (r : Option A) → P → IfNone r P
if_none (Some a) p = tt
if_none None p = p
