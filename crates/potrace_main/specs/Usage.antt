-- What the program tells of itself.
use Rattle.std.specs.Prelude.{ℕ, List, codes}

-- how the program is used
abbrev pub help_text : List ℕ
help_text = codes "usage: potrace [options] [file...]\noptions are those of the potrace manual page, see 01 section 9\n"

-- which version the program is
abbrev pub version_text : List ℕ
version_text = codes "potrace, integer profile 1\n"
