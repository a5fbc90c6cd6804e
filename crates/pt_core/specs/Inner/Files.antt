-- A code for the contents of files.
use Rattle.std.specs.Coded.{Coded, coded_ℕ, coded_list}
use Rattle.std.specs.FinMap.{code}
use Rattle.pt_core.specs.Files.{Contents}

-- the contents of files have a code, in the sense of the kit's library
abbrev pub contents_code : Coded Contents
contents_code = code (coded_list coded_ℕ) (coded_list coded_ℕ)
