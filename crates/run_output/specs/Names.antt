-- The names of documents, from the names of input files or of the output.
use Rattle.std.specs.Prelude.{ℕ, zero, suc, ◌+◌, List, ◌∷◌, ◌++◌, length, take, drop, Option, None, Some, nat_lt, if◌then◌else◌, codes, count_by, decimal}
use Rattle.std.specs.Path.{rfind_below}
use Rattle.std.specs.Str.{bytes_eq}
use Rattle.pt_core.specs.declared.settings.Backend.{Backend}
use Rattle.pt_core.specs.declared.settings.Backend.TheVariants.{Eps, Ps, Svg, Dxf, GeoJson, Points, Polygons, Proofs}

-- the name `-`, which means standard input or standard output
abbrev pub dash : List ℕ
dash = codes "-"

-- the index of the last byte of this value in a name
abbrev pub last_place : ℕ → List ℕ → Option ℕ
last_place byte name = rfind_below byte name (length name)

-- the index after this one; 0 if there is none
abbrev pub behind_place : Option ℕ → ℕ
behind_place None = 0
behind_place (Some i) = i + 1

-- the index at which the last part of a path begins: after its last `/` (47)
abbrev pub part_begins : List ℕ → ℕ
part_begins name = behind_place (last_place 47 name)

-- this index, if it is greater than `first`; else `end`
abbrev pub place_behind : ℕ → ℕ → Option ℕ → ℕ
place_behind first end None = end
place_behind first end (Some i) = if nat_lt first i then i else end

-- the index at which a name's suffix begins: at its last `.` (46), if that comes after the first byte of the path's
-- last part; else the name has no suffix, and this is its length
abbrev pub suffix_begins : List ℕ → ℕ
suffix_begins name = place_behind (part_begins name) (length name) (last_place 46 name)

-- a name without its suffix
abbrev pub stem_of : List ℕ → List ℕ
stem_of name = take (suffix_begins name) name

-- the suffix of a name
abbrev pub suffix_of : List ℕ → List ℕ
suffix_of name = drop (suffix_begins name) name

-- the suffix of a backend's documents
abbrev pub backend_suffix : Backend → List ℕ
backend_suffix Eps = codes ".eps"
backend_suffix Ps = codes ".ps"
backend_suffix Svg = codes ".svg"
backend_suffix Dxf = codes ".dxf"
backend_suffix GeoJson = codes ".json"
backend_suffix Points = codes ".points"
backend_suffix Polygons = codes ".polygons"
backend_suffix Proofs = codes ".proofs"

-- the base name of a file's documents: the output's name if one is given; `-` for standard input; else the file's name
-- with this suffix instead of its own
abbrev pub base_name : Option (List ℕ) → List ℕ → List ℕ → List ℕ
base_name (Some output) suffix file = output
base_name None suffix file = if bytes_eq file dash then dash else stem_of file ++ suffix

-- the name of the k-th document with a base name: the base name itself for the first one, the base name with `-k`
-- before its suffix for later ones, and always `-` for standard output
abbrev pub document_name : List ℕ → ℕ → List ℕ
document_name base k =
    if bytes_eq base dash then dash else if nat_lt 1 k then stem_of base ++ (codes "-" ++ (decimal k ++ suffix_of base)) else base

-- how many documents have this base name, among documents that are listed by their base names
abbrev pub count_of : List ℕ → List (List ℕ) → ℕ
count_of base made = count_by (λ name. bytes_eq name base) made

-- the name of the next document with a base name, after documents with these base names
abbrev pub next_name : List ℕ → List (List ℕ) → List ℕ
next_name base made = document_name base (1 + count_of base made)

-- these base names with n more documents of this base name in front
abbrev pub made_with : List ℕ → ℕ → List (List ℕ) → List (List ℕ)
made_with base zero made = made
made_with base (suc n) made = base ∷ made_with base n made
