-- How many bytes a page's document has at most.
use Rattle.std.specs.Prelude.{ℕ}
use Rattle.pt_core.specs.declared.settings.Backend.{Backend}
use Rattle.pt_core.specs.declared.settings.Backend.TheVariants.{Dxf, Eps, GeoJson, Points, Polygons, Proofs, Ps, Svg}

-- so many for each side of the page's pixels
abbrev pub bytes_each : Backend → ℕ
bytes_each Points = 16
bytes_each Polygons = 24
bytes_each Proofs = 67
bytes_each Svg = 88
bytes_each Eps = 93
bytes_each Ps = 93
bytes_each Dxf = 417
bytes_each GeoJson = 302

-- and so many more
abbrev pub bytes_beside : Backend → ℕ
bytes_beside Points = 30
bytes_beside Polygons = 32
bytes_beside Proofs = 30
bytes_beside Svg = 249
bytes_beside Eps = 111
bytes_beside Ps = 45
bytes_beside Dxf = 36
bytes_beside GeoJson = 45
