-- The section of a page in which a number occurs, and what an unexpected byte means there.
use Rattle.bitmap_input.specs.Cut.{Kind}
use Rattle.bitmap_input.specs.Cut.Kind.{BadHeader, BadRaster}
use Rattle.bitmap_input.specs.declared.number.Section.{Section}
use Rattle.bitmap_input.specs.declared.number.Section.TheVariants.{Header, Raster}

-- why a page is refused if this section of it has a byte that isn't a digit or part of a gap
abbrev pub kind_at : Section → Kind
kind_at Header = BadHeader
kind_at Raster = BadRaster
