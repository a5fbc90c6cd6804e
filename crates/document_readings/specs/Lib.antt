pub mod TextLines
pub mod WholeNumbers
pub mod Drawn
pub mod PathData
pub mod Transforms
pub mod XmlTags
pub mod XmlTree
pub mod SvgReading
pub mod Decimals
pub mod GeoJsonReading
pub mod DxfReading
pub mod PsWords
pub mod PsReading
pub mod Places
pub mod TraceShapes
pub mod SvgPicture
pub mod Rings
pub mod DscReading
pub mod EpsBox
pub use Rattle.document_readings.specs.Drawn.{Place}
pub use Rattle.document_readings.specs.DscReading.{dsc_pages}
pub use Rattle.document_readings.specs.DxfReading.{dxf_polylines}
pub use Rattle.document_readings.specs.EpsBox.{eps_box}
pub use Rattle.document_readings.specs.GeoJsonReading.{geojson_polygons}
pub use Rattle.document_readings.specs.PathData.{path_subpaths}
pub use Rattle.document_readings.specs.Places.{AreInReach, ComesBack, outline_subpath}
pub use Rattle.document_readings.specs.PsReading.{ps_painted}
pub use Rattle.document_readings.specs.Rings.{HasTwoPieces, HaveTwoPieces, polyline_of, trace_polygons}
pub use Rattle.document_readings.specs.SvgPicture.{trace_picture, up_the_page}
pub use Rattle.document_readings.specs.SvgReading.{svg_picture}
pub use Rattle.document_readings.specs.TraceShapes.{filled_shapes, path_data}
pub use Rattle.document_readings.specs.Transforms.{image_by}
