pub mod Chords
pub mod DxfText
pub mod GeoJsonText
pub use Rattle.dxf_geojson.specs.DxfText.{dxf_text}
pub use Rattle.dxf_geojson.specs.GeoJsonText.{geojson_text}
