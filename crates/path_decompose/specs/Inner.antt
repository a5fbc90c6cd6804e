-- What inner contracts alone speak of: no promise rests on it.
pub mod Decomposition
pub mod Start
pub mod Trail
pub use Rattle.boundary_edges.specs.Inner.GridEdges
pub use Rattle.boundary_edges.specs.Inner.Bounds
