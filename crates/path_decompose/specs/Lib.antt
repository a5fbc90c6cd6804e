pub mod Walk
pub mod Decomposition
pub mod AllPaths
pub mod Inner
-- Lines, corners and insides, on which what is said of paths rests.
pub use Rattle.boundary_edges.specs.GridEdges
pub use Rattle.boundary_edges.specs.Inside
pub use Rattle.boundary_edges.specs.Bounds
