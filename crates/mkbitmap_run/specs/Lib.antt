pub mod Result
pub mod Rows
pub mod Shown
pub mod FilterRun
pub mod PageHeader
pub mod Inner
