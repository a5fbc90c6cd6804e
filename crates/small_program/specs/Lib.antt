pub mod Reply
pub mod Input
pub mod ProgramRun
pub mod Inner
