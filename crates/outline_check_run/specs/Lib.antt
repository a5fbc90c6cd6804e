pub mod Verdict
pub mod Rechecked
pub mod Inner
pub use Rattle.outline_check_run.specs.Verdict.{IsCheckReply}
pub use Rattle.outline_check_run.specs.Rechecked.{FindsRight}
