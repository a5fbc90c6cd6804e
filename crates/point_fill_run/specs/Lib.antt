pub mod FillReply
pub mod Round
pub mod Inner
