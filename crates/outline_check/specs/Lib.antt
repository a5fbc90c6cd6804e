pub mod Labels
pub mod Leading
pub mod Certificate
pub mod ProofsText
pub mod Texts
pub mod Verdicts
pub mod Printed
pub mod Inner
