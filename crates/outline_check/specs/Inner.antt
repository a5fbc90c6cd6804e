-- What inner contracts alone speak of: no promise rests on it.
pub mod CertifiedPaths
pub mod Known
pub mod LabelPoints
pub mod Printed
pub mod Verdicts
