pub mod Cauchy
pub mod Examples
pub mod Fitting
pub mod Forms
pub mod Naturals
pub mod OneWay
pub mod Sums
pub mod Together
