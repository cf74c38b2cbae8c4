-- what the exported coefficient call hands out
pub mod Coefficients
pub mod laws
