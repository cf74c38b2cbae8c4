-- what is proved of it
pub mod Coefficients
