-- what is proved from the definitions
pub mod Coefficients
pub mod Lines
pub mod Marked
pub mod Orders
