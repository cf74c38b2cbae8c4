-- what is proved from the definitions
pub mod Rules
pub mod Sides
pub mod LookUp
pub mod Exponents
