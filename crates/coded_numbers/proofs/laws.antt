-- what is proved from the definitions
pub mod ByStep
pub mod Exponent
pub mod Signed
