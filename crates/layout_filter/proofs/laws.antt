-- what is proved from the definitions
pub mod ByStep
pub mod Finite
pub mod Limits
pub mod Strength
