-- what is proved from the definitions
pub mod Strength
pub mod Finite
