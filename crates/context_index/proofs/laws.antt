-- what is proved from the definitions
pub mod Bounds
pub mod ByStep
pub mod Laws
