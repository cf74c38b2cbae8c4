-- what is proved from the definitions
pub mod Offsets
pub mod LookedUp
