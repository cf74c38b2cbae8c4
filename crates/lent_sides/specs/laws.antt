-- what is proved from the definitions
pub mod Limits
pub mod Sizes
