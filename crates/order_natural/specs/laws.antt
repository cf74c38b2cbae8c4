-- what is proved from the definitions
pub mod Sizes
pub mod Keep
pub mod Turns
pub mod Filling
pub mod Slants
