-- what is proved from the definitions
pub mod Every
pub mod Bounds
pub mod Laws
