-- what is proved from the definitions
pub mod Coordinates
pub mod Small
