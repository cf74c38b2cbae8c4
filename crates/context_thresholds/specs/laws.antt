-- what is proved from the definitions
pub mod Steps
pub mod Lists
pub mod Halfway
