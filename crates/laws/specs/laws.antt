-- what is proved from the definitions
pub mod Cases
pub mod Lists
pub mod Pastes
pub mod Laid
pub mod Tables
