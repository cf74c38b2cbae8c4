-- what is proved from the definitions
pub mod Read
pub mod Accepted
pub mod Wrote
pub mod Lists
pub mod Progress
pub mod Filled
