-- what is proved from the definitions
pub mod Accepted
pub mod Accepts
pub mod Lists
pub mod Marked
pub mod Parsing
pub mod Positions
pub mod Progress
pub mod Read
pub mod Stretch
pub mod Wrote
