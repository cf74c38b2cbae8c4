-- what is proved from the definitions
pub mod Accepted
pub mod Columns
pub mod Empty
pub mod Marked
pub mod Puts
pub mod Refused
pub mod Sigma
pub mod Stops
pub mod Theorems
pub mod Took
pub mod Types
pub mod Unread
