-- what is proved from the definitions
pub mod Took
pub mod Puts
pub mod Stops
pub mod Theorems
pub mod Marked
pub mod Sigma
pub mod Unread
pub mod Columns
pub mod Types
pub mod Empty
