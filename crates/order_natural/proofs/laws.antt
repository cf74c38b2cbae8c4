-- what is proved from the definitions
pub mod Beyond
pub mod Bools
pub mod Counts
pub mod Filling
pub mod Flat
pub mod Keep
pub mod Listing
pub mod Order
pub mod Rows
pub mod Sizes
pub mod Slants
pub mod Square
pub mod Turns
pub mod Whole
