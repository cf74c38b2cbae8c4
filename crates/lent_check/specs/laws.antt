-- what is proved from the definitions
pub mod Laws
pub mod Corners
pub mod Theorems
pub mod Flaws
pub mod Sorts
pub mod Depths
pub mod Steps
pub mod Apart
pub mod Claims
pub mod Rows
pub mod Listing
pub mod Closing
