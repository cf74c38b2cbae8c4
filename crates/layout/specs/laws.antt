-- what is proved from the definitions
pub mod Stretch
pub mod Grid
pub mod Order
pub mod CheckLaws
pub mod Rest
pub mod Corners
