-- what is proved from the definitions
pub mod Cells
pub mod Visits
