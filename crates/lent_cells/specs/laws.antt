-- words that only contracts of code and laws use
pub mod Cells
