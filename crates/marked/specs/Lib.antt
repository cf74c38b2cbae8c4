-- document 01's marked examples, and what document 02 adds to them
pub mod Coefficients
pub mod Lines
pub mod Marked
