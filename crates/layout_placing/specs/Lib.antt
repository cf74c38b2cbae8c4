-- the scan of a varblock's rectangle, the reading of a layout, and laws on them
pub mod Scan
pub mod Reading
pub mod Outcome
