-- what is proved from the definitions
pub mod Scan
pub mod Outcome
