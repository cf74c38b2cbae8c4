-- what is proved from the definitions
pub mod ByStep
pub mod Lengths
pub mod Mapped
pub mod Places
pub mod ScanSteps
