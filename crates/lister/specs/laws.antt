-- what is proved from the definitions
pub mod Texts
pub mod Lines
pub mod ListSteps
pub mod Longest
pub mod Behind
