-- what is proved from the definitions
pub mod CutSteps
pub mod Theorems
