-- what is proved from the definitions
pub mod JobSteps
pub mod Needed
pub mod Reading
