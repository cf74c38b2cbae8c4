-- what is proved from the definitions
pub mod CallSteps
