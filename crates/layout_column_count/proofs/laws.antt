-- what is proved from the definitions
pub mod CountSteps
pub mod Empty
