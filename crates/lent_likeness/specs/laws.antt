-- what is proved from the definitions
pub mod LikeSteps
pub mod Examples
