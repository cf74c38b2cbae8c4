-- what is proved from the definitions
pub mod Examples
pub mod Like
pub mod LikeSteps
pub mod Theorems
