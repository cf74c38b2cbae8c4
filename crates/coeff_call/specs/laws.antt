-- what is proved of the coefficient call
pub mod CallLaws
pub mod CallSteps
