-- what is proved from the definitions
pub mod Parts
pub mod CallLaws
pub mod Accepted
