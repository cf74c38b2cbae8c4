-- what is proved from the definitions
pub mod ByStep
pub mod Judged
