-- what is proved from the definitions
pub mod ByStep
pub mod ChecksLaws
pub mod Tests
