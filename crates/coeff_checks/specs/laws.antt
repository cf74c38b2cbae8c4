-- what is proved of the checks before work
pub mod Tests
pub mod ChecksLaws
