-- what is proved from the definitions
pub mod Digest
pub mod Compare
