-- what is proved from the definitions
pub mod Powers
pub mod Ors
pub mod Checking
pub mod Places
