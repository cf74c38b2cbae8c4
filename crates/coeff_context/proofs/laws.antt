-- what is proved from the definitions
pub mod Census
pub mod Contexts
pub mod Situations
pub mod TooLarge
