-- what is proved of contexts of coefficients
pub mod Contexts
pub mod Census
pub mod TooLarge
