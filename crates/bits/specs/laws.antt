-- what is proved from the definitions
pub mod Numbers
pub mod Laws
pub mod Near
