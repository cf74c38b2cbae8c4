-- laws on lists laid into arrays
pub mod laws
