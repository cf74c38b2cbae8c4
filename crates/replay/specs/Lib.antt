-- floats by their patterns
pub mod laws
