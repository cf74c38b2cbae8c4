-- planes of a group
pub mod Planes
pub mod laws
