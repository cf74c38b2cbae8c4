-- what the exported calls hand out
pub mod Layout
pub mod laws
