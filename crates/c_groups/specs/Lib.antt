-- what the exported calls hand out
pub mod Record
pub mod laws
