-- what the exported calls hand out
pub mod Orders
pub mod laws
