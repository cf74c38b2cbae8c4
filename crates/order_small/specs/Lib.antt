-- orders 0 to 6, from a table
pub mod laws
