-- what the exported calls hand out
pub mod Transform
