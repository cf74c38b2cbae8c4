-- likeness of two lent layouts: what it means and what the call answers
pub mod Like
pub mod Calls
pub mod Theorems
pub mod Examples
pub mod laws
