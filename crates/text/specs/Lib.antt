-- text in lent bytes
pub mod Text
pub mod laws
