-- digests, and what was recorded against what a call gave
pub mod Digest
pub mod Compare
pub mod laws
