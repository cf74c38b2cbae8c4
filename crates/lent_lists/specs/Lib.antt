-- lists as they are lent: the same, and finite
pub mod Same
pub mod Finite
