-- the first of three lists, three times
pub mod laws
