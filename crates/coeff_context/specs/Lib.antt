-- the context of a coefficient, and the census of contexts
pub mod Context
pub mod Census
pub mod laws
