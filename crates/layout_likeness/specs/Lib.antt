-- likeness of accepted layouts
pub mod Left
