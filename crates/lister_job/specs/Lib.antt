-- a job's bytes, and how they are read
pub mod Job
pub mod laws
