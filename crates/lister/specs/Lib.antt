-- the layout lister: the printed lines, the text that is printed for a job, and what it depends on
pub mod Texts
pub mod Listing
pub mod laws
