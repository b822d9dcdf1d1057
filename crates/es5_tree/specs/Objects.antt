pub mod Numbers
pub mod Names
pub mod Cells
pub mod Links
pub mod Laws
