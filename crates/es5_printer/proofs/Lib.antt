pub mod Equations
pub mod Finished
pub mod Joined
pub mod Written
