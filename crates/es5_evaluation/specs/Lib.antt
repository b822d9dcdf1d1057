pub mod State
pub mod Task
pub mod Values
pub mod Declared
pub mod Evaluate
pub mod Run
pub mod Laws
