pub mod Values
pub mod Properties
pub mod Heap
pub mod Along
