pub mod Gives
pub mod Sets
