pub mod Copies
pub mod Stack
