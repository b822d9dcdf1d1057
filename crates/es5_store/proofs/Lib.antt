pub mod Walks
pub mod Records
pub mod ErrorObjects
