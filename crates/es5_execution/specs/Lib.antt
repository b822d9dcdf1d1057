pub mod Scopes
pub mod Progress
