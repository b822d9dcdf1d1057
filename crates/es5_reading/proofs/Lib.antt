pub mod Stopping
pub mod Shown
pub mod NewNames
