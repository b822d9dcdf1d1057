pub mod Calls
pub mod Invocations
