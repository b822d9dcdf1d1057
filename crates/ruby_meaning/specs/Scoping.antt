pub mod Names
pub mod Seen
pub mod Requires
pub mod Walk
pub mod Scopes
pub mod Laws
