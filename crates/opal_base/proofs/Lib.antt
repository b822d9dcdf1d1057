pub mod Decoding
pub mod Delivery
pub mod Outputs
pub mod Places
pub mod Texts
pub mod Took
