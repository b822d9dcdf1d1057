pub mod Codes
pub mod Depths
pub mod Checks
pub mod TableMeets
pub mod Scripts
