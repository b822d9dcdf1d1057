pub mod Codes
pub mod Depths
pub mod ActionDepths
pub mod Checks
pub mod TableMeets
pub mod Programs
pub mod Refusals
pub mod Rows
