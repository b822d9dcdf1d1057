pub mod Calls
pub mod Made
pub mod Lines
pub mod Rows
pub mod Valid
