pub mod Loops
pub mod Digits
pub mod Lists
pub mod Heaps
pub mod Listed
pub mod Along
pub mod Absent
