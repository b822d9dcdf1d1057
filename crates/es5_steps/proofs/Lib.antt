pub mod Lookup
pub mod NameSteps
pub mod PropertySteps
