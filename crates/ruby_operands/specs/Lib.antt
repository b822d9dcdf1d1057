pub mod Operators
pub mod CallValues
pub mod PartsBehind
