pub mod Assignments
pub mod Arguments
pub mod ArgumentSteps
pub mod Commands
pub mod TargetSteps
