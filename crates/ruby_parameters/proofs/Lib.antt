pub mod Levels
pub mod Below
pub mod Skipped
pub mod ParameterTurns
pub mod ParameterJoins
pub mod ParameterLengths
