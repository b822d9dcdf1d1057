pub mod CallLevels
pub mod PartTurns
