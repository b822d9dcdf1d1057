pub mod Literals
pub mod CallParts
pub mod PassedArguments
pub mod JumpValues
