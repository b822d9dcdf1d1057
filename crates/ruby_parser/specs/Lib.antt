pub mod NoLevel
pub mod TreeRules
pub mod StatementValues
pub mod Refusing
pub mod Endings
pub mod Answer
