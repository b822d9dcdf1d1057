pub mod Terminals
pub mod Nodes
pub mod Names
pub mod Expressions
pub mod Statements
pub mod Table
pub mod Spelling
pub mod Laws
