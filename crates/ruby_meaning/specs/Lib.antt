pub mod Constructs
pub mod Depth
pub mod Lexing
pub mod Grammar
pub mod Scoping
pub mod Puts
pub mod Load
pub mod Laws
