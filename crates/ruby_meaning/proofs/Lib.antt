pub mod OnlyPuts
pub mod Loading
pub mod Lexing
pub mod Grammar
pub mod Scoping
