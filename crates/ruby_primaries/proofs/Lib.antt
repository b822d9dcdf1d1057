pub mod LiteralLists
pub mod JumpBegins
pub mod BlockBegins
