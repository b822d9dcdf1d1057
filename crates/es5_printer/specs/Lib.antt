pub mod Pieces
pub mod Levels
pub mod Forms
pub mod Text
pub mod Page
pub mod Answer
pub mod Laws
