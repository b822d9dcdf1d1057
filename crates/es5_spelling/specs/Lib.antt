pub mod Spellable
pub mod Laws
pub mod Test
pub mod Nodes
