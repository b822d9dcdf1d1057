pub mod Ahead
pub mod Shown
pub mod Named
pub mod Sights
pub mod Nodes
