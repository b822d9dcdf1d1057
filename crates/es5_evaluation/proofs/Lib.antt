pub mod Growing
pub mod Ends
pub mod Tasks
pub mod TaskRuns
pub mod Layers
pub mod Nodes
pub mod Own
