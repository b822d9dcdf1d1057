pub mod Nodes
pub mod Found
pub mod Gathering
pub mod NewNames
pub mod Tables
pub mod Forms
