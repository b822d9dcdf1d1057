pub mod Named
pub mod Pairs
pub mod Next
pub mod SightsRead
