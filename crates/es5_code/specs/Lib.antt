pub mod Trees
pub mod Sound
pub mod At
pub mod Sorts
pub mod Own
pub mod Numbers
