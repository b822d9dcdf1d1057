pub mod Frames
pub mod Moving
