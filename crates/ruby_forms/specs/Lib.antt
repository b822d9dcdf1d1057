pub mod Definitions
