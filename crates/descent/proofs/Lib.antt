pub mod NoLevels
