pub mod DefinitionLevels
pub mod DefinitionLists
