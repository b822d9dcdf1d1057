pub mod Items
pub mod Values
pub mod Bindings
pub mod Making
pub mod Answers
pub mod Laws
