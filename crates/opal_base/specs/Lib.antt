pub mod Outside
pub mod Memory
pub mod Place
pub mod Text
pub mod Shown
pub mod Laws
