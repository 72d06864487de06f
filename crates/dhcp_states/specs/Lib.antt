pub mod Requests
pub mod Limits
pub mod Bindings
pub mod Laws
