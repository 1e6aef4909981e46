pub mod Calling
pub mod Laws
pub mod Turns
pub mod Walking
