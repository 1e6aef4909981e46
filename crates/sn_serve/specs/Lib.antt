pub mod Hosting
pub mod Laws
pub mod Listening
pub mod Refusals
pub mod Serving
pub mod Standing
pub mod Visits
