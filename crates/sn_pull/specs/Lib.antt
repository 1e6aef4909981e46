pub mod Laws
pub mod Pages
pub mod Pulls
pub mod Serving
