pub mod Grammar
pub mod Scripts
pub mod Laws
