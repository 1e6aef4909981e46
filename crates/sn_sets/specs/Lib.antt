pub mod Laws
pub mod Seals
pub mod Sets
