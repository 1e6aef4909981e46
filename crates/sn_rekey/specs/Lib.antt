pub mod Carrying
pub mod Laws
pub mod Rekeying
pub mod Rewraps
