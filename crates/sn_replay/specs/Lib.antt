pub mod Coming
pub mod Keeping
pub mod Laws
pub mod Lines
pub mod Mirrored
pub mod Playing
