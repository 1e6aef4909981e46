pub mod Ready
pub mod Passwds
