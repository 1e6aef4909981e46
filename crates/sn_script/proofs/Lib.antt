pub mod CommandFacts
pub mod LineFacts
pub mod Lists
pub mod Losses
pub mod Numerals
pub mod Ordinals
pub mod Places
pub mod ScriptFacts
