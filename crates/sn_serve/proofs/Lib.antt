pub mod OneList
pub mod Stages
pub mod Standing
pub mod Visiting
