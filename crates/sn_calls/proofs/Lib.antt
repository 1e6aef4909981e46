pub mod Made
pub mod Quiet
pub mod Stages
pub mod Standing
