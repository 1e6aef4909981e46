pub mod Checks
pub mod Laws
pub mod Lists
pub mod Meetings
