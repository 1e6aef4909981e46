pub mod Requests
pub mod LastAdopted
pub mod Accounts
pub mod Changes
pub mod Resolving
pub mod SyncsAnswer
pub mod Counts
pub mod Resting
