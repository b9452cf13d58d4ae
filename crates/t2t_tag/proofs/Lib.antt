pub mod Spellings
pub mod Memory
pub mod Stores
pub mod Steps
