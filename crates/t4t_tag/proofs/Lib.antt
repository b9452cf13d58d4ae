pub mod Turns
pub mod Steps
pub mod Stores
pub mod Commands
