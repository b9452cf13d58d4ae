pub mod Places
pub mod Spelled
