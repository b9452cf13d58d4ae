pub mod Masks
pub mod Search
pub mod Finding
pub mod Tags
pub mod Passes
pub mod Crowd
