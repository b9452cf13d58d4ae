pub mod payloads
pub mod far
pub mod own
