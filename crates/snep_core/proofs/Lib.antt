pub mod sessions
pub mod connections
pub mod jobs
pub mod accord
pub mod requests
