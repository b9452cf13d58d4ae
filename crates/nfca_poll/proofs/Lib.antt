pub mod quiet
pub mod identifiers
pub mod noise
pub mod enquiries
pub mod calls
