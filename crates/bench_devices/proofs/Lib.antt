pub mod kinds
pub mod finding
pub mod turns
pub mod selected
pub mod writes
pub mod reads
pub mod far_ends
pub mod type3
