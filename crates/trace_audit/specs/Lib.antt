pub mod Auditing
pub mod Judging
pub mod private
pub mod Reading
pub mod ReadEvents
pub mod Technologies
