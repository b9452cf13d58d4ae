-- What serves private calls of this crate: a reader of its public contracts needs none of it. Read the files in this
-- order.
pub mod Answers
pub mod Closing
pub mod Joining
pub mod Stepping
