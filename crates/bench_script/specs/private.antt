-- What serves private calls of this crate: a reader of its public contracts needs none of it.
pub mod Words
