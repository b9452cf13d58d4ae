-- What serves private calls of this crate: a reader of its public contracts needs none of it. Read the files in this
-- order.
pub mod Digits
pub mod LinkedAt
pub mod ForgedAt
pub mod Gains
pub mod LinkTaken
pub mod RawAt
pub mod SameCommands
