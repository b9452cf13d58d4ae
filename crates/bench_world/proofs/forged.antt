-- Payloads that were written by hand. Read the files in this order.
pub mod ForgingDue
pub mod ForgeNotes
pub mod ForgeParts
pub mod ForgeObeyed
pub mod ForgeHere
pub mod ForgeLeft
pub mod ForgeReset
pub mod ForgeSends
