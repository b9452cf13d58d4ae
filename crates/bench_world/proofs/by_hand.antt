-- Frames of a script's own. Read the files in this order.
pub mod RawDue
pub mod RawFrames
pub mod RawGrows
pub mod RawNotes
pub mod RawParts
pub mod RawObeyed
pub mod RawSelected
pub mod RawHere
pub mod RawReset
pub mod RawSending
pub mod RawSends
