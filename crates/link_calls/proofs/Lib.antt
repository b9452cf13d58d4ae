pub mod Settings
pub mod Arriving
pub mod Open
pub mod Walk
pub mod Walked
pub mod Swapping
pub mod CallWalk
pub mod Made
pub mod AtOnce
pub mod Untouched
pub mod RunOn
mod Called
pub mod Closes
pub mod Closed
pub mod Silent
