pub mod DeviceIds
pub mod Canonical
pub mod Limits
pub mod Messages
pub mod Script
pub mod Slots
pub mod private
