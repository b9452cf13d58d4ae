-- The devices of a bench: where they stand, how they are placed and taken away, and what is so wherever lines lead.
-- Read the files in this order.
pub mod AtNumbers
pub mod FarDevices
pub mod FarStays
pub mod HeldOn
pub mod PlacesKept
pub mod Placing
pub mod Placed
pub mod Removing
pub mod Locking
pub mod OpeningKind
pub mod Peering
pub mod PeersNumbered
pub mod RawStores
pub mod Reached
pub mod SelectedPlace
pub mod Shapes
pub mod WellStored
