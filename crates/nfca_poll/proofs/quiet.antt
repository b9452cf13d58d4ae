-- Polling without noise: a resolution picks the first in crowd order, rounds find the crowd. Read the files in this
-- order.
pub mod Clashes
pub mod CrowdParts
pub mod Eaches
pub mod OneLevel
pub mod Choosing
pub mod CardsAtRest
pub mod Causes
pub mod Crowding
pub mod Selects
pub mod CrowdOrder
pub mod FirstIdle
pub mod FoundCrowd
pub mod Inventories
pub mod RoundParts
pub mod Steady
pub mod Twins
