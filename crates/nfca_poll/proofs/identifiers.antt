-- The bits of identifiers, level by level, and how a device of one level answers. Read the files in this order.
pub mod Calling
pub mod Spans
pub mod HeardBits
pub mod KnownPacks
pub mod CallsRead
pub mod LevelParts
pub mod LevelFacts
pub mod Fitting
pub mod KnownBits
