-- What a read of a tag does and tells. Read the files in this order.
pub mod ReadingTags
pub mod CardReading
pub mod ReadTold
pub mod CardReadingLinks
pub mod CardReadingNotes
pub mod ReadHeeded
pub mod ReadingAir
pub mod ReadingEnds
