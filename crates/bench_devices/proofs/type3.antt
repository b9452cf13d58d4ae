-- Reads and writes of Type 3 tags. Read the files in this order.
pub mod ThreeLaw
pub mod ThreeLists
pub mod ThreePuts
pub mod ThreeTags
pub mod ThreeReading
pub mod ThreeWriting
pub mod ThreesHeard
