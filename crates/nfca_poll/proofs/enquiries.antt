-- Enquiries over any field, turn by turn: what they keep, how they end, and that what they tell follows from what
-- they heard. Read the files in this order.
pub mod Enquiring
pub mod EnquiryWalks
pub mod Embedding
pub mod LostField
pub mod EnquiryEnds
pub mod EnquiryLaws
pub mod TurnWalks
pub mod TellingInventory
pub mod SeekSteps
pub mod TellingResolution
pub mod FewAsked
pub mod GivenUp
pub mod TellingPickedV
pub mod TellingRounds
