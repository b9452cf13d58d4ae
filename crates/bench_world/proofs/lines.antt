-- Lines and their texts: reading a report back, one form and one journal. Read the files in this order.
pub mod CountedOn
pub mod DigitPairs
pub mod Joined
pub mod Names
pub mod OneForm
pub mod OneAnswer
pub mod OneJournal
pub mod Outcomes
pub mod ReadBack
