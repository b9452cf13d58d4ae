-- What a write of a tag does and tells, and which stores it passes. Read the files in this order.
pub mod SurveyLists
pub mod WriteParts
pub mod WriteLists
pub mod WriteTold
pub mod CardWriting
pub mod OneShown
pub mod WriteHeeded
pub mod WritingEnds
