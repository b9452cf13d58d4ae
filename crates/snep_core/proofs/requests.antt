-- One request on a connection, unit by unit: the phases in which client and server stand, and what it comes to. Read
-- the files in this order.
pub mod Conversations
pub mod RequestPhases
pub mod RequestAnswers
pub mod AnswerPhases
pub mod ValuePhases
pub mod GetPhases
pub mod Idling
pub mod OneJob
pub mod PutPhases
