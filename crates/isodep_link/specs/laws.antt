-- Proofs that traits' laws and crates above take from here: what they state is said by the definitions beside this
-- folder.
pub mod IsoMoving
