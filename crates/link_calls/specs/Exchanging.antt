-- Payloads that were written by hand, and are sent as they are, one for each reply: what is due while they are
-- exchanged with a peer, by what was heard (NFCIP-1, ISO/IEC 18092).
use Rattle.std.specs.Prelude.{◌≤◌, ℕ, List, [], ◌∷◌, ◌++◌, length}
use Rattle.std.specs.List.{All}
use Rattle.air_core.specs.Conversation.{Note, Next}
use Rattle.dep_link.specs.Initiator.{InitState}
use Rattle.link_calls.specs.Walk.{Course, Giver, Underway, Through, Walk, walk_stand, walk_due}

-- the payload that is sent, those behind it, and the replies to those before it
pub record Sending : Type 0 where
  pub payload : List ℕ
  pub later : List (List ℕ)
  pub replies : List (List ℕ)

-- The next of these payloads is sent; where none is left, all were answered by these replies.
abbrev pub sending : List (List ℕ) → List (List ℕ) → Course Sending (List (List ℕ))
sending [] replies = Through replies
sending (p ∷ ps) replies = Underway (record { payload = p; later = ps; replies = replies })

-- each reply stands behind those before it
abbrev pub by_hand : Giver Sending (List (List ℕ))
by_hand = record {
  gives = λ s. s.payload;
  told = λ s reply. sending s.later (s.replies ++ reply ∷ []);
}

-- where payloads stand that are exchanged, on a link whose initiator stood so, once this was heard; and what is due
-- then
abbrev pub exchanging_stand : List (List ℕ) → InitState → List Note → Walk Sending (List (List ℕ))
exchanging_stand payloads i notes = walk_stand by_hand (sending payloads []) i notes

abbrev pub exchanging : List (List ℕ) → InitState → List Note → Next
exchanging payloads i notes = walk_due by_hand (sending payloads []) i notes

-- none is longer than a payload may be
abbrev pub AreCarriable : List (List ℕ) → Type 0
AreCarriable payloads = All (λ p. length p ≤ 2178) payloads
