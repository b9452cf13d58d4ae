-- What far ends do that stand above devices of a field, as functions of their states (this project's own air).
use Rattle.std.specs.Prelude.{ℕ, List, [], ◌∷◌, Bool, true, false, Option, Some, None}
use Rattle.nfc_base.specs.Far.{FarUse, Untouched, Restarts, Hands}
use Rattle.nfc_base.specs.Choosing.{later_numbers}

-- What the far ends of one type do. A new link begins, with the other end's general bytes. A payload is replied to, by
-- a number that chooses among the replies that the end may give: how many PDUs stand in one, and what is no allowed
-- number counts as the most. And what stays of an end that has no link.
pub record FarTable (F : Type 0) : Type 0 where
  pub restarted : F → List ℕ → F
  pub reply : F → List ℕ → ℕ → List ℕ
  pub left : F → List ℕ → ℕ → F
  pub rested : F → F

-- each reply takes one number
abbrev pub numbers_left : Option (List ℕ) → List ℕ → List ℕ
numbers_left None ns = ns
numbers_left (Some reply) ns = later_numbers ns

-- the far ends of devices, in the order of placing; where the list is at its end, there is none
abbrev pub first_far : {F : Type 0} → List (Option F) → Option F
first_far [] = None
first_far (o ∷ os) = o

abbrev pub later_fars : {F : Type 0} → List (Option F) → List (Option F)
later_fars [] = []
later_fars (o ∷ os) = os

module _ {F : Type 0} (t : FarTable F) where
  -- what a far end replies, by that number, to what a device hands over; a device without one gets no reply
  abbrev pub reply_to : FarUse → Option F → ℕ → Option (List ℕ)
  reply_to Untouched o n = None
  reply_to (Restarts general) o n = None
  reply_to (Hands payload) None n = None
  reply_to (Hands payload) (Some a) n = Some (t.reply a payload n)

  -- the far end after that
  abbrev pub moved : FarUse → Option F → ℕ → Option F
  moved Untouched o n = o
  moved (Restarts general) None n = None
  moved (Restarts general) (Some a) n = Some (t.restarted a general)
  moved (Hands payload) None n = None
  moved (Hands payload) (Some a) n = Some (t.left a payload n)

  -- what stays of a far end that has no link
  abbrev pub rests : Option F → Option F
  rests None = None
  rests (Some a) = Some (t.rested a)

  -- a far end is whole while its device has a link; else there is of it what stays
  abbrev pub by_link : Bool → Option F → Option F
  by_link true o = o
  by_link false o = rests o
