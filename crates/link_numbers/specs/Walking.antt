-- What a walk over events keeps of what an end sent, for private calls: no public contract speaks of it, the rule is
-- Shown.antt.
use Rattle.std.specs.Prelude.{ℕ, ◌+◌, ◌==◌, ◌&&◌, nat_lt, length, Bool, true, false, not, if◌then◌else◌, List, [], ◌∷◌}
use Rattle.std.specs.Prelude.{◌++◌, take, Option, Some, None}
use Rattle.nfc_base.specs.Signal.{Signal}
use Rattle.dep_pdu.specs.declared.frame.DepFrame.{DepFrame}
use Rattle.dep_pdu.specs.declared.frame.DepFrame.TheVariants.{Info, Ack}
use Rattle.dep_link.specs.Frames.{after, spelled}
use Rattle.dep_link.specs.Sizes.{limit}
use Rattle.link_numbers.specs.Shown.{number, cut_off}

-- the PNI of the next frame that counts, how a payload begins that isn't whole, and the numbers of the whole ones
pub record Sent : Type 0 where
  pub next : ℕ
  pub begun : List ℕ
  pub told : List ℕ

-- how much is kept of a payload: one byte more than it may have, so that it shows where one is longer
abbrev pub room : ℕ
room = limit + 1

abbrev pub nothing : ℕ → Sent
nothing first = record { next = first; begun = []; told = [] }

-- a piece of a payload, of which more may follow
abbrev pub took_next : Sent → Bool → List ℕ → Sent
took_next s true xs = record { next = after s.next; begun = xs; told = s.told }
took_next s false xs = record { next = after s.next; begun = []; told = s.told ++ number xs ∷ [] }

abbrev pub took : Sent → Bool → ℕ → List ℕ → Sent
took s more pni xs = if pni == s.next then took_next s more (take room (s.begun ++ xs)) else s

-- an acknowledgement
abbrev pub passed : Sent → ℕ → Sent
passed s pni = if pni == s.next then record { next = after s.next; begun = s.begun; told = s.told } else s

-- a frame of that direction, up from the target, counts for this end
abbrev pub is_from : Bool → Bool → Bool
is_from true up = up
is_from false up = not up

-- a frame that the end sent
abbrev pub sent_one : Bool → Sent → DepFrame → Sent
sent_one end s (Info up more pni content) = if is_from end up && nat_lt 0 (length content.items)
    then took s more pni content.items else s
sent_one end s (Ack up pni) = if is_from end up then passed s pni else s
sent_one end s _ = s

abbrev pub sent_if : Bool → Sent → Option DepFrame → Sent
sent_if end s None = s
sent_if end s (Some v) = sent_one end s v

abbrev pub sent_all : Bool → Sent → List Signal → Sent
sent_all end s [] = s
sent_all end s (f ∷ fs) = sent_all end (sent_if end s (spelled f)) fs

-- its numbers, also of a payload that was cut off
abbrev pub ended : Sent → List ℕ
ended s = s.told ++ cut_off s.begun
