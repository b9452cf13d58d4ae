-- One resolution of NFC-A: what a reader asks next, by what it heard (NFC Forum Digital Protocol; ISO/IEC 14443-3). The
-- choice of bit 1 at a collision and four presence requests are this project's own.
use Rattle.std.specs.Prelude.{ℕ, ◌+◌, List, [], ◌∷◌, ◌++◌, length, slice_index, Bool, true, ◌==◌, ◌&&◌, nat_lt, nat_le}
use Rattle.std.specs.Prelude.{bit_and, if◌then◌else◌}
use Rattle.nfc_base.specs.Signal.{Signal}
use Rattle.nfc_base.specs.Bits.{bits, packed}
use Rattle.nfc_base.specs.declared.event.Heard.{Heard}
use Rattle.nfc_base.specs.declared.event.Heard.TheVariants.{Whole, Collided, Damaged, Silent}
use Rattle.air_core.specs.Conversation.{Next, Over, Asks}
use Rattle.nfca_poll.specs.declared.kind.Kind.{Kind}
use Rattle.nfca_poll.specs.declared.kind.Kind.TheVariants.{T2, T4, Peer}
use Rattle.nfca_poll.specs.Levels.{bcc, cascades}
use Rattle.nfca_poll.specs.Calls.{Sens, Sdd, Sel, call_frame}

-- how a resolution ends
pub data Outcome : Type 0 where
  Nobody : Outcome
  Disturbed : Outcome
  BadAnswer : Outcome
  Found : List (List ℕ) → Kind → Outcome

-- How far a resolution is: so many presence requests were silent; these levels are known, and these bits of the next
-- one; the next one is known whole; it is over.
pub data Seek : Type 0 where
  Calling : ℕ → Seek
  Asking : List (List ℕ) → List Bool → Seek
  Selecting : List (List ℕ) → List ℕ → Seek
  Ended : Outcome → Seek

-- the bits of a level, and those of them behind which no collision may be
abbrev pub level_bits : ℕ
level_bits = 40

abbrev pub collision_bits : ℕ
collision_bits = 32

-- so many bits, of which the last eight are the check byte of the others
abbrev pub is_level : List Bool → Bool
is_level known = (length known == level_bits) && (slice_index (packed known) 4 == bcc (packed known))

-- a whole answer completes the level
abbrev pub completed : List (List ℕ) → List Bool → Seek
completed done known = if is_level known then Selecting done (packed known) else Ended BadAnswer

-- at a collision one bit 1 is known more than the common bits
abbrev pub narrowed : List (List ℕ) → List Bool → Seek
narrowed done known = if nat_le collision_bits (length known) then Ended BadAnswer else Asking done (known ++ true ∷ [])

abbrev pub has_bit : ℕ → ℕ → Bool
has_bit byte mask = bit_and byte mask == mask

-- what a device is, by SEL_RES
abbrev pub kind_of : ℕ → Kind
kind_of res = if has_bit res 0x20 then T4 else if has_bit res 0x40 then Peer else T2

-- whether a level, known behind some others, must say that another one follows: a third one never does
abbrev pub goes_on : List (List ℕ) → List ℕ → Bool
goes_on done l = nat_lt (length done) 2 && cascades l

-- SEL_RES: another level follows, or the device is selected
abbrev pub selected : List (List ℕ) → List ℕ → ℕ → Seek
selected done l res =
    if has_bit res 0x04 then (if goes_on done l then Asking (done ++ l ∷ []) [] else Ended BadAnswer)
    else (if goes_on done l then Ended BadAnswer else Ended (Found (done ++ l ∷ []) (kind_of res)))

abbrev pub is_one_byte : Signal → Bool
is_one_byte f = (length f.bytes == 1) && (f.tail == 0)

-- a resolution goes on by what was heard
abbrev pub seek_step : Seek → Heard → Seek
seek_step (Calling n) (Whole g) = Asking [] []
seek_step (Calling n) (Collided g) = Asking [] []
seek_step (Calling n) Damaged = Asking [] []
seek_step (Calling n) Silent = if nat_lt n 3 then Calling (n + 1) else Ended Nobody
seek_step (Asking done known) (Whole g) = completed done (known ++ bits g)
seek_step (Asking done known) (Collided g) = narrowed done (known ++ bits g)
seek_step (Asking done known) Damaged = Ended Disturbed
seek_step (Asking done known) Silent = Ended Disturbed
seek_step (Selecting done l) (Whole g) = if is_one_byte g then selected done l (slice_index g.bytes 0)
    else Ended BadAnswer
seek_step (Selecting done l) (Collided g) = Ended BadAnswer
seek_step (Selecting done l) Damaged = Ended Disturbed
seek_step (Selecting done l) Silent = Ended Disturbed
seek_step (Ended o) h = Ended o

-- the request that is due
abbrev pub seek_next : Seek → Next
seek_next (Calling n) = Asks (call_frame Sens)
seek_next (Asking done known) = Asks (call_frame (Sdd (length done + 1) known))
seek_next (Selecting done l) = Asks (call_frame (Sel (length done + 1) l))
seek_next (Ended o) = Over
