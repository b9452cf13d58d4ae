-- What an asking end has of an exchange in which payload and reply are sent in pieces, and in which the answering end
-- may ask for more time (ISO/IEC 14443-4; NFCIP-1, ISO/IEC 18092; NFC Forum Digital Protocol). The numbers of bad
-- receptions and of time extensions are this project's own.
use Rattle.std.specs.Prelude.{ℕ, ◌+◌, ◌-◌, ◌/◌, nat_lt, Bool, true, false, not, List, [], length, Option, None}
use Rattle.std.specs.Prelude.{if◌then◌else◌}

-- how many pieces some bytes take, by the most content of each
abbrev pub pieces : ℕ → List ℕ → ℕ
pieces most xs = 1 + (length xs - 1) / most

-- Where an exchange stands: the number of what is sent, the most content of a frame that the answering end takes, the
-- bytes of the payload that aren't acknowledged, whether the reply is coming in a chain, the reply so far, the time
-- extension that is being granted, and how many were granted in this wait.
pub record Core : Type 0 where
  pub number : ℕ
  pub most : ℕ
  pub rest : List ℕ
  pub drawing : Bool
  pub got : List ℕ
  pub extension : Option ℕ
  pub granted : ℕ

-- the most time extensions that are granted in a wait, the longest one, and how many an answering end asks for at most
abbrev pub most_extensions : ℕ
most_extensions = 16

abbrev pub longest_extension : ℕ
longest_extension = 59

abbrev pub most_busy : ℕ
most_busy = 5

-- the most bad receptions of a wait that goes on
abbrev pub most_bads : ℕ
most_bads = 5

-- of an end that sent nothing, to one that takes so much content
abbrev pub quiet_core : ℕ → Core
quiet_core most =
    record { number = 0; most = most; rest = []; drawing = false; got = []; extension = None; granted = 0 }

-- where a payload is under way from its first piece on
abbrev pub begun_core : Core → List ℕ → Core
begun_core c payload = record c { rest = payload; drawing = false; got = []; extension = None; granted = 0 }

-- where a wait ended: this is the next number, and no time was granted yet
abbrev pub turned : Core → ℕ → List ℕ → Bool → List ℕ → Core
turned c number rest drawing got =
    record c { number = number; rest = rest; drawing = drawing; got = got; extension = None; granted = 0 }

-- whether pieces of the payload follow the one that is under way
abbrev pub more_follows : Core → Bool
more_follows c = if c.drawing then false else nat_lt c.most (length c.rest)

-- A piece is refused that makes the reply too long, or has no content and more pieces behind it.
abbrev pub is_refused : (limit : ℕ) → Bool → List ℕ → List ℕ → Bool
is_refused limit more xs all =
    if nat_lt limit (length all) then true else (if more then not (nat_lt 0 (length xs)) else false)

-- Whether so much more time may be asked for: where no piece of the payload follows and none of the reply came, so
-- long, and so often in a wait.
abbrev pub may_extend : Core → ℕ → Bool
may_extend c times =
    if c.drawing then false
    else (if more_follows c then false
    else (if nat_lt 0 times
    then (if nat_lt longest_extension times then false else nat_lt c.granted most_extensions) else false))
