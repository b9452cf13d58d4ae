-- What a call answers in C, as a number (this project's own): one that isn't negative, or a fault below zero.
use Rattle.std.specs.Prelude.{ℕ, ◌+◌, ℤ, pos, negsuc}

-- what was asked for is there
abbrev pub done : ℤ
done = pos 0

-- a command is to be sent
abbrev pub send : ℤ
send = pos 1

-- a tag gives no answer
abbrev pub silent : ℤ
silent = pos 2

-- a card answers a last time, and sleeps
abbrev pub asleep : ℤ
asleep = pos 3

-- a target answers ATR_REQ, so that a link begins
abbrev pub opened : ℤ
opened = pos 4

-- a target answers a last time, and is let go
abbrev pub released : ℤ
released = pos 5

-- the bytes of a log spell no turns: minus 1
abbrev pub bad_log : ℤ
bad_log = negsuc 0

-- an argument isn't one that the call takes: minus 2
abbrev pub bad_argument : ℤ
bad_argument = negsuc 1

-- what is to be told has no room: minus 3
abbrev pub short : ℤ
short = negsuc 2

-- want of memory, where no tag is asked: minus 4
abbrev pub no_memory : ℤ
no_memory = negsuc 3

-- a memory that was read out ends before its message does: minus 5
abbrev pub ends_early : ℤ
ends_early = negsuc 4

-- a fault of reading or writing a tag, by its number: minus 100 and that number less
abbrev pub tag_fault : ℕ → ℤ
tag_fault number = negsuc (99 + number)

-- How a link ended, by its cause's number: of ISO-DEP minus 300 and that number less, of NFC-DEP minus 400 and that.
-- Six bad receptions in one wait; and a frame that is no allowed answer.
abbrev pub six_bad : ℤ
six_bad = negsuc 301

abbrev pub no_answer : ℤ
no_answer = negsuc 302

abbrev pub dep_six_bad : ℤ
dep_six_bad = negsuc 401

abbrev pub dep_no_answer : ℤ
dep_no_answer = negsuc 402
