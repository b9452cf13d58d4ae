-- The message of a line; the language is this project's own.
use Rattle.std.specs.Prelude.{ℕ, ◌+◌, ◌%◌, List, map}
use Rattle.std.specs.List.{range_with_len}
use Rattle.bench_script.specs.declared.message.Msg.{Msg}
use Rattle.bench_script.specs.declared.message.Msg.TheVariants.{Hex, Gen}

-- so many bytes, of which byte i is the first one and i more, modulo 256
abbrev pub counted : ℕ → ℕ → List ℕ
counted start count = map (λ i. (start + i) % 256) (range_with_len 0 count)

-- the bytes of a message
abbrev pub message_of : Msg → List ℕ
message_of (Hex bytes) = bytes
message_of (Gen count start) = counted start count
