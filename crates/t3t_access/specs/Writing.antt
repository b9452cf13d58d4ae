-- How a message of a Type 3 tag is written: what is asked, and what is told by the answers, whatever the tag does (NFC
-- Forum Type 3 Tag).
use Rattle.std.specs.Prelude.{◌≡◌, ◌≢◌, ℕ, zero, suc, ◌+◌, ◌-◌, ◌*◌, ◌/◌, ◌%◌, ◌<◌, ◌≤◌, ◌⊎◌, nat_lt, nat_eq, ◌==◌, not}
use Rattle.std.specs.Prelude.{if◌then◌else◌, List, [], ◌∷◌, ◌++◌, length, take, drop, replicate, sum, Option, Some}
use Rattle.std.specs.Prelude.{None, Result, Ok, Err}
use Rattle.std.specs.Cmp.Lexicographic.{pointwise}
use Rattle.nfc_base.specs.Signal.{Signal}
use Rattle.nfc_base.specs.TagLinks.{LinkView}
use Rattle.t3t_tag.specs.declared.answer.T3Answer.{T3Answer}
use Rattle.t3t_tag.specs.declared.answer.T3Answer.TheVariants.{Polled, Content, Done, CheckRefused, UpdateRefused}
use Rattle.t3t_tag.specs.Attributes.{message_blocks, message_length, access_flag}
use Rattle.t3t_tag.specs.Store.{block_size}
use Rattle.t3t_tag.specs.Form.{IsSized}
use Rattle.t3t_tag.specs.Spelling.{two_bytes, T3AnswerSpelling}
use Rattle.t3t_access.specs.declared.fault.T3Fault.{T3Fault}
use Rattle.t3t_access.specs.declared.fault.T3Fault.TheVariants as fault
use Rattle.t3t_access.specs.Talk.{Answered, Says}
use Rattle.t3t_access.specs.Answers.{update_of, TellsFault, IsHeard, StopsNext}
use Rattle.t3t_access.specs.Reading.{first_checks, Reads, StartTold}

-- the bytes of a length, high byte first
abbrev pub length_bytes : ℕ → List ℕ
length_bytes n = n / 65536 ∷ n / 256 % 256 ∷ n % 256 ∷ []

-- the attribute block with another write flag and another length, without its sum, and with its sum made anew
abbrev pub unsummed : List ℕ → ℕ → ℕ → List ℕ
unsummed block flag n = take 9 block ++ (flag ∷ access_flag block ∷ length_bytes n)

abbrev pub renewed : List ℕ → ℕ → ℕ → List ℕ
renewed block flag n = unsummed block flag n ++ two_bytes (sum (unsummed block flag n))

-- the flag while a write is under way
abbrev pub under_way : ℕ
under_way = 0x0F

-- The attribute block that says a write is under way, with the length that it had, and the one that shows the new
-- message.
abbrev pub opened : List ℕ → List ℕ
opened block = renewed block under_way (message_length block)

abbrev pub closed : List ℕ → List ℕ → List ℕ
closed block message = renewed block 0 (length message)

-- how many blocks a message takes, and the content of the n-th of them: its bytes, and zeros behind them
abbrev pub blocks_of : List ℕ → ℕ
blocks_of message = (length message + 15) / 16

abbrev pub filled_up : List ℕ → List ℕ
filled_up part = part ++ replicate (block_size - length part) 0

abbrev pub content_at : List ℕ → ℕ → List ℕ
content_at message n = filled_up (take block_size (drop (block_size * n) message))

-- a block and what is to stand there
pub record Put : Type 0 where
  pub block : ℕ
  pub content : List ℕ

-- The n-th Update, counted from 0: block 0 opened, then each block with a message byte, then block 0 closed.
abbrev pub put_at : List ℕ → List ℕ → ℕ → Put
put_at block message zero = record { block = 0; content = opened block }
put_at block message (suc n) =
    if nat_lt n (blocks_of message) then record { block = suc n; content = content_at message n }
    else record { block = 0; content = closed block message }

-- how many they are
abbrev pub all_puts : List ℕ → ℕ
all_puts message = suc (suc (blocks_of message))

abbrev pub command_at : List ℕ → List ℕ → List ℕ → ℕ → Signal
command_at id block message n = update_of id (put_at block message n).block (put_at block message n).content

-- the Check of block 0, and the first so many of them
abbrev pub first_asked : List ℕ → List ℕ → List ℕ → ℕ → List Signal
first_asked id block message zero = first_checks id block 1
first_asked id block message (suc n) = first_asked id block message n ++ command_at id block message n ∷ []

-- An answer to an Update says that it is done, or refuses it by a status.
abbrev pub SaysDone : List ℕ → Signal → Type 0
SaysDone id r = T3AnswerSpelling (Done id) r

abbrev pub RefusesUpdate : List ℕ → ℕ → Signal → Type 0
RefusesUpdate id status r = T3AnswerSpelling (UpdateRefused id status) r

-- what an answer to an Update is told as
abbrev pub TellsDone : List ℕ → Signal → Result (Unit {0}) T3Fault → Type 0
TellsDone id r (Ok done') = SaysDone id r
TellsDone id r (Err e) = TellsFault (λ x. SaysDone id) (RefusesUpdate id) r e

-- why an Update behind these commands isn't done
abbrev pub StopsUpdate : List ℕ → LinkView → LinkView → List Signal → Signal → T3Fault → Type 0
StopsUpdate id a b cs c e = StopsNext (λ x. SaysDone id) (RefusesUpdate id) a b cs c e

-- what is told of an Update
abbrev pub TellsUpdate : List ℕ → ℕ → List ℕ → LinkView → LinkView → List Signal → Result (Unit {0}) T3Fault → Type 0
TellsUpdate id block content a b cs (Ok done') = IsHeard (SaysDone id) a b cs (update_of id block content)
TellsUpdate id block content a b cs (Err e) = StopsUpdate id a b cs (update_of id block content) e

-- the same, as a function
abbrev pub done_told : List ℕ → Option T3Answer → Result (Unit {0}) T3Fault
done_told id (Some (Done from)) = if pointwise nat_eq from id then Ok tt else Err fault.Protocol
done_told id (Some (UpdateRefused from status)) = if pointwise nat_eq from id then Err (fault.Refused status)
    else Err fault.Protocol
done_told id (Some (Polled from)) = Err fault.Protocol
done_told id (Some (Content from content)) = Err fault.Protocol
done_told id (Some (CheckRefused from status)) = Err fault.Protocol
done_told id None = Err fault.Protocol

-- An attribute block takes a message: it has no fault, the message may be written, and has its place.
pub record Takes (block message : List ℕ) : Type 0 where
  pub sized : IsSized block
  pub free : access_flag block ≡ 1
  pub room : length message ≤ 16 * message_blocks block

-- the refusals behind those of the form, in this order, as a function
abbrev pub admitted : List ℕ → List ℕ → Result (Unit {0}) T3Fault
admitted block message =
    if not (access_flag block == 1) then Err fault.ReadOnly
    else if nat_lt (16 * message_blocks block) (length message) then Err (fault.TooLong (16 * message_blocks block))
    else Ok tt

-- the first so many Updates were each said to be done
abbrev pub AllDone : List ℕ → LinkView → List ℕ → List ℕ → ℕ → Type 0
AllDone id a block message zero = Unit {0}
AllDone id a block message (suc n) =
    AllDone id a block message n × (r : Signal) × Says a (first_asked id block message n)
    (command_at id block message n) r × SaysDone id r

-- Block 0 was read, takes the message, and the first so many Updates are done.
pub record Writes (id : List ℕ) (a b : LinkView) (block message : List ℕ) (n : ℕ) : Type 0 where
  pub begun : LinkView
  pub reads : Reads id a begun block 1 block
  pub takes : Takes block message
  pub answered : Answered a b (first_asked id block message n)
  pub done' : AllDone id a block message n

-- Behind n of them the next one isn't done, by this fault.
pub record Breaks (id : List ℕ) (a b : LinkView) (message : List ℕ) (e : T3Fault) : Type 0 where
  pub block : List ℕ
  pub number : ℕ
  pub before : LinkView
  pub writes : Writes id a before block message number
  pub due : number < all_puts message
  pub told : StopsUpdate id a b (first_asked id block message number) (command_at id block message number) e

-- Block 0 has no fault, but no message may be written.
pub record IsReadOnly (id : List ℕ) (a b : LinkView) : Type 0 where
  pub block : List ℕ
  pub reads : Reads id a b block 1 block
  pub sized : IsSized block
  pub barred : access_flag block ≢ 1

-- One may, but not one so long.
pub record IsTooLong (id : List ℕ) (a b : LinkView) (message : List ℕ) (most : ℕ) : Type 0 where
  pub block : List ℕ
  pub reads : Reads id a b block 1 block
  pub sized : IsSized block
  pub free : access_flag block ≡ 1
  pub most' : most ≡ 16 * message_blocks block
  pub long : most < length message

-- why a write ends without the message: in the answer to the Check, or in that to an Update
abbrev pub WriteFaultTold : List ℕ → LinkView → LinkView → List ℕ → T3Fault → Type 0
WriteFaultTold id a b message fault.ReadOnly = IsReadOnly id a b
WriteFaultTold id a b message (fault.TooLong most) = IsTooLong id a b message most
WriteFaultTold id a b message e = StartTold id a b e ⊎ Breaks id a b message e

-- What a write tells, whatever the tag does.
pub record AllWritten (id : List ℕ) (a b : LinkView) (message : List ℕ) : Type 0 where
  pub block : List ℕ
  pub writes : Writes id a b block message (all_puts message)

abbrev pub WriteTold : List ℕ → LinkView → LinkView → List ℕ → Result (Unit {0}) T3Fault → Type 0
WriteTold id a b message (Ok done') = AllWritten id a b message
WriteTold id a b message (Err e) = WriteFaultTold id a b message e

-- the same of a part of it: so many of them are done behind a view that some were done at
abbrev pub PartTold : List ℕ → LinkView → LinkView → List ℕ → List ℕ → ℕ → Result (Unit {0}) T3Fault → Type 0
PartTold id a b block message n (Ok done') = Writes id a b block message n
PartTold id a b block message n (Err e) = Breaks id a b message e
