-- What the answers of a Type 3 tag tell its reader and its writer, whatever the tag does (NFC Forum Type 3 Tag).
use Rattle.std.specs.Prelude.{◌≡◌, ℕ, zero, suc, ◌+◌, ◌*◌, ◌⊎◌, List, [], ◌∷◌, ◌++◌, length, nat_eq, ◌==◌, ◌&&◌}
use Rattle.std.specs.Prelude.{if◌then◌else◌, Option, Some, None, Result, Ok, Err}
use Rattle.std.specs.Cmp.Lexicographic.{pointwise}
use Rattle.arrayvec.specs.ArrayVec.{ArrayVec}
use Rattle.nfc_base.specs.Signal.{Signal}
use Rattle.nfc_base.specs.TagLinks.{LinkView}
use Rattle.nfc_base.specs.declared.tag_link.AskFault.TheVariants as ask
use Rattle.t3t_tag.specs.declared.command.T3Command.TheVariants.{Check, Update}
use Rattle.t3t_tag.specs.declared.answer.T3Answer.{T3Answer}
use Rattle.t3t_tag.specs.declared.answer.T3Answer.TheVariants.{Polled, Content, Done, CheckRefused, UpdateRefused}
use Rattle.t3t_tag.specs.Spelling.{command_frame, T3AnswerSpelling}
use Rattle.t3t_access.specs.declared.fault.T3Fault.{T3Fault}
use Rattle.t3t_access.specs.declared.fault.T3Fault.TheVariants as fault
use Rattle.t3t_access.specs.Talk.{Answered, Says, Fails}

-- so many block numbers from one on
abbrev pub numbers : ℕ → ℕ → List ℕ
numbers first zero = []
numbers first (suc n) = numbers first n ++ (first + n) ∷ []

-- the Check of so many blocks from one on, and the Update of a block
abbrev pub check_of : List ℕ → ℕ → ℕ → Signal
check_of id first count = command_frame (Check id (record { items = numbers first count }))

abbrev pub update_of : List ℕ → ℕ → List ℕ → Signal
update_of id block content = command_frame (Update id block content)

-- The answer to a Check brings so many bytes, or it refuses by a status; that to an Update says that it is done.
abbrev pub Brings : List ℕ → ℕ → List ℕ → Signal → Type 0
Brings id size content r = (length content ≡ size) × T3AnswerSpelling (Content id (record { items = content })) r

abbrev pub RefusesCheck : List ℕ → ℕ → Signal → Type 0
RefusesCheck id status r = T3AnswerSpelling (CheckRefused id status) r

-- an answer that neither grants nor refuses
pub record IsOdd (Grants : List ℕ → Signal → Type 0) (Refuses : ℕ → Signal → Type 0) (r : Signal) : Type 0 where
  pub no_grant : (x : List ℕ) → Grants x r → ⊥
  pub no_refusal : (status : ℕ) → Refuses status r → ⊥

-- what an answer is told as
abbrev pub TellsFault : (List ℕ → Signal → Type 0) → (ℕ → Signal → Type 0) → Signal → T3Fault → Type 0
TellsFault Grants Refuses r (fault.Refused status) = Refuses status r
TellsFault Grants Refuses r fault.Protocol = IsOdd Grants Refuses r
TellsFault Grants Refuses r e = ⊥

abbrev pub Tells : (List ℕ → Signal → Type 0) → (ℕ → Signal → Type 0) → Signal → Result (List ℕ) T3Fault → Type 0
Tells Grants Refuses r (Ok x) = Grants x r
Tells Grants Refuses r (Err e) = TellsFault Grants Refuses r e

-- The command behind these was answered, and of the answer this holds.
pub record IsHeard (P : Signal → Type 0) (a b : LinkView) (cs : List Signal) (c : Signal) : Type 0 where
  pub answered : Answered a b (cs ++ c ∷ [])
  pub reply : Signal
  pub says : Says a cs c reply
  pub holds : P reply

-- Why one command more isn't granted: by its answer, or the link is over by this fault.
abbrev pub StopsNext : (List ℕ → Signal → Type 0) → (ℕ → Signal → Type 0) → LinkView → LinkView → List Signal → Signal
    → T3Fault → Type 0
StopsNext Grants Refuses a b cs c (fault.Refused status) = IsHeard (Refuses status) a b cs c
StopsNext Grants Refuses a b cs c fault.Protocol = IsHeard (IsOdd Grants Refuses) a b cs c ⊎ Fails a b cs c ask.Protocol
StopsNext Grants Refuses a b cs c fault.FieldLost = Fails a b cs c ask.FieldLost
StopsNext Grants Refuses a b cs c fault.SixBad = Fails a b cs c ask.SixBad
StopsNext Grants Refuses a b cs c fault.Memory = Fails a b cs c ask.Memory
StopsNext Grants Refuses a b cs c e = ⊥

-- what is told of one command more
abbrev pub TellsNext : (List ℕ → Signal → Type 0) → (ℕ → Signal → Type 0) → LinkView → LinkView → List Signal → Signal
    → Result (List ℕ) T3Fault → Type 0
TellsNext Grants Refuses a b cs c (Ok x) = IsHeard (Grants x) a b cs c
TellsNext Grants Refuses a b cs c (Err e) = StopsNext Grants Refuses a b cs c e

-- what is told of the Check of so many blocks from one on
abbrev pub TellsCheck : List ℕ → ℕ → ℕ → LinkView → LinkView → List Signal → Result (List ℕ) T3Fault → Type 0
TellsCheck id first count a b cs result = TellsNext (Brings id (16 * count)) (RefusesCheck id) a b cs
    (check_of id first count) result

-- the content of an answer to a Check, as a function
abbrev pub content_told : List ℕ → ℕ → Option T3Answer → Result (List ℕ) T3Fault
content_told id size (Some (Content from content)) = if pointwise nat_eq from id && (length content.items == size)
    then Ok content.items else Err fault.Protocol
content_told id size (Some (CheckRefused from status)) =
    if pointwise nat_eq from id then Err (fault.Refused status) else Err fault.Protocol
content_told id size (Some (Polled from)) = Err fault.Protocol
content_told id size (Some (Done from)) = Err fault.Protocol
content_told id size (Some (UpdateRefused from status)) = Err fault.Protocol
content_told id size None = Err fault.Protocol

-- the same, as the list that a function gives, and as the bytes of one
abbrev pub found : Result (List ℕ) T3Fault → Result (ArrayVec ℕ) T3Fault
found (Ok xs) = Ok (record { items = xs })
found (Err e) = Err e
