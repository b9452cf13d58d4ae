-- How the message of a Type 3 tag is read: what is asked, what the answers bring, and what is told by them, whatever
-- the tag does (NFC Forum Type 3 Tag).
use Rattle.std.specs.Prelude.{◌≡◌, ℕ, zero, suc, ◌+◌, ◌-◌, ◌*◌, ◌/◌, ◌<◌, ◌⊎◌, min, nat_lt, ◌==◌, ◌||◌, not}
use Rattle.std.specs.Prelude.{if◌then◌else◌, List, [], ◌∷◌, ◌++◌, length, take, Bool, Result, Ok, Err}
use Rattle.arrayvec.specs.ArrayVec.{ArrayVec}
use Rattle.nfc_base.specs.Signal.{Signal}
use Rattle.nfc_base.specs.TagLinks.{LinkView}
use Rattle.t3t_tag.specs.Attributes.{most_checked, most_updated, message_blocks, message_length, major_version}
use Rattle.t3t_tag.specs.Attributes.{write_flag, is_summed}
use Rattle.t3t_tag.specs.Spelling.{most_elements}
use Rattle.t3t_tag.specs.Store.{attributes}
use Rattle.t3t_tag.specs.Form.{T3Form, NotNdef, Version, BadSize, Unfinished, Message, IsSized, IsT3Form, is_writable}
use Rattle.t3t_access.specs.declared.fault.T3Fault.{T3Fault}
use Rattle.t3t_access.specs.declared.fault.T3Fault.TheVariants as fault
use Rattle.t3t_access.specs.declared.found.Found3.{Found3}
use Rattle.t3t_access.specs.Talk.{Answered, Says}
use Rattle.t3t_access.specs.Answers.{check_of, Brings, RefusesCheck, StopsNext}

-- how many blocks have a message byte, and how many of them one Check may name
abbrev pub needed : List ℕ → ℕ
needed block = (message_length block + 15) / 16

abbrev pub most_at_once : List ℕ → ℕ
most_at_once block = min (most_checked block) most_elements

-- how many of them the first n Checks behind that of block 0 bring, and the next one
abbrev pub taken_at : List ℕ → ℕ → ℕ
taken_at block zero = 0
taken_at block (suc n) = taken_at block n + min (most_at_once block) (needed block - taken_at block n)

abbrev pub count_at : List ℕ → ℕ → ℕ
count_at block zero = 1
count_at block (suc n) = min (most_at_once block) (needed block - taken_at block n)

-- The Check that is the n-th, counted from 0: of block 0, and then of as many blocks behind it as one may name.
abbrev pub check_at : List ℕ → List ℕ → ℕ → Signal
check_at id block zero = check_of id 0 1
check_at id block (suc n) = check_of id (1 + taken_at block n) (count_at block (suc n))

-- the first so many of them
abbrev pub first_checks : List ℕ → List ℕ → ℕ → List Signal
first_checks id block zero = []
first_checks id block (suc n) = first_checks id block n ++ check_at id block n ∷ []

-- the next one is due: that of block 0, or, where a message is held, one of the blocks that are left
abbrev pub IsDue : List ℕ → ℕ → Type 0
IsDue block zero = Unit {0}
IsDue block (suc n) = IsSized block × (write_flag block ≡ 0) × (taken_at block n < needed block)

-- what the answers to the first n of them brought, each of which was due
abbrev pub Brought : List ℕ → LinkView → List ℕ → ℕ → List ℕ → Type 0
Brought id a block zero bytes = bytes ≡ []
Brought id a block (suc n) bytes = (old : List ℕ) × (x : List ℕ) × (bytes ≡ old ++ x) × Brought id a block n old
    × IsDue block n × (r : Signal) × Says a (first_checks id block n) (check_at id block n) r
    × Brings id (16 * count_at block n) x r

-- what the first of them brought is the attribute block
abbrev pub Begins : List ℕ → ℕ → List ℕ → Type 0
Begins block zero bytes = Unit {0}
Begins block (suc n) bytes = take 16 bytes ≡ block

-- The first n of them were answered, and brought these bytes.
pub record Reads (id : List ℕ) (a b : LinkView) (block : List ℕ) (n : ℕ) (bytes : List ℕ) : Type 0 where
  pub answered : Answered a b (first_checks id block n)
  pub brought : Brought id a block n bytes
  pub head : Begins block n bytes

-- The answer to the Check of block 0 says this form.
pub record Finds (id : List ℕ) (a b : LinkView) (form : T3Form) : Type 0 where
  pub block : List ℕ
  pub reads : Reads id a b block 1 block
  pub size : length block ≡ 16
  pub is : IsT3Form block form

-- Behind n of them a fault came with the next one.
pub record Stops (id : List ℕ) (a b : LinkView) (e : T3Fault) : Type 0 where
  pub block : List ℕ
  pub number : ℕ
  pub bytes : List ℕ
  pub brought : Brought id a block number bytes
  pub head : Begins block number bytes
  pub due : IsDue block number
  pub told : StopsNext (Brings id (16 * count_at block number)) (RefusesCheck id) a b (first_checks id block number)
      (check_at id block number) e

-- the reader's own want of memory, behind some of them
pub record Lacks (id : List ℕ) (a b : LinkView) : Type 0 where
  pub block : List ℕ
  pub number : ℕ
  pub bytes : List ℕ
  pub reads : Reads id a b block number bytes

-- why there is no message
abbrev pub FaultTold : List ℕ → LinkView → LinkView → T3Fault → Type 0
FaultTold id a b fault.NotNdef = Finds id a b NotNdef
FaultTold id a b fault.Version = Finds id a b Version
FaultTold id a b fault.BadSize = Finds id a b BadSize
FaultTold id a b fault.Unfinished = Finds id a b Unfinished
FaultTold id a b fault.Memory = Lacks id a b ⊎ Stops id a b fault.Memory
FaultTold id a b fault.ReadOnly = ⊥
FaultTold id a b (fault.TooLong most) = ⊥
FaultTold id a b e = Stops id a b e

-- why there is no attribute block without a fault
abbrev pub StartTold : List ℕ → LinkView → LinkView → T3Fault → Type 0
StartTold id a b fault.NotNdef = Finds id a b NotNdef
StartTold id a b fault.Version = Finds id a b Version
StartTold id a b fault.BadSize = Finds id a b BadSize
StartTold id a b fault.Unfinished = ⊥
StartTold id a b fault.ReadOnly = ⊥
StartTold id a b (fault.TooLong most) = ⊥
StartTold id a b e = StopsNext (Brings id 16) (RefusesCheck id) a b [] (check_of id 0 1) e

-- The blocks that have a message byte were read, and say this message.
pub record Holds (id : List ℕ) (a b : LinkView) (message : List ℕ) (writable : Bool) : Type 0 where
  pub bytes : List ℕ
  pub number : ℕ
  pub reads : Reads id a b (attributes bytes) (suc number) bytes
  pub whole : taken_at (attributes bytes) number ≡ needed (attributes bytes)
  pub is : IsT3Form bytes (Message message)
  pub access : writable ≡ is_writable bytes

-- What a reading tells, whatever the tag does.
abbrev pub ReadTold : List ℕ → LinkView → LinkView → Result Found3 T3Fault → Type 0
ReadTold id a b (Ok found) = Holds id a b found.message.items found.writable
ReadTold id a b (Err e) = FaultTold id a b e

-- the Check of block 0
abbrev pub AttributesTold : List ℕ → LinkView → LinkView → Result (ArrayVec ℕ) T3Fault → Type 0
AttributesTold id a b (Ok block) = Reads id a b block.items 1 block.items × IsSized block.items
AttributesTold id a b (Err e) = FaultTold id a b e

-- the Checks of the others
pub record Whole (id : List ℕ) (a b : LinkView) (block bytes : List ℕ) : Type 0 where
  pub number : ℕ
  pub reads : Reads id a b block (suc number) bytes
  pub whole : taken_at block number ≡ needed block

abbrev pub BlocksTold : {A : Type 0} → List ℕ → LinkView → LinkView → List ℕ → List ℕ → Result A T3Fault → Type 0
BlocksTold id a b block bytes (Ok done') = Whole id a b block bytes
BlocksTold id a b block bytes (Err e) = FaultTold id a b e

-- what an attribute block says of itself, as a function
abbrev pub is_bad_size : List ℕ → Bool
is_bad_size block =
    (most_checked block == 0) || (most_updated block == 0) || (message_blocks block == 0)
    || nat_lt 255 (message_blocks block)
    || nat_lt (16 * message_blocks block) (message_length block)

abbrev pub judged : List ℕ → Result (Unit {0}) T3Fault
judged block =
    if not (is_summed block) then Err fault.NotNdef
    else if not (major_version block == 1) then Err fault.Version
    else if is_bad_size block then Err fault.BadSize
    else Ok tt

-- a block as it is judged
abbrev pub judged_as : ArrayVec ℕ → Result (Unit {0}) T3Fault → Result (ArrayVec ℕ) T3Fault
judged_as block (Ok done') = Ok block
judged_as block (Err e) = Err e
