-- Writing a Type 3 tag that keeps to its table: what its stores are meanwhile, whatever stops the write.
use Rattle.std.specs.Prelude.{◌≡◌, ℕ, suc, ◌*◌, ◌<◌, ◌≤◌, ◌⊎◌, List, ◌++◌, Some, length, drop, get_or, Bool, true}
use Rattle.std.specs.Prelude.{false, Result, IfErr, OnOk, Err}
use Rattle.nfc_base.specs.Signal.{Signal}
use Rattle.nfc_base.specs.TagLinks.{LinkView, Leads, PassInThree, images}
use Rattle.nfc_base.specs.declared.tag_link.AskFault.TheVariants as ask
use Rattle.t3t_tag.specs.Attributes.{message_blocks}
use Rattle.t3t_tag.specs.Store.{IsT3Store, attributes}
use Rattle.t3t_tag.specs.Form.{NotNdef, Version, BadSize, Unfinished, Message, IsSized, IsT3Form, is_writable}
use Rattle.t3t_tag.specs.Step.{block_locked}
use Rattle.t3t_access.specs.declared.fault.T3Fault.{T3Fault}
use Rattle.t3t_access.specs.declared.fault.T3Fault.TheVariants as fault
use Rattle.t3t_access.specs.Talk.{ByLink, IsCalm, last_of}
use Rattle.t3t_access.specs.Own.{IsTag3, Stays, IsToldOrMemory}
use Rattle.t3t_access.specs.Answers.{check_of}
use Rattle.t3t_access.specs.Writing.{Takes, blocks_of, put_at, all_puts, command_at, first_asked}

-- behind the last block with a message byte all is as it was
pub record SameBehind (message old s : List ℕ) : Type 0 where
  pub size : length s ≡ length old
  pub behind : drop (16 * suc (blocks_of message)) s ≡ drop (16 * suc (blocks_of message)) old

-- the store says that a write is under way, and is one that a new tag may have
pub record IsBegun (message old s : List ℕ) : Type 0 where
  pub form : IsT3Form s Unfinished
  pub same : SameBehind message old s
  pub store : IsT3Store s

-- it holds the new message
pub record IsNew (message old s : List ℕ) : Type 0 where
  pub form : IsT3Form s (Message message)
  pub same : SameBehind message old s
  pub store : IsT3Store s

-- why it takes none
abbrev pub IsBarred : List ℕ → Type 0
IsBarred store = IsSized (attributes store) × (is_writable store ≡ false)

pub record IsTooSmall (store message : List ℕ) (most : ℕ) : Type 0 where
  pub sized : IsSized (attributes store)
  pub free : is_writable store ≡ true
  pub most' : most ≡ 16 * message_blocks (attributes store)
  pub long : most < length message

-- The tag takes the message, and refused an Update: its block is locked, and the store is the old one or says that a
-- write is under way.
pub record IsRefused (locked : List Bool) (message old s : List ℕ) (status : ℕ) : Type 0 where
  pub status' : status ≡ block_locked
  pub takes : Takes (attributes old) message
  pub number : ℕ
  pub some : number < all_puts message
  pub locked' : get_or locked (put_at (attributes old) message number).block false ≡ true
  pub left : (s ≡ old) ⊎ IsBegun message old s

-- Why a write ends without the message: by the form of the store, by the message, by a locked block, or by the link. A
-- write takes no memory of its own.
abbrev pub IsWriteFault3 : List Bool → List ℕ → LinkView → LinkView → T3Fault → Type 0
IsWriteFault3 locked message a b fault.NotNdef = IsT3Form a.state.store NotNdef × Stays a b
IsWriteFault3 locked message a b fault.Version = IsT3Form a.state.store Version × Stays a b
IsWriteFault3 locked message a b fault.BadSize = IsT3Form a.state.store BadSize × Stays a b
IsWriteFault3 locked message a b fault.ReadOnly = IsBarred a.state.store × Stays a b
IsWriteFault3 locked message a b (fault.TooLong most) = IsTooSmall a.state.store message most × Stays a b
IsWriteFault3 locked message a b (fault.Refused status) = IsRefused locked message a.state.store b.state.store status
IsWriteFault3 locked message a b fault.FieldLost = ByLink a b ask.FieldLost
IsWriteFault3 locked message a b fault.SixBad = ByLink a b ask.SixBad
IsWriteFault3 locked message a b fault.Protocol = ByLink a b ask.Protocol
IsWriteFault3 locked message a b fault.Memory = ByLink a b ask.Memory
IsWriteFault3 locked message a b fault.Unfinished = ⊥

-- The stores of the call are first the old one itself, then such that say that a write is under way, then such that
-- hold the message.
pub record PassesThree (message : List ℕ) (a b : LinkView) : Type 0 where
  pub more : List Signal
  pub leads : Leads a b more
  pub three : PassInThree (λ s. s ≡ a.state.store) (IsBegun message a.state.store) (IsNew message a.state.store)
      (images a more)

pub record IsWrite3 (locked : List Bool) (message : List ℕ) (a b : LinkView) (result : Result (Unit {0}) T3Fault)
    : Type 0 where
  pub passes : PassesThree message a b
  pub ok : OnOk result (Takes (attributes a.state.store) message × IsNew message a.state.store b.state.store)
  pub err : IfErr result (IsWriteFault3 locked message a b)
  pub calm : IsCalm a b → IfErr result IsToldOrMemory

-- where the link leads to such a tag
abbrev pub Writes3 : List ℕ → List ℕ → LinkView → LinkView → Result (Unit {0}) T3Fault → Type 0
Writes3 id message a b result = (locked : List Bool) → IsTag3 id locked a → IsWrite3 locked message a b result

-- The next Update is due: the tag takes the message, some are left, and each one before it was of a block that isn't
-- locked.
pub record IsPutDue (locked : List Bool) (block message : List ℕ) (n : ℕ) : Type 0 where
  pub takes : Takes block message
  pub some : n < all_puts message
  pub free : (k : ℕ) → k < n → get_or locked (put_at block message k).block false ≡ false

-- What was answered is the Check of block 0, and the first so many Updates of those that are due, the one that is
-- refused too. The last one that was asked is the last of these, and ended no link, or the next.
pub record WritesInOrder (id : List ℕ) (locked : List Bool) (message : List ℕ) (a b : LinkView) (count : ℕ)
    : Type 0 where
  pub due : (k : ℕ) → k < count → IsPutDue locked (attributes a.state.store) message k
  pub answered : b.answered ≡ a.answered ++ first_asked id (attributes a.state.store) message count
  pub last : ((b.last ≡ last_of a.last (first_asked id (attributes a.state.store) message count)) × (b.over ≡ a.over))
      ⊎ ((b.last ≡ Some (command_at id (attributes a.state.store) message count))
      × IsPutDue locked (attributes a.state.store) message count)

-- or the Check wasn't answered
pub record AsksNoUpdate (id : List ℕ) (a b : LinkView) : Type 0 where
  pub answered : b.answered ≡ a.answered
  pub last : ((b.last ≡ a.last) × (b.over ≡ a.over)) ⊎ (b.last ≡ Some (check_of id 0 1))

-- it is told that the message is written, or why the tag takes none, once no other Update is due
abbrev pub IsAllAsked : Result (Unit {0}) T3Fault → Type 0 → Type 0
IsAllAsked (Err fault.FieldLost) Due = Unit {0}
IsAllAsked (Err fault.SixBad) Due = Unit {0}
IsAllAsked (Err fault.Memory) Due = Unit {0}
IsAllAsked (Err fault.Protocol) Due = Unit {0}
IsAllAsked r Due = Due → ⊥

pub record AsksUpdates (id : List ℕ) (locked : List Bool) (message : List ℕ) (a b : LinkView)
    (result : Result (Unit {0}) T3Fault) : Type 0 where
  pub count : ℕ
  pub asks : WritesInOrder id locked message a b count
  pub whole : IsAllAsked result (IsPutDue locked (attributes a.state.store) message count)

-- the link's faults, by which alone the Check has no answer
abbrev pub IsOfLink : Result (Unit {0}) T3Fault → Type 0
IsOfLink (Err fault.FieldLost) = Unit {0}
IsOfLink (Err fault.SixBad) = Unit {0}
IsOfLink (Err fault.Memory) = Unit {0}
IsOfLink (Err fault.Protocol) = Unit {0}
IsOfLink r = ⊥

abbrev pub AsksWrite : List ℕ → List Bool → List ℕ → LinkView → LinkView → Result (Unit {0}) T3Fault → Type 0
AsksWrite id locked message a b result = AsksUpdates id locked message a b result
    ⊎ (AsksNoUpdate id a b × IsOfLink result)

-- where the link leads to such a tag
abbrev pub AsksOfWrite3 : List ℕ → List ℕ → LinkView → LinkView → Result (Unit {0}) T3Fault → Type 0
AsksOfWrite3 id message a b result = (locked : List Bool) → IsTag3 id locked a → AsksWrite id locked message a b result
