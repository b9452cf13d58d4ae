-- What contracts see of a link to one tag, and what one command on it does (NFC Forum Type 2, Type 3, Type 4 and Type 5
-- Tag). The counts and causes are this project's own.
use Rattle.std.specs.Prelude.{◌≡◌, ℕ, ◌<◌, ◌≤◌, ◌⊎◌, List, [], ◌∷◌, ◌++◌, length, reverse, Bool, true, false, Option}
use Rattle.std.specs.Prelude.{Some, None, Result, Err}
use Rattle.std.specs.List.{AllByRecursion}
use Rattle.nfc_base.specs.declared.frame.Tech.{Tech}
use Rattle.nfc_base.specs.declared.frame.Tech.TheVariants.{A, V, F}
use Rattle.nfc_base.specs.declared.tag_link.AskFault.{AskFault}
use Rattle.nfc_base.specs.declared.tag_link.AskFault.TheVariants.{FieldLost, SixBad, Memory, Protocol}
use Rattle.nfc_base.specs.Signal.{Signal, whole_a, whole_v, whole_f}
use Rattle.nfc_base.specs.Links.{Counts, CountsOn}

-- the kinds of tags that a link leads to
pub data TagKind : Type 0 where
  Type2 : TagKind
  Type3 : TagKind
  Type4 : TagKind
  Type5 : TagKind

-- the current file of a Type 4 tag
pub data TagFile : Type 0 where
  NoFile : TagFile
  ContainerFile : TagFile
  NdefFile : TagFile

-- What a tag is while it is in the field: its store, and of a Type 4 tag whether its application is selected, and its
-- current file. A tag of another kind has no application and no file. The store of a Type 4 tag is its container
-- followed by its NDEF file.
pub record TagState : Type 0 where
  pub store : List ℕ
  pub selected : Bool
  pub file : TagFile

-- a tag that is seen by its store alone
abbrev pub plain_state : List ℕ → TagState
plain_state store = record { store = store; selected = false; file = NoFile }

-- what a tag does with a command: its answer, where it answers, and what it is then
pub record TagStep : Type 0 where
  pub answer : Option Signal
  pub after : TagState

-- What contracts see of a link.
pub record LinkView : Type 0 where
  pub kind : TagKind
  pub identifier : List ℕ
  -- the tag's step, and what the tag is now
  pub step : TagState → Signal → TagStep
  pub state : TagState
  -- since the link was made: the commands that the tag obeyed, those that `ask` answered with `Ok`, and the last one
  -- that was asked while the link wasn't over
  pub obeyed : List Signal
  pub answered : List Signal
  pub last : Option Signal
  -- by which fault the link is over, and whether the field is dark
  pub over : Option AskFault
  pub dark : Bool
  -- what may end a link, counted, and the transmissions that didn't pass
  pub counts : Counts
  pub noise : ℕ

-- the flags of a request of NFC-V that is addressed: high data rate, and address (ISO/IEC 15693-3)
abbrev pub address_flags : ℕ
address_flags = 0x22

-- a request of NFC-V to the device of this identifier, high byte first: its flags, a code, the identifier low byte
-- first, and what the code needs (ISO/IEC 15693-3)
abbrev pub addressed : List ℕ → ℕ → List ℕ → Signal
addressed identifier code rest = whole_v (address_flags ∷ code ∷ (reverse identifier ++ rest))

pub record IsAddressed (identifier : List ℕ) (c : Signal) : Type 0 where
  pub code : ℕ
  pub rest : List ℕ
  pub frame : c ≡ addressed identifier code rest

-- a request of NFC-F to the device of this identifier: how many bytes it has, itself included, a code, the identifier
-- in order, and what the code needs (JIS X 6319-4)
abbrev pub addressed_f : List ℕ → ℕ → ℕ → List ℕ → Signal
addressed_f identifier size code rest = whole_f (size ∷ code ∷ (identifier ++ rest))

pub record IsAddressedF (identifier : List ℕ) (c : Signal) : Type 0 where
  pub size : ℕ
  pub code : ℕ
  pub rest : List ℕ
  pub frame : c ≡ addressed_f identifier size code rest

-- What a technology addresses to the device of one identifier: in NFC-A nothing, in NFC-V and NFC-F what is addressed
-- to its eight bytes. A further technology is a case more.
abbrev pub IsNamedIn : Tech → List ℕ → Type 0
IsNamedIn A identifier = Unit {0}
IsNamedIn V identifier = length identifier ≡ 8
IsNamedIn F identifier = length identifier ≡ 8

abbrev pub IsAddressedIn : Tech → List ℕ → Signal → Type 0
IsAddressedIn A identifier f = ⊥
IsAddressedIn V identifier f = IsNamedIn V identifier × IsAddressed identifier f
IsAddressedIn F identifier f = IsNamedIn F identifier × IsAddressedF identifier f

-- What a tag of a kind may be asked: a frame of whole bytes of its technology; of a Type 4 tag at most 264 bytes, of a
-- Type 3 or a Type 5 tag what is addressed to it.
abbrev pub MayAsk : TagKind → List ℕ → Signal → Type 0
MayAsk Type2 identifier c = c ≡ whole_a c.bytes
MayAsk Type3 identifier c = IsAddressedF identifier c
MayAsk Type4 identifier c = (c ≡ whole_a c.bytes) × (length c.bytes ≤ 264)
MayAsk Type5 identifier c = IsAddressed identifier c

-- the tag after some commands, and its store after each of them
abbrev pub after_all : (TagState → Signal → TagStep) → TagState → List Signal → TagState
after_all step s [] = s
after_all step s (c ∷ cs) = after_all step (step s c).after cs

abbrev pub passed : (TagState → Signal → TagStep) → TagState → List Signal → List (List ℕ)
passed step s [] = []
passed step s (c ∷ cs) = (step s c).after.store ∷ passed step (step s c).after cs

-- Calls led from one view of a link to another, and the tag obeyed `more` in them. A link that is over stays over by
-- its fault, and nothing is obeyed on it. What a Type 4 tag has selected isn't said of a link that is over: the dark
-- clears it.
pub record Leads (a b : LinkView) (more : List Signal) : Type 0 where
  pub kind : b.kind ≡ a.kind
  pub identifier : b.identifier ≡ a.identifier
  pub step : b.step ≡ a.step
  pub obeyed : b.obeyed ≡ a.obeyed ++ more
  pub store : b.state.store ≡ (after_all a.step a.state more).store
  pub state : b.over ≡ None → b.state ≡ after_all a.step a.state more
  pub ended : (e : AskFault) → a.over ≡ Some e → (b.over ≡ Some e) × (more ≡ [])

-- The images of calls: the store at their start, and the store after each command that the tag obeyed in them.
abbrev pub images : LinkView → List Signal → List (List ℕ)
images a more = a.state.store ∷ passed a.step a.state more

-- Stores one after another: first such of one kind, then of a second, then of a third. The three say what a tag of some
-- kind reads as, before, during and behind a write.
pub record PassInThree (Old Empty New : List ℕ → Type 0) (images : List (List ℕ)) : Type 0 where
  pub before : List (List ℕ)
  pub during : List (List ℕ)
  pub behind : List (List ℕ)
  pub joined : images ≡ before ++ (during ++ behind)
  pub olds : AllByRecursion Old before
  pub empties : AllByRecursion Empty during
  pub news : AllByRecursion New behind

-- All that the tag obeyed in an `ask` is this command, each time with the same store after it. A Type 4 tag obeyed it
-- at most once.
pub record Steady (a : LinkView) (c : Signal) (more : List Signal) : Type 0 where
  pub only : AllByRecursion (λ d. d ≡ c) more
  pub same : AllByRecursion (λ s. s ≡ (a.step a.state c).after.store) (passed a.step a.state more)
  pub most : a.kind ≡ Type4 → length more ≤ 1

pub record Obeys (a b : LinkView) (c : Signal) : Type 0 where
  pub more : List Signal
  pub leads : Leads a b more
  pub steady : Steady a c more

-- neither a count nor the noise falls
pub record Rises (a b : LinkView) : Type 0 where
  pub counts : CountsOn a.counts b.counts
  pub noise : a.noise ≤ b.noise

-- An answer: the tag obeyed the command, a Type 4 tag exactly once, and this is what its step answers.
pub record IsAnswer (a b : LinkView) (c reply : Signal) : Type 0 where
  pub begun : a.over ≡ None
  pub stays : b.over ≡ None
  pub lit : b.dark ≡ false
  pub answer : (a.step a.state c).answer ≡ Some reply
  pub after : b.state ≡ (a.step a.state c).after
  pub answered : b.answered ≡ a.answered ++ c ∷ []
  pub counts : b.counts ≡ a.counts
  pub least : length a.obeyed < length b.obeyed
  pub once : a.kind ≡ Type4 → b.obeyed ≡ a.obeyed ++ c ∷ []

-- A fault: the link is over by it, and the tag's store is what it was before the command or after it.
pub record IsFault (a b : LinkView) (c : Signal) (e : AskFault) : Type 0 where
  pub over : b.over ≡ Some e
  pub store : (b.state.store ≡ a.state.store) ⊎ (b.state.store ≡ (a.step a.state c).after.store)
  pub answered : b.answered ≡ a.answered

-- the count of this cause rose, or the field was dark before; want of memory needs no count
abbrev pub AskCause : LinkView → LinkView → AskFault → Type 0
AskCause a b FieldLost = (a.counts.breaks < b.counts.breaks) ⊎ (a.dark ≡ true)
AskCause a b SixBad = a.counts.six_bad < b.counts.six_bad
AskCause a b Protocol = a.counts.odd < b.counts.odd
AskCause a b Memory = Unit {0}

-- A call on a link that is over: the same fault, and nothing changes.
pub record IsEnded (a b : LinkView) (e : AskFault) (result : Result Signal AskFault) : Type 0 where
  pub fault : result ≡ Err e
  pub same : b ≡ a
