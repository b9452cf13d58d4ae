-- What one write does to a link, and writes one after another.
use Rattle.std.specs.Prelude.{◌≡◌, ◌+◌, ◌*◌, ℕ, zero, suc, ◌<◌, ◌≤◌, ◌⊎◌, List, [], ◌∷◌, ◌++◌, length, Option, Some}
use Rattle.std.specs.Prelude.{None, Result, Ok, Err}
use Rattle.std.specs.List.{AllByRecursion}
use Rattle.nfc_base.specs.Signal.{Signal, whole_a}
use Rattle.nfc_base.specs.TagLinks.{LinkView, Leads, passed, Rises}
use Rattle.nfc_base.specs.declared.tag_link.AskFault.{AskFault}
use Rattle.nfc_base.specs.declared.tag_link.AskFault.TheVariants as ask
use Rattle.t4t_tag.specs.Store.{write_access, everyone}
use Rattle.t4t_tag.specs.Spelling.{offset_end}
use Rattle.tlv_area.specs.declared.step.Step.{Step}
use Rattle.tag_reader.specs.declared.how.How.{How}
use Rattle.tag_reader.specs.declared.how.How.TheVariants.{T2, T4, T5}
use Rattle.tag_reader.specs.Files.{container_in, file_in}
use Rattle.tag_reader.specs.Heard.{Refuses}
use Rattle.tag_reader.specs.Calls.{GoesOn, ByLink}
use Rattle.tag_reader.specs.Reading.{IsCalm}
use Rattle.tag_reader.specs.Survey.{block_size}
use Rattle.tag_writer.specs.declared.fault.WriteFault.{WriteFault}
use Rattle.tag_writer.specs.declared.fault.WriteFault.TheVariants as fault
use Rattle.tag_writer.specs.Puts.{Put, block_put, update_put, most_brought}
use Rattle.tag_writer.specs.WriteAsked.{refusal_in}
use Rattle.tag_writer.specs.WriteHeard.{Acknowledges, IsOddAnswer, AreAcknowledged, IsWhy, StopsAmong}

-- The write of a whole block that the store has; of a Type 2 tag, behind its first four.
pub record IsBlockPut (how : How) (size least : ℕ) (store : List ℕ) (p : Put) : Type 0 where
  pub step : Step
  pub put : p ≡ block_put how size step
  pub behind : least ≤ step.block
  pub content : length step.content.items ≡ block_size how size
  pub within : block_size how size * step.block + block_size how size ≤ length store

-- An update of the file that the container of this store allows: writing is free, it brings a byte at least and no more
-- than one may, and all of them lie in the file.
pub record IsUpdatePut (store : List ℕ) (p : Put) : Type 0 where
  pub offset : ℕ
  pub put : p ≡ update_put store offset p.bytes
  pub free : write_access (container_in store) ≡ everyone
  pub low : offset < offset_end
  pub some : 1 ≤ length p.bytes
  pub most : length p.bytes ≤ most_brought store
  pub within : offset + length p.bytes ≤ length (file_in store)

-- a write that a tag with this store can do
abbrev pub IsPutOf : How → ℕ → List ℕ → Put → Type 0
IsPutOf T2 size store p = IsBlockPut T2 size 4 store p
IsPutOf T4 size store p = IsUpdatePut store p
IsPutOf (T5 id) size store p = IsBlockPut (T5 id) size 0 store p

abbrev pub of_link : AskFault → WriteFault
of_link ask.FieldLost = fault.FieldLost
of_link ask.SixBad = fault.SixBad
of_link ask.Memory = fault.Memory
of_link ask.Protocol = fault.Protocol

-- An answer of a tag of this kind to a write: it acknowledges or refuses it. A Type 4 tag refuses none.
abbrev pub IsAnswerOf : How → Signal → Type 0
IsAnswerOf T2 f = Acknowledges T2 f ⊎ ((code : ℕ) × Refuses T2 f code)
IsAnswerOf T4 f = Acknowledges T4 f
IsAnswerOf (T5 id) f = Acknowledges (T5 id) f ⊎ ((code : ℕ) × Refuses (T5 id) f code)

-- a tag of this kind answers so
abbrev pub AnswersAs : How → Option Signal → Type 0
AnswersAs how None = ⊥
AnswersAs how (Some f) = IsAnswerOf how f

-- All that the tag obeyed since left it as the command's step does.
pub record Obeyed (a b : LinkView) (c : Signal) : Type 0 where
  pub more : List Signal
  pub leads : Leads a b more
  pub images' : AllByRecursion (λ s. s ≡ (a.step a.state c).after.store) (passed a.step a.state more)
  pub rises : Rises a b

-- It was answered.
pub record Answers (a b : LinkView) (c : Signal) : Type 0 where
  pub obeyed : Obeyed a b c
  pub begun : a.over ≡ None
  pub goes_on : GoesOn a b
  pub state : b.state ≡ (a.step a.state c).after
  pub answered : b.answered ≡ a.answered ++ c ∷ []
  pub last : b.last ≡ Some c

-- The link ended: the tag's store is as before or as the command's step leaves it. In calm it is memory that failed.
pub record Loses (a b : LinkView) (c : Signal) (f : AskFault) : Type 0 where
  pub obeyed : Obeyed a b c
  pub by : ByLink a b f
  pub store : (b.state.store ≡ a.state.store) ⊎ (b.state.store ≡ (a.step a.state c).after.store)
  pub answered : b.answered ≡ a.answered
  pub last : ((b.last ≡ a.last) × (b.over ≡ a.over)) ⊎ (b.last ≡ Some c)
  pub calm : IsCalm a b → f ≡ ask.Memory

-- a write ended so: it was answered and not refused, it was refused by a code, or the link ended
abbrev pub Accepts : How → LinkView → LinkView → Signal → Type 0
Accepts how a b c = Answers a b c × (refusal_in how (a.step a.state c).answer ≡ None)

abbrev pub Rejects : How → LinkView → LinkView → Signal → ℕ → Type 0
Rejects how a b c code = Answers a b c × (refusal_in how (a.step a.state c).answer ≡ Some code)

abbrev pub FailsBy : How → LinkView → LinkView → Signal → WriteFault → Type 0
FailsBy how a b c e =
    ((code : ℕ) × (e ≡ fault.Refused code) × Rejects how a b c code)
    ⊎ ((f : AskFault) × (e ≡ of_link f) × Loses a b c f)

abbrev pub Puts : How → LinkView → LinkView → Signal → Result Unit WriteFault → Type 0
Puts how a b c (Ok done) = Accepts how a b c
Puts how a b c (Err e) = FailsBy how a b c e

-- what one answer says, whatever the tag
abbrev pub AnswerTells : How → Signal → Result Unit WriteFault → Type 0
AnswerTells how r (Ok done) = Acknowledges how r
AnswerTells how r (Err (fault.Refused code)) = Refuses how r code
AnswerTells how r (Err fault.Protocol) = IsOddAnswer how r
AnswerTells how r (Err e) = ⊥

-- what one write tells, and writes one after another
abbrev pub PutTells : How → LinkView → LinkView → Signal → Result Unit WriteFault → Type 0
PutTells how a b c (Ok done) = AreAcknowledged how a b (c ∷ [])
PutTells how a b c (Err e) = IsWhy how a b [] c e

abbrev pub PutsTell : How → LinkView → LinkView → List Signal → Result Unit WriteFault → Type 0
PutsTell how a b commands (Ok done) = AreAcknowledged how a b commands
PutsTell how a b commands (Err e) = StopsAmong how a b commands e

-- the command of the k-th write, counted from 0
abbrev pub signal_at : List Put → ℕ → Signal
signal_at [] k = whole_a []
signal_at (p ∷ ps) zero = p.command
signal_at (p ∷ ps) (suc k) = signal_at ps k

-- These writes were made one after another.
abbrev pub Makes : How → LinkView → List Put → LinkView → Type 0
Makes how a [] b = b ≡ a
Makes how a (p ∷ ps) b = (v : LinkView) × Accepts how a v p.command × Makes how v ps b

-- Some were, and the next one failed.
pub record BreaksOff (how : How) (a : LinkView) (puts : List Put) (b : LinkView) (e : WriteFault) : Type 0 where
  pub front : List Put
  pub next : Put
  pub rest : List Put
  pub split : puts ≡ front ++ next ∷ rest
  pub at : LinkView
  pub makes : Makes how a front at
  pub fails : FailsBy how at b next.command e
