-- What a writer asks of a tag, by the tag's store, its step and the message alone (NFC Forum Type 2, Type 4 and Type 5
-- Tag).
use Rattle.std.specs.Prelude.{◌≡◌, ◌⊎◌, ℕ, List, [], ◌∷◌, ◌++◌, is_some, if◌then◌else◌, Option, Some, None, Ok}
use Rattle.nfc_base.specs.Signal.{Signal}
use Rattle.nfc_base.specs.TagLinks.{TagState, TagStep, LinkView}
use Rattle.tlv_area.specs.declared.space.Space.{Space}
use Rattle.tlv_area.specs.declared.step.Plan.{Plan}
use Rattle.tlv_area.specs.Layout.{Tlv, Layout, LiesIn, ndef_message}
use Rattle.tlv_area.specs.Tail.{message_tail}
use Rattle.tlv_area.specs.Writing.{IsNew, IsPlan, made}
use Rattle.tag_reader.specs.declared.how.How.{How}
use Rattle.tag_reader.specs.declared.how.How.TheVariants.{T2, T4, T5}
use Rattle.tag_reader.specs.Asked.{ToWrite, IsAskedFor}
use Rattle.tag_reader.specs.Heard.{refusal_of}
use Rattle.tag_reader.specs.Survey.{block_size, written_area, surveyed}
use Rattle.tag_writer.specs.declared.phase.Phase.TheVariants.{Prepared, Emptied, Filled}
use Rattle.tag_writer.specs.Puts.{Put, commands_of, block_puts, file_puts}
use Rattle.tag_writer.specs.Place.{Place, Takes, TakesNot}

-- the code by which a tag refuses, where it answers and does
abbrev pub refusal_in : How → Option Signal → Option ℕ
refusal_in how None = None
refusal_in how (Some f) = refusal_of how f

-- commands that are asked one after another, up to the first that the tag refuses
abbrev pub up_to_refused : How → (TagState → Signal → TagStep) → TagState → List Signal → List Signal
up_to_refused how step s [] = []
up_to_refused how step s (c ∷ cs) =
    c ∷ (if is_some (refusal_in how (step s c).answer) then [] else up_to_refused how step (step s c).after cs)

-- the code by which the last of them is refused, where it is
abbrev pub refused_by : How → (TagState → Signal → TagStep) → TagState → List Signal → Option ℕ
refused_by how step s [] = None
refused_by how step s (c ∷ cs) =
    if is_some (refusal_in how (step s c).answer) then refusal_in how (step s c).answer
    else refused_by how step (step s c).after cs

-- The writes of a message, in three parts: the first takes the old message away, the second writes all but the length's
-- block or field, and the last shows the new message.
pub record Parts : Type 0 where
  pub close : List Put
  pub fill : List Put
  pub last : List Put

abbrev pub all_puts : Parts → List Put
all_puts p = (p.close ++ p.fill) ++ p.last

-- In an area they are those of the plan.
pub record AreAreaPuts (how : How) (size : ℕ) (space : Space) (store message : List ℕ) (p : Parts) : Type 0 where
  pub ts : List Tlv
  pub t : Tlv
  pub after : List ℕ
  pub layout : Layout space store ts (t.at ++ after)
  pub lies : LiesIn store t
  pub kind : t.kind ≡ ndef_message
  pub new : List ℕ
  pub is_new : IsNew (message_tail t.at after) store message new
  pub plan : Plan
  pub is_plan : IsPlan (block_size how size) space.end (message_tail t.at after) store message new plan
  pub close : p.close ≡ block_puts how size (made plan.close)
  pub fill : p.fill ≡ block_puts how size plan.fill
  pub last : p.last ≡ block_puts how size (made plan.last)

pub record AreFilePuts (store message : List ℕ) (p : Parts) : Type 0 where
  pub close : p.close ≡ file_puts Prepared store message
  pub fill : p.fill ≡ file_puts Emptied store message
  pub last : p.last ≡ file_puts Filled store message

abbrev pub ArePuts : How → ℕ → List ℕ → List ℕ → Parts → Type 0
ArePuts T2 size store message p = (space : Space) × (written_area T2 size store ≡ Ok space)
    × AreAreaPuts T2 size space store message p
ArePuts T4 size store message p = AreFilePuts store message p
ArePuts (T5 id) size store message p =
    (space : Space) × (written_area (T5 id) size store ≡ Ok space) × AreAreaPuts (T5 id) size space store message p

-- The writes of a message where the store takes it, else none.
pub record AreWrites (how : How) (size : ℕ) (store message : List ℕ) (p : Parts) : Type 0 where
  pub takes : (place : Place) → Takes how size store message place → ArePuts how size store message p
  pub none : TakesNot how size store message → all_puts p ≡ []

-- The whole list of what a writer asks: what it reads, and then the writes up to the first that the tag refuses.
pub record IsWriteAsked (how : How) (size : ℕ) (step : TagState → Signal → TagStep) (s : TagState) (message : List ℕ)
    (commands : List Signal) : Type 0 where
  pub read : List Signal
  pub all : IsAskedFor ToWrite how size s.store read
  pub parts : Parts
  pub writes : AreWrites how size s.store message parts
  pub list : commands ≡ read ++ up_to_refused how step (surveyed how s) (commands_of (all_puts parts))

-- The store takes the message, and the first of its writes that the tag refuses is refused by this code, or none is.
pub record Writes (how : How) (size : ℕ) (step : TagState → Signal → TagStep) (s : TagState) (message : List ℕ)
    (code : Option ℕ) : Type 0 where
  pub place : Place
  pub takes : Takes how size s.store message place
  pub parts : Parts
  pub are : ArePuts how size s.store message parts
  pub refused : refused_by how step (surveyed how s) (commands_of (all_puts parts)) ≡ code

-- the last of some commands behind one
abbrev pub last_command : Option Signal → List Signal → Option Signal
last_command before [] = before
last_command before (c ∷ cs) = last_command (Some c) cs

-- The commands answered between two views are the first of these, and the last one that was asked is the last of those,
-- and then the link is over only where it was before; or it is the next.
pub record HasAskedOf (a b : LinkView) (commands : List Signal) : Type 0 where
  pub asked : List Signal
  pub rest : List Signal
  pub split : commands ≡ asked ++ rest
  pub answered : b.answered ≡ a.answered ++ asked
  pub last : ((b.last ≡ last_command a.last asked) × (b.over ≡ a.over))
      ⊎ ((c : Signal) × (later : List Signal) × (rest ≡ c ∷ later) × (b.last ≡ Some c))
