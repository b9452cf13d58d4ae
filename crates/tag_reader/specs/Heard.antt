-- What the answers of a tag tell a reader, whatever the tag does (NFC Forum Type 2, Type 4 and Type 5 Tag): the pieces
-- that they bring, one a command, which command follows them, and what they say of the message.
use Rattle.std.specs.Prelude.{◌≡◌, ℕ, zero, suc, ◌+◌, ◌-◌, ◌*◌, ◌<◌, ◌≤◌, ◌⊎◌, ◌↔◌, ◌==◌, ◌&&◌, nat_eq, nat_le}
use Rattle.std.specs.Prelude.{slice_index, if◌then◌else◌, min, false, List, [], ◌∷◌, ◌++◌, length, Bool, Option, Some}
use Rattle.std.specs.Prelude.{None, Result, Ok, Err, IsErrOf, IsOkAnd}
use Rattle.std.specs.Cmp.Lexicographic.{pointwise}
use Rattle.std.specs.List.{flat_map, list_any}
use Rattle.nfc_base.specs.Signal.{Signal, whole_a, is_nfc_a, is_whole_a, last_byte}
use Rattle.nfc_base.specs.TagLinks.{TagState, TagStep, LinkView, after_all}
use Rattle.nfc_base.specs.declared.tag_link.AskFault.TheVariants as ask
use Rattle.t2t_tag.specs.Spelling as t2
use Rattle.t2t_tag.specs.declared.command.T2Command.TheVariants as t2_command
use Rattle.t2t_tag.specs.declared.answer.T2Answer.TheVariants as t2_says
use Rattle.t4t_tag.specs.Store.{file_id, container_id}
use Rattle.t4t_tag.specs.Step.{done}
use Rattle.t4t_tag.specs.declared.command.T4Command.{T4Command}
use Rattle.t4t_tag.specs.declared.command.T4Command.TheVariants.{SelectApplication, SelectFile, ReadBinary}
use Rattle.t4t_tag.specs.declared.command.T4Command.TheVariants.{UpdateBinary}
use Rattle.t5t_tag.specs.Spelling as t5
use Rattle.t5t_tag.specs.Reading.{spelled_answer}
use Rattle.t5t_tag.specs.Step.{no_block}
use Rattle.t5t_tag.specs.declared.answer.T5Answer.{T5Answer}
use Rattle.t5t_tag.specs.declared.answer.T5Answer.TheVariants as t5_says
use Rattle.t5t_tag.specs.declared.answer.T5Answer.TheVariants.{Error}
use Rattle.tlv_area.specs.declared.container.ContainerFault.TheVariants as container
use Rattle.tlv_area.specs.declared.container.FileMap.{FileMap}
use Rattle.tlv_area.specs.Containers.{t4_container, t5_is_open}
use Rattle.tlv_area.specs.Form.{Form, Faulty, Message, NoMessageTlv, BadTlv}
use Rattle.tlv_area.specs.Stores.{IsFormBy, IsT5Form}
use Rattle.tag_reader.specs.declared.how.How.{How}
use Rattle.tag_reader.specs.declared.how.How.TheVariants.{T2, T4, T5}
use Rattle.tag_reader.specs.declared.fault.ReadFault.{ReadFault}
use Rattle.tag_reader.specs.declared.fault.ReadFault.TheVariants as fault
use Rattle.tag_reader.specs.declared.found.Site.{Site}
use Rattle.tag_reader.specs.declared.found.Site.TheVariants.{File}
use Rattle.tag_reader.specs.declared.found.Found.{Found}
use Rattle.tag_reader.specs.declared.ask.Ask.{Ask}
use Rattle.tag_reader.specs.Blocks.{ask_frame, ask_count, next_ask, IsOne, IsMany}
use Rattle.tag_reader.specs.Files.{most_of, message_length, file_frame}
use Rattle.tag_reader.specs.Kinds.{area_of, kind_of, IsNamed}
use Rattle.tag_reader.specs.Calls.{ByLink}
use Rattle.tag_reader.specs.Reading.{IsSite}

-- a link of this kind, to the tag with this identifier
pub record IsOf (how : How) (v : LinkView) : Type 0 where
  pub kind : v.kind ≡ kind_of how
  pub named : IsNamed how v.identifier

-- The command of a Type 4 tag that follows some pieces: SELECT of the application and of the container, a read of the
-- container, SELECT of the NDEF file that it names, a read of the message's length, and then reads of the message, each
-- of as many bytes as a read may ask for, or of those that are left.
abbrev pub file_next : List (List ℕ) → T4Command
file_next [] = SelectApplication
file_next (a ∷ []) = SelectFile container_id
file_next (a ∷ b ∷ []) = ReadBinary 0 15
file_next (a ∷ b ∷ head ∷ []) = SelectFile (file_id head)
file_next (a ∷ b ∷ head ∷ d ∷ []) = ReadBinary 0 2
file_next (a ∷ b ∷ head ∷ d ∷ size ∷ parts) =
    ReadBinary (2 + most_of head * length parts) (min (most_of head)
    (message_length size - most_of head * length parts))

-- the bytes of the pieces, and how many the first has
abbrev pub joined : List (List ℕ) → List ℕ
joined ps = flat_map (λ p. p) ps

abbrev pub first_size : List (List ℕ) → ℕ
first_size [] = 0
first_size (p ∷ ps) = length p

-- A refusal of several blocks at once brings a piece of no bytes.
abbrev pub is_single : List (List ℕ) → Bool
is_single ps = list_any (λ p. length p == 0) ps

-- what is asked of a Type 5 tag behind some pieces
abbrev pub ask_behind : List (List ℕ) → Ask
ask_behind ps = next_ask (first_size ps) (is_single ps) (joined ps)

-- The command that follows some pieces: of a tag of blocks the READ of the next ones.
abbrev pub next_command : How → List (List ℕ) → Signal
next_command T2 ps = t2.command_frame (t2_command.Read (4 * length ps))
next_command T4 ps = file_frame (file_next ps)
next_command (T5 id) ps = ask_frame id (ask_behind ps)

-- the commands that these pieces answer, where those before them are there
abbrev pub asked_for : How → List (List ℕ) → List (List ℕ) → List Signal
asked_for how before [] = []
asked_for how before (p ∷ ps) = next_command how before ∷ asked_for how (before ++ p ∷ []) ps

-- A READ BINARY brings as many bytes as it asks for, SELECT of a file none, SELECT of the application what the tag
-- likes.
abbrev pub HasSize : T4Command → List ℕ → Type 0
HasSize SelectApplication p = length p ≤ 256
HasSize (SelectFile id) p = length p ≡ 0
HasSize (ReadBinary offset count) p = length p ≡ count
HasSize (UpdateBinary offset content) p = length p ≡ 0

-- The first block of a Type 5 tag has room for a container of four bytes, and each other one is as long as the first.
abbrev pub IsBlocks : ℕ → Ask → List ℕ → Type 0
IsBlocks zero ask p = 4 ≤ length p
IsBlocks (suc size) ask p = length p ≡ suc size * ask_count ask

-- an answer has the form of content, with these bytes
abbrev pub HasContent : How → Signal → List ℕ → Type 0
HasContent T2 r p = t2.T2AnswerSpelling (t2_says.Content p) r
HasContent T4 r p = (r ≡ whole_a (p ++ done)) × (length p ≤ 256)
HasContent (T5 id) r p = t5.T5AnswerSpelling (t5_says.Content (record { items = p })) r

-- and it is as long as the command needs it
abbrev pub IsPiece : How → List (List ℕ) → List ℕ → Type 0
IsPiece T2 ps p = Unit {0}
IsPiece T4 ps p = HasSize (file_next ps) p
IsPiece (T5 id) ps p = IsBlocks (first_size ps) (ask_behind ps) p

-- the answer to the command that follows some pieces has this one
pub record BringsPiece (how : How) (ps : List (List ℕ)) (r : Signal) (p : List ℕ) : Type 0 where
  pub content : HasContent how r p
  pub piece : IsPiece how ps p

-- Whatever the error by which a Type 5 tag refuses several blocks at once, it is no end of a reading: each block is
-- then asked for alone.
pub record FallsBack (ps : List (List ℕ)) (r : Signal) (p : List ℕ) : Type 0 where
  pub many : IsMany (ask_behind ps)
  pub code : ℕ
  pub error : r ≡ t5.answer_frame (t5_says.Error code)
  pub none : p ≡ []

-- the answer brings it
abbrev pub Brings : How → List (List ℕ) → Signal → List ℕ → Type 0
Brings T2 ps r p = BringsPiece T2 ps r p
Brings T4 ps r p = BringsPiece T4 ps r p
Brings (T5 id) ps r p = BringsPiece (T5 id) ps r p ⊎ FallsBack ps r p

-- The code by which an answer refuses its command, where it does: 0 for the four bits 0h of a Type 2 tag, the status
-- bytes that end the answer of a Type 4 tag, unless they are 9000h, and the code of an error of a Type 5 tag.
abbrev pub t4_code : ℕ → ℕ → Option ℕ
t4_code high low = if pointwise nat_eq (high ∷ low ∷ []) done then None else Some (high * 256 + low)

abbrev pub t5_code : Option T5Answer → Option ℕ
t5_code (Some (Error code)) = Some code
t5_code answer = None

abbrev pub refusal_of : How → Signal → Option ℕ
refusal_of T2 r = if is_nfc_a r.tech && (pointwise nat_eq r.bytes (t2.nak ∷ []) && (r.tail == 4)) then Some 0 else None
refusal_of T4 r =
    if is_whole_a r && nat_le 2 (length r.bytes) then t4_code (slice_index r.bytes (length r.bytes - 2))
    (last_byte r.bytes)
    else None
refusal_of (T5 id) r = t5_code (spelled_answer r)

abbrev pub Refuses : How → Signal → ℕ → Type 0
Refuses how r code = refusal_of how r ≡ Some code

-- the error of a block that isn't there, behind the first block: the tag has ended, and refuses nothing
abbrev pub EndsTag : How → List (List ℕ) → Signal → Type 0
EndsTag T2 ps r = ⊥
EndsTag T4 ps r = ⊥
EndsTag (T5 id) ps r = (0 < length ps) × IsOne (ask_behind ps) × (r ≡ t5.answer_frame (t5_says.Error no_block))

-- the command behind some pieces, if it is refused, ends the reading
abbrev pub IsLast : How → List (List ℕ) → Type 0
IsLast T2 ps = Unit {0}
IsLast T4 ps = Unit {0}
IsLast (T5 id) ps = IsOne (ask_behind ps)

-- an answer that may not follow these pieces
pub record IsOdd (how : How) (ps : List (List ℕ)) (r : Signal) : Type 0 where
  pub no_piece : (p : List ℕ) → ¬ Brings how ps r p
  pub no_refusal : (code : ℕ) → ¬ Refuses how r code

-- A tag with this step, in this state, brings these pieces behind those before them.
abbrev pub IsBroughtBy : How → (TagState → Signal → TagStep) → TagState → List (List ℕ) → List (List ℕ) → Type 0
IsBroughtBy how step s before [] = Unit {0}
IsBroughtBy how step s before (p ∷ ps) =
    (r : Signal) × ((step s (next_command how before)).answer ≡ Some r) × Brings how before r p
    × IsBroughtBy how step (step s (next_command how before)).after (before ++ p ∷ []) ps

-- the tag as it is once it brought these pieces
abbrev pub tag_after : How → LinkView → List (List ℕ) → TagState
tag_after how a ps = after_all a.step a.state (asked_for how [] ps)

-- All that was answered between two views of a link brought these pieces.
pub record IsBrought (how : How) (a b : LinkView) (ps : List (List ℕ)) : Type 0 where
  pub pieces : IsBroughtBy how a.step a.state [] ps
  pub answered : b.answered ≡ a.answered ++ asked_for how [] ps

-- All but the last, whose answer was this; the link isn't over.
pub record IsStopped (how : How) (a b : LinkView) (ps : List (List ℕ)) (r : Signal) : Type 0 where
  pub pieces : IsBroughtBy how a.step a.state [] ps
  pub answer : (a.step (tag_after how a ps) (next_command how ps)).answer ≡ Some r
  pub answered : b.answered ≡ a.answered ++ (asked_for how [] ps ++ next_command how ps ∷ [])
  pub over : b.over ≡ None

-- The pieces of a Type 4 tag whose container is whole, and those of one whose container names a file with a message of
-- n bytes; the parts are of the message.
pub record HasHead (ps : List (List ℕ)) (head : List ℕ) : Type 0 where
  pub application : List ℕ
  pub container : List ℕ
  pub pieces : ps ≡ application ∷ container ∷ head ∷ []

pub record HasFile (ps : List (List ℕ)) (map' : FileMap) (n : ℕ) (parts : List (List ℕ)) : Type 0 where
  pub application : List ℕ
  pub container : List ℕ
  pub head : List ℕ
  pub file : List ℕ
  pub size : List ℕ
  pub pieces : ps ≡ application ∷ container ∷ head ∷ file ∷ size ∷ parts
  pub names : t4_container head ≡ Ok map'
  pub length' : n ≡ message_length size

-- a message of n bytes in these parts
pub record IsMessage (n : ℕ) (parts : List (List ℕ)) (message : List ℕ) : Type 0 where
  pub bytes : message ≡ joined parts
  pub size : length message ≡ n

abbrev pub FileSays : List (List ℕ) → Form → Type 0
FileSays ps (Faulty f) = (head : List ℕ) × HasHead ps head × (t4_container head ≡ Err f)
FileSays ps (Message m) = (map' : FileMap) × (n : ℕ) × (parts : List (List ℕ)) × HasFile ps map' n parts
    × (n ≤ map'.size - 2) × IsMessage n parts m
FileSays ps NoMessageTlv = ⊥
FileSays ps BadTlv = (map' : FileMap) × (n : ℕ) × HasFile ps map' n [] × (map'.size - 2 < n)

-- the bytes have the container of the tag whole
abbrev pub HasContainer : How → List ℕ → Type 0
HasContainer T2 bytes = Unit {0}
HasContainer T4 bytes = Unit {0}
HasContainer (T5 id) bytes = t5_is_open bytes ≡ false

-- the area that the pieces name, which may go on behind them, has this form by their bytes
pub record AreaSays (how : How) (ps : List (List ℕ)) (f : Form) : Type 0 where
  pub some : 0 < length ps
  pub whole : HasContainer how (joined ps)
  pub form : IsFormBy (area_of how (first_size ps) (joined ps)) (joined ps) f

-- what the pieces say
abbrev pub Says : How → List (List ℕ) → Form → Type 0
Says T2 ps f = AreaSays T2 ps f
Says T4 ps f = FileSays ps f
Says (T5 id) ps f = AreaSays (T5 id) ps f

-- where the message lies
abbrev pub SaysSite : How → List (List ℕ) → Site → Bool → Type 0
SaysSite T2 ps site writable = IsSite T2 (first_size ps) (joined ps) site writable
SaysSite T4 ps site writable = (map' : FileMap) × (n : ℕ) × (parts : List (List ℕ)) × HasFile ps map' n parts
    × (site ≡ File map') × (writable ≡ map'.writable)
SaysSite (T5 id) ps site writable = IsSite (T5 id) (first_size ps) (joined ps) site writable

-- A reading found this message: all that was answered brought pieces, and they say it.
pub record IsFoundBy (how : How) (a b : LinkView) (found : Found) : Type 0 where
  pub ps : List (List ℕ)
  pub brought : IsBrought how a b ps
  pub over : b.over ≡ None
  pub held : Says how ps (Message found.message)
  pub site : SaysSite how ps found.site found.writable

-- All that was answered brought pieces, and they say this form.
pub record IsSaid (how : How) (a b : LinkView) (f : Form) : Type 0 where
  pub ps : List (List ℕ)
  pub brought : IsBrought how a b ps
  pub over : b.over ≡ None
  pub says : Says how ps f

-- The tag has ended, and the pieces are all that it has: they say this form.
pub record IsCutOff (how : How) (a b : LinkView) (f : Form) : Type 0 where
  pub ps : List (List ℕ)
  pub r : Signal
  pub stopped : IsStopped how a b ps r
  pub ends : EndsTag how ps r
  pub form : IsT5Form (first_size ps) (joined ps) f

-- what a reading says that found none
abbrev pub IsNone : How → LinkView → LinkView → Form → Type 0
IsNone how a b f = IsSaid how a b f ⊎ IsCutOff how a b f

pub record IsRefused (how : How) (a b : LinkView) (code : ℕ) : Type 0 where
  pub ps : List (List ℕ)
  pub r : Signal
  pub stopped : IsStopped how a b ps r
  pub refuses : Refuses how r code
  pub last : IsLast how ps
  pub ends : ¬ EndsTag how ps r

pub record IsOddly (how : How) (a b : LinkView) : Type 0 where
  pub ps : List (List ℕ)
  pub r : Signal
  pub stopped : IsStopped how a b ps r
  pub odd : IsOdd how ps r

-- The link ended it, or the reader's own want of memory: all that was answered brought pieces. Where the link is over
-- and wasn't before, the command that follows them was asked, and it was the last.
pub record IsEndedBy (how : How) (a b : LinkView) (ends : Type 0) : Type 0 where
  pub ps : List (List ℕ)
  pub brought : IsBrought how a b ps
  pub ends' : ends
  pub asked : a.over ≡ None → (b.over ≡ None) ⊎ (b.last ≡ Some (next_command how ps))

-- Each fault, whatever the tag: of the tag's last answer, of what its pieces say, or of the link.
abbrev pub IsFaultBy : How → LinkView → LinkView → ReadFault → Type 0
IsFaultBy how a b fault.NotNdef = IsNone how a b (Faulty container.NotNdef)
IsFaultBy how a b fault.Version = IsNone how a b (Faulty container.Version)
IsFaultBy how a b fault.NoRead = IsNone how a b (Faulty container.NoRead)
IsFaultBy how a b fault.Sectors = IsNone how a b (Faulty container.Sectors)
IsFaultBy how a b fault.BadSize = IsNone how a b (Faulty container.BadSize)
IsFaultBy how a b fault.NoMessageTlv = IsNone how a b NoMessageTlv
IsFaultBy how a b fault.BadTlv = IsNone how a b BadTlv
IsFaultBy how a b (fault.Refused code) = IsRefused how a b code
IsFaultBy how a b fault.Protocol = IsOddly how a b ⊎ IsEndedBy how a b (ByLink a b ask.Protocol)
IsFaultBy how a b fault.FieldLost = IsEndedBy how a b (ByLink a b ask.FieldLost)
IsFaultBy how a b fault.SixBad = IsEndedBy how a b (ByLink a b ask.SixBad)
IsFaultBy how a b fault.Memory = IsEndedBy how a b ((b.over ≡ None) ⊎ ByLink a b ask.Memory)

-- what a reading tells, whatever the tag
abbrev pub IsToldBy : How → LinkView → LinkView → Result Found ReadFault → Type 0
IsToldBy how a b (Ok found) = IsFoundBy how a b found
IsToldBy how a b (Err e) = IsFaultBy how a b e

-- a reading tells this fault exactly where it stands in the tag's answers or in the link
abbrev pub TellsExactly : How → LinkView → LinkView → Result Found ReadFault → ReadFault → Type 0
TellsExactly how a b result e = IsErrOf result e ↔ IsFaultBy how a b e

abbrev pub TellsRefusals : How → LinkView → LinkView → Result Found ReadFault → Type 0
TellsRefusals how a b result = (code : ℕ) → TellsExactly how a b result (fault.Refused code)

-- it tells this form: its message, or its fault
abbrev pub IsFormTold : Form → Result Found ReadFault → Type 0
IsFormTold (Faulty container.NotNdef) result = IsErrOf result fault.NotNdef
IsFormTold (Faulty container.Version) result = IsErrOf result fault.Version
IsFormTold (Faulty container.NoRead) result = IsErrOf result fault.NoRead
IsFormTold (Faulty container.Sectors) result = IsErrOf result fault.Sectors
IsFormTold (Faulty container.BadSize) result = IsErrOf result fault.BadSize
IsFormTold (Message m) result = IsOkAnd result (λ found. found.message ≡ m)
IsFormTold NoMessageTlv result = IsErrOf result fault.NoMessageTlv
IsFormTold BadTlv result = IsErrOf result fault.BadTlv

-- What the pieces say is told, or the reader's own memory fails; of a tag that has ended nothing else is told.
abbrev pub TellsSaid : How → LinkView → LinkView → Result Found ReadFault → Type 0
TellsSaid how a b result = (f : Form) → IsSaid how a b f → IsFormTold f result ⊎ IsErrOf result fault.Memory

abbrev pub TellsCutOff : How → LinkView → LinkView → Result Found ReadFault → Type 0
TellsCutOff how a b result = (f : Form) → IsCutOff how a b f → IsFormTold f result
