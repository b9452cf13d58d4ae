-- What is found in the text of an event: its parts, where it is such a text. (The form of a report is this project's
-- own.)
use Rattle.std.specs.Prelude.{◌≡◌, ℕ, ◌<◌, ◌^◌, List, Option, Some}
use Rattle.nfc_base.specs.Signal.{Signal, IsSignal}
use Rattle.nfc_base.specs.declared.frame.Tech.{Tech}
use Rattle.nfc_base.specs.declared.event.Event.{Event}
use Rattle.nfc_base.specs.declared.event.Fate.{Fate}
use Rattle.bench_script.specs.Canonical.{hex_text, frame_text}
use Rattle.bench_world.specs.Report.{sent_text, event_text, line_text}
use Rattle.bench_world.specs.ReadBack.{IsOf}

-- what the text is of is found
abbrev pub Finds : {T : Type 0} → (T → Type 0) → Option T → Type 0
Finds {T} Is found = (x : T) → Is x → found ≡ Some x

-- A frame of this technology and this tail has these digits, or `-` where it has no bytes.
pub record IsDigitsOf (tech : Tech) (digits : List ℕ) (tail : ℕ) (f : Signal) : Type 0 where
  pub on_air : IsSignal f
  pub technology : f.tech ≡ tech
  pub is : digits ≡ hex_text f.bytes
  pub part : f.tail ≡ tail

-- The word is that of a frame of this technology.
pub record IsWordOf (tech : Tech) (word : List ℕ) (f : Signal) : Type 0 where
  pub on_air : IsSignal f
  pub technology : f.tech ≡ tech
  pub is : word ≡ frame_text f

-- The text is that of a transmission of this technology.
pub record IsSentOf (tech : Tech) (text : List ℕ) (x : Signal × Fate) : Type 0 where
  pub on_air : IsSignal x.0
  pub technology : x.0.tech ≡ tech
  pub is : text ≡ sent_text x.0 x.1

-- ... of an event
pub record IsTextOf (tech : Tech) (text : List ℕ) (e : Event) : Type 0 where
  pub of : IsOf tech e
  pub is : text ≡ event_text e

-- ... and this the line of one, of whatever number
pub record IsLineOf (tech : Tech) (text : List ℕ) (e : Event) : Type 0 where
  pub of : IsOf tech e
  pub number : ℕ
  pub small : number < 2 ^ 32
  pub is : text ≡ line_text number (event_text e)
