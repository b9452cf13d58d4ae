-- What stands in the log of an end of a link, one entry behind the other, and an end behind all of them (how C keeps
-- them is this project's own).
use Rattle.std.specs.Prelude.{◌≡◌, ◌<◌, ℕ, ◌==◌, nat_le, not, if◌then◌else◌, List, [], ◌∷◌, ◌++◌, length, Option, Some}
use Rattle.std.specs.Prelude.{None}
use Rattle.nfc_base.specs.Signal.{whole_a}
use Rattle.nfc_base.specs.declared.event.Heard.{Heard}
use Rattle.nfc_base.specs.declared.event.Heard.TheVariants as hears
use Rattle.zevlodek_c.specs.declared.showing.Told.{Told}
use Rattle.zevlodek_c.specs.Codes.{bad_log}
use Rattle.zevlodek_c.specs.Log.{counted}
use Rattle.zevlodek_c.specs.Showing.{Seen, answers}
use Rattle.zevlodek_c.specs.Spelled.{Spelled}

-- An entry: which kind of thing it is, and its bytes.
pub record Entry : Type 0 where
  pub kind : ℕ
  pub content : List ℕ

-- an entry that begins a log
pub record SpellsEntry (e : Entry) (log rest : List ℕ) : Type 0 where
  pub bytes : log ≡ e.kind ∷ counted e.content ++ rest
  pub short : length e.content < 65536

abbrev pub SpellsEntries : List Entry → List ℕ → Type 0
SpellsEntries es log = Spelled SpellsEntry es log

abbrev pub IsEntryLog : List ℕ → Type 0
IsEntryLog log = (es : List Entry) × SpellsEntries es log

-- The kinds: what an end is to send whole, a command or a payload; a frame that came whole; a frame that came damaged;
-- nothing came; the reply to what an end was handed.
abbrev pub begins_with : ℕ
begins_with = 0

abbrev pub a_frame : ℕ
a_frame = 1

abbrev pub a_damaged_one : ℕ
a_damaged_one = 2

abbrev pub nothing : ℕ
nothing = 3

abbrev pub a_reply : ℕ
a_reply = 4

-- the most bytes of a frame
abbrev pub most_frame : ℕ
most_frame = 288

-- what was heard of the frame that was sent last, where an entry says that
abbrev pub heard_of : Entry → Option Heard
heard_of e =
    if e.kind == a_frame
    then (if nat_le (length e.content) most_frame then Some (hears.Whole (whole_a e.content)) else None)
    else if not (length e.content == 0) then None
    else if e.kind == a_damaged_one then Some hears.Damaged
    else if e.kind == nothing then Some hears.Silent
    else None

-- An end takes one entry after the other, as far as it can.
abbrev pub takes_all : {N : Type 0} → (N → Entry → Option N) → Option N → List Entry → Option N
takes_all takes n [] = n
takes_all takes None (e ∷ es) = None
takes_all takes (Some n) (e ∷ es) = takes_all takes (takes n e) es

-- what C sees of an end, if there is one behind the log
abbrev pub end_shown : {N : Type 0} → (N → List ℕ → Told → Seen) → Option N → List ℕ → Told → Seen
end_shown shown None out told = answers bad_log out told
end_shown shown (Some n) out told = shown n out told

-- What C sees of an end that began so and took what stands in a log.
pub record EndTells {N : Type 0} (takes : N → Entry → Option N) (begins : N) (shown : N → List ℕ → Told → Seen)
    (log out : List ℕ) (told : Told) (seen : Seen) : Type 0 where
  pub taken : (es : List Entry) → SpellsEntries es log
      → seen ≡ end_shown shown (takes_all takes (Some begins) es) out told
  pub no_log : (IsEntryLog log → ⊥) → seen ≡ answers bad_log out told

-- the end itself behind the log, if it takes all of it
pub record Replays {N : Type 0} (takes : N → Entry → Option N) (begins : N) (log : List ℕ) (result : Option N)
    : Type 0 where
  pub same : (es : List Entry) → SpellsEntries es log → result ≡ takes_all takes (Some begins) es
  pub none : (IsEntryLog log → ⊥) → result ≡ None
