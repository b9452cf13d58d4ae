-- What a reader asks of a selected tag, by what it has heard since: of a Type 4 tag its activation and then blocks, of
-- the others each command in a wait of its own (NFC Forum Digital Protocol; ISO/IEC 14443-4).
use Rattle.std.specs.Prelude.{ℕ, zero, suc, nat_lt, List, [], ◌∷◌, if◌then◌else◌, Option, Some, None}
use Rattle.nfc_base.specs.Signal.{Signal}
use Rattle.nfc_base.specs.declared.event.Heard.{Heard}
use Rattle.nfc_base.specs.declared.event.Heard.TheVariants.{Whole, Collided, Damaged, Silent}
use Rattle.nfc_base.specs.declared.tag_link.AskFault.TheVariants.{FieldLost, SixBad, Protocol}
use Rattle.air_core.specs.Conversation.{Note, Lit, Got, Lost, Next, Over, Asks}
use Rattle.air_core.specs.Waits.{waits_next}
use Rattle.isodep_link.specs.Asking as exchange
use Rattle.isodep_link.specs.Reader.{waiting}
use Rattle.isodep_link.specs.Activating.{rats, ats_code}
use Rattle.isodep_link.specs.IsoLinks.{bytes_of}
use Rattle.bench_devices.specs.declared.polling.SeenKind.{SeenKind}
use Rattle.bench_devices.specs.declared.polling.SeenKind.TheVariants as seen

-- Where a reader stands with a Type 4 tag: RATS is sent, after so many bad receptions; or the commands are asked.
pub data CardStanding : Type 0 where
  Activates : ℕ → CardStanding
  Exchanges : exchange.IsoStanding → CardStanding

-- The commands are asked once the tag told its size code.
abbrev pub told_code : List (List ℕ) → Option ℕ → CardStanding
told_code commands None = Exchanges (exchange.Broken Protocol)
told_code commands (Some code) = Exchanges (exchange.asks (waiting code) commands)

-- RATS is sent again after each bad reception but the sixth.
abbrev pub bad_again : ℕ → CardStanding
bad_again bad = if nat_lt bad 5 then Activates (suc bad) else Exchanges (exchange.Broken SixBad)

abbrev pub heard_ats : List (List ℕ) → ℕ → Heard → CardStanding
heard_ats commands bad (Whole f) = told_code commands (ats_code f)
heard_ats commands bad (Collided f) = bad_again bad
heard_ats commands bad Damaged = bad_again bad
heard_ats commands bad Silent = bad_again bad

abbrev pub card_noted : List (List ℕ) → CardStanding → Note → CardStanding
card_noted commands (Activates bad) Lit = Exchanges exchange.Astray
card_noted commands (Activates bad) (Got h) = heard_ats commands bad h
card_noted commands (Activates bad) Lost = Exchanges (exchange.Broken FieldLost)
card_noted commands (Exchanges s) n = Exchanges (exchange.noted s n)

abbrev pub card_stand : List (List ℕ) → CardStanding → List Note → CardStanding
card_stand commands s [] = s
card_stand commands s (n ∷ ns) = card_stand commands (card_noted commands s n) ns

abbrev pub card_due : CardStanding → Next
card_due (Activates bad) = Asks rats
card_due (Exchanges s) = exchange.due_at s

-- where a reader stands that activates a tag and asks these commands of it, and what is due then
abbrev pub card_stands : List Signal → List Note → CardStanding
card_stands commands ns = card_stand (bytes_of commands) (Activates zero) ns

abbrev pub card_next : List Signal → List Note → Next
card_next commands ns = card_due (card_stands commands ns)

-- what is due behind the selection of a tag that is seen to be of this kind, of which these commands are asked
abbrev pub tag_next : SeenKind → List Signal → List Note → Next
tag_next seen.T2 commands ns = waits_next commands ns
tag_next seen.T4 commands ns = card_next commands ns
tag_next seen.T5 commands ns = waits_next commands ns
tag_next seen.Peer commands ns = Over
