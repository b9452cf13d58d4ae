-- Exchanges of ISO-DEP one after another, from the activation of a card on (this project's own air).
use Rattle.std.specs.Prelude.{ℕ, List, []}
use Rattle.std.specs.List.{AllByRecursion}
use Rattle.nfc_base.specs.Sessions.{Attempt, Fits, DeliversAll, unasked, session, asked_in}
use Rattle.isodep_link.specs.Sizes.{limit}
use Rattle.isodep_link.specs.Card.{CardState, activated}
use Rattle.isodep_link.specs.Reader.{waiting}
use Rattle.isodep_link.specs.Exchange.{iso_dep, Exchange, IsReady, IsMade, next_exchange}

-- A card that heard nothing else has answered RATS of a reader with this size code, and was asked nothing yet.
abbrev pub activated_link : CardState → ℕ → Exchange
activated_link t reader_code = unasked (waiting t.code) (activated t reader_code).state

-- From the activation of a card on both ends are in step, however much more time it asks for.
abbrev pub ActivatedReady : Type 0
ActivatedReady = (t : CardState) (reader_code : ℕ) → IsMade t → IsReady (activated_link t reader_code)

-- And it obeys what was asked, one command after another.
abbrev pub ActivatedObeys : Type 0
ActivatedObeys =
    (t : CardState) (reader_code : ℕ) (qs : List Attempt) → IsMade t → AllByRecursion (Fits limit) qs
    → DeliversAll [] (asked_in iso_dep next_exchange (activated_link t reader_code) qs)
    (session iso_dep next_exchange (activated_link t reader_code) qs)
