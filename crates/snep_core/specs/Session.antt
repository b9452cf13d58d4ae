-- One connection to a server: what its units do, and what goes out on it (NFC Forum SNEP 1.0; the table for get is this
-- project's own).
use Rattle.std.specs.Prelude.{◌<◌, ◌^◌, ℕ, ◌-◌, ◌==◌, nat_lt, nat_eq, List, [], ◌∷◌, ◌++◌, length, take, drop, Option}
use Rattle.std.specs.Prelude.{Some, None, if◌then◌else◌}
use Rattle.std.specs.Cmp.Lexicographic.{pointwise}
use Rattle.snep_core.specs.declared.message.Answer.TheVariants as answers
use Rattle.snep_core.specs.declared.message.Request.{Request}
use Rattle.snep_core.specs.declared.message.Request.TheVariants.{Get, Put}
use Rattle.snep_core.specs.declared.first.First.{First}
use Rattle.snep_core.specs.declared.first.First.TheVariants.{Says, GoesOn, Drops, Whole, Partly}
use Rattle.snep_core.specs.declared.session.Due.{Due}
use Rattle.snep_core.specs.declared.session.Due.TheVariants.{Tells, Forgets}
use Rattle.snep_core.specs.declared.session.Word.{Word}
use Rattle.snep_core.specs.declared.session.Word.TheVariants.{Answers, Offers, Resumes}
use Rattle.snep_core.specs.Message.{header_size, number, message}
use Rattle.snep_core.specs.First.{info_of, first_of}

-- a request of which units are still to come: how many bytes of its information these have, and what is there of it
pub record Gathering : Type 0 where
  pub request : Request
  pub left : ℕ
  pub info : List ℕ

-- A connection: what is gathered; what is to be sent for what came, in the order in which it arose; what waits for a
-- continue; and what is being sent.
pub record Session : Type 0 where
  pub gathered : Option Gathering
  pub due : List Due
  pub waiting : List ℕ
  pub going : List ℕ

abbrev pub fresh_session : Session
fresh_session = record { gathered = None; due = []; waiting = []; going = [] }

-- a key with its value
pub record Offer : Type 0 where
  pub key : List ℕ
  pub value : List ℕ

-- each value is so short that four bytes say how long it is
abbrev pub AreShort : List Offer → Type 0
AreShort [] = Unit {0}
AreShort (o ∷ os) = (length o.value < 2 ^ 32) × AreShort os

-- the value of a key
abbrev pub value_of : List ℕ → List Offer → Option (List ℕ)
value_of key [] = None
value_of key (o ∷ os) = if pointwise nat_eq o.key key then Some o.value else value_of key os

-- what a get is answered that takes a value of at most so many bytes
abbrev pub got : ℕ → Option (List ℕ) → Word
got most None = Answers answers.NotFound
got most (Some value) = if nat_lt most (length value) then Answers answers.Excess
    else Offers (message answers.Success value)

-- a get has four bytes that say how long a value it takes, and then the key
abbrev pub gets : List Offer → List ℕ → Word
gets [] info = Answers answers.NotImplemented
gets (o ∷ os) (a ∷ b ∷ c ∷ d ∷ key) = got (number a b c d) (value_of key (o ∷ os))
gets (o ∷ os) _ = Answers answers.BadRequest

-- what one unit does: the session after it, and the message that is accepted, if one is
pub record Did : Type 0 where
  pub session : Session
  pub accepts : Option (List ℕ)

-- nothing is gathered any more, and one thing more is due
abbrev pub with_due : Session → Due → Session
with_due x due = record x { gathered = None; due = x.due ++ due ∷ [] }

abbrev pub says : Session → Due → Did
says x due = record { session = with_due x due; accepts = None }

-- a whole request
abbrev pub obeys : List Offer → Session → Request → List ℕ → Did
obeys table x Get info = says x (Tells (gets table info))
obeys table x Put info = record { session = with_due x (Tells (Answers answers.Success)); accepts = Some info }

abbrev pub gathers : Session → Request → ℕ → List ℕ → Did
gathers x request left info =
    record {
      session = record x { gathered = Some (record { request = request; left = left; info = info }) };
      accepts = None;
    }

-- A first unit. One with a part of its information is answered by continue.
abbrev pub first_did : List Offer → Session → First → List ℕ → Did
first_did table x (Says answer) info = says x (Tells (Answers answer))
first_did table x GoesOn info = says x (Tells Resumes)
first_did table x Drops info = says x Forgets
first_did table x (Whole request) info = obeys table x request info
first_did table x (Partly request left) info = gathers (with_due x (Tells (Answers answers.Continue))) request left info

-- a later unit: too much, what was missing, or a part of it
abbrev pub later_did : List Offer → Session → Gathering → List ℕ → Did
later_did table x g unit =
    if nat_lt g.left (length unit) then says x (Tells (Answers answers.BadRequest))
    else if g.left == length unit then obeys table x g.request (g.info ++ unit)
    else gathers x g.request (g.left - length unit) (g.info ++ unit)

abbrev pub did_by : ℕ → List Offer → Session → Option Gathering → List ℕ → Did
did_by limit table x None unit = first_did table x (first_of limit unit) (info_of unit)
did_by limit table x (Some g) unit = later_did table x g unit

abbrev pub did : ℕ → List Offer → Session → List ℕ → Did
did limit table x unit = did_by limit table x x.gathered unit

-- what is sent next, and the session behind it
pub record Sent : Type 0 where
  pub session : Session
  pub unit : Option (List ℕ)

-- bytes go out in units of at most so many
abbrev pub goes : ℕ → Session → List ℕ → Sent
goes miu x bytes = record { session = record x { going = drop miu bytes }; unit = Some (take miu bytes) }

-- What goes out for what came. An answer drops what waits. Of a value all behind its first unit waits. A continue sets
-- free what waits; where nothing does, it is a bad request. Whether anything waits shows only here, since a value is
-- cut only when it goes out.
abbrev pub sent_word : ℕ → Session → Word → Sent
sent_word miu x (Answers answer) = goes miu (record x { waiting = [] }) (message answer [])
sent_word miu x (Offers bytes) = record {
  session = record x { waiting = drop miu bytes };
  unit = Some (take miu bytes);
}
sent_word miu x Resumes =
    if length x.waiting == 0 then goes miu x (message answers.BadRequest [])
    else goes miu (record x { waiting = [] }) x.waiting

-- how many bytes that is, where so many wait
abbrev pub word_len : ℕ → Word → ℕ
word_len waiting (Answers answer) = header_size
word_len waiting (Offers bytes) = length bytes
word_len waiting Resumes = if waiting == 0 then header_size else waiting

-- how many bytes the oldest of what is due has that says something, where so many wait
abbrev pub due_len : ℕ → List Due → Option ℕ
due_len waiting [] = None
due_len waiting (Tells word ∷ more) = Some (word_len waiting word)
due_len waiting (Forgets ∷ more) = due_len 0 more

-- the oldest of what is due that says something, and the session without it
pub record Popped : Type 0 where
  pub session : Session
  pub word : Option Word

abbrev pub popped : Session → List Due → Popped
popped x [] = record { session = record x { due = [] }; word = None }
popped x (Tells word ∷ more) = record { session = record x { due = more }; word = Some word }
popped x (Forgets ∷ more) = popped (record x { waiting = [] }) more

abbrev pub sent_popped : ℕ → Session → Option Word → Sent
sent_popped miu x None = record { session = x; unit = None }
sent_popped miu x (Some word) = sent_word miu x word

abbrev pub sent_due : ℕ → Session → List Due → Sent
sent_due miu x due = sent_popped miu (popped x due).session (popped x due).word

-- what is being sent goes first
abbrev pub sent_from : ℕ → Session → List ℕ → Sent
sent_from miu x [] = sent_due miu x x.due
sent_from miu x (b ∷ bs) = goes miu x (b ∷ bs)

abbrev pub sent : ℕ → Session → Sent
sent miu x = sent_from miu x x.going

-- the session once it was asked for a unit: where there is none, nothing changes
abbrev pub after_asked : Session → Session → Option (List ℕ) → Session
after_asked old new None = old
after_asked old new (Some u) = new

abbrev pub after_sent : ℕ → Session → Session
after_sent miu x = after_asked x (sent miu x).session (sent miu x).unit
