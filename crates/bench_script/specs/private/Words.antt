-- Words cut off the front of a text.
use Rattle.std.specs.Prelude.{◌≡◌, ◌≢◌, ◌<◌, ◌++◌, ℕ, List, [], ◌∷◌, codes, Option, Some, None}
use Rattle.bench_script.specs.declared.script.words.CommandName.{CommandName}
use Rattle.bench_script.specs.declared.script.words.CommandName.TheVariants as names
use Rattle.std.specs.Borrow.{Bor}
use Rattle.bench_script.specs.declared.command.Command.{Command}
use Rattle.std.specs.List.{All}
use Rattle.bench_script.specs.Script.{words_of, tail_text, SpelledBy, SpellsCounted, SpellsHex}

-- the first word, and the text behind its space, where there is one
abbrev pub CutsWord : List ℕ → List ℕ → Option (List ℕ) → Type 0
CutsWord text word None = words_of text ≡ word ∷ []
CutsWord text word (Some rest) = words_of text ≡ word ∷ words_of rest

-- P holds of none
abbrev pub NoneOf : {T : Type 0} → (T → Type 0) → Type 0
NoneOf {T} P = (x : T) → P x → ⊥

-- the word spells no bytes
pub record SpellsNoHex (word : List ℕ) : Type 0 where
  pub none : (bytes : List ℕ) → SpellsHex word bytes → ⊥

-- the words spell no command
abbrev pub SpellsNone : List (List ℕ) → Type 0
SpellsNone ws = (c : Command) → SpelledBy ws c → ⊥

-- these are its words
abbrev pub AreThree : List (List ℕ) → Bor (List ℕ) × Bor (List ℕ) × Bor (List ℕ) → Type 0
AreThree ws x = ws ≡ x.0.now ∷ x.1.now ∷ x.2.now ∷ []

abbrev pub AreFour : List (List ℕ) → Bor (List ℕ) × Bor (List ℕ) × Bor (List ℕ) × Bor (List ℕ) → Type 0
AreFour ws x = ws ≡ x.0.now ∷ x.1.now ∷ x.2.now ∷ x.3.now ∷ []

abbrev pub AreFive : List (List ℕ) → Bor (List ℕ) × Bor (List ℕ) × Bor (List ℕ) × Bor (List ℕ) × Bor (List ℕ) → Type 0
AreFive ws x = ws ≡ x.0.now ∷ x.1.now ∷ x.2.now ∷ x.3.now ∷ x.4.now ∷ []

-- it isn't one word
abbrev pub NotOne : List (List ℕ) → Type 0
NotOne ws = (a : List ℕ) → ws ≡ a ∷ [] → ⊥

-- ... or two
abbrev pub NotTwo : List (List ℕ) → Type 0
NotTwo ws = (a b : List ℕ) → ws ≡ a ∷ b ∷ [] → ⊥

-- ... or three
abbrev pub NotThree : List (List ℕ) → Type 0
NotThree ws = (a b c : List ℕ) → ws ≡ a ∷ b ∷ c ∷ [] → ⊥

-- ... or four
abbrev pub NotFour : List (List ℕ) → Type 0
NotFour ws = (a b c d : List ℕ) → ws ≡ a ∷ b ∷ c ∷ d ∷ [] → ⊥

-- ... or five
abbrev pub NotFive : List (List ℕ) → Type 0
NotFive ws = (a b c d e : List ℕ) → ws ≡ a ∷ b ∷ c ∷ d ∷ e ∷ [] → ⊥

-- no colon is in it
abbrev pub HasNoColon : List ℕ → Type 0
HasNoColon text = All (λ b. b ≢ 58) text

-- these stand before and behind its first colon
abbrev pub IsCutAtColon : List ℕ → Bor (List ℕ) × Bor (List ℕ) → Type 0
IsCutAtColon text x = (text ≡ x.0.now ++ 58 ∷ x.1.now) × HasNoColon x.0.now

-- the word spells no counted bytes
abbrev pub SpellsNoCount : List ℕ → Type 0
SpellsNoCount word = (count start : ℕ) → SpellsCounted word count start → ⊥

-- the first word of a line of several words
abbrev pub name_text : CommandName → List ℕ
name_text names.Fates = codes "fates"
name_text names.Place = codes "place"
name_text names.Lock = codes "lock"
name_text names.Busy = codes "busy"
name_text names.Offer = codes "offer"
name_text names.Remove = codes "remove"
name_text names.Dump = codes "dump"
name_text names.Inbox = codes "inbox"
name_text names.Read = codes "read"
name_text names.Read3 = codes "read3"
name_text names.Write = codes "write"
name_text names.Write3 = codes "write3"
name_text names.Link = codes "link"
name_text names.Forge = codes "forge"
name_text names.Raw = codes "raw"
name_text names.Put = codes "put"
name_text names.Get = codes "get"
name_text names.Lookup = codes "lookup"
name_text names.On = codes "on"
name_text names.Puts = codes "puts"

-- a frame's word is cut into its digits and how many bits of the last byte are sent, 0 where it doesn't say
pub record CutsTail (word digits : List ℕ) (tail : ℕ) : Type 0 where
  pub is : word ≡ digits ++ tail_text tail
  pub small : tail < 8
  pub alone : (front : List ℕ) (other : ℕ) → 0 < other → other < 8 → word ≡ front ++ tail_text other → other ≡ tail
