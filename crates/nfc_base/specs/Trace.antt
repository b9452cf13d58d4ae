-- Traces, and what a reader hears of them. The air and its fates are this project's own; a listener speaks only
-- when it is asked (NFC Forum Digital Protocol).
use Rattle.std.specs.Prelude.{ℕ, ◌+◌, List, [], ◌∷◌, Bool, true, false, Option, Some, None}
use Rattle.nfc_base.specs.Signal.{Signal}
use Rattle.nfc_base.specs.declared.event.Event.{Event}
use Rattle.nfc_base.specs.declared.event.Event.TheVariants.{Reset, Request, Answer, Clash}
use Rattle.nfc_base.specs.declared.event.Fate.{Fate}
use Rattle.nfc_base.specs.declared.event.Fate.TheVariants.{Pass, Damage, Lose, Break}
use Rattle.nfc_base.specs.declared.event.Heard.{Heard}
use Rattle.nfc_base.specs.declared.event.Heard.TheVariants.{Whole, Collided, Damaged, Silent}

-- what comes back of a request: nothing, an answer or a clash, with its fate
pub data Back : Type 0 where
  Nothing : Back
  Single : Signal → Fate → Back
  Clashing : Signal → Fate → Back

-- what came back of a request, by the events behind it: the answer or clash that directly follows it, if there is one
abbrev pub back_of : List Event → Back
back_of [] = Nothing
back_of (Reset ∷ es) = Nothing
back_of (Request f x ∷ es) = Nothing
back_of (Answer g x ∷ es) = Single g x
back_of (Clash g x ∷ es) = Clashing g x

-- a turn: a request with its fate, and what came back
pub record Turn : Type 0 where
  pub request : Signal
  pub fate : Fate
  pub back : Back

-- the turns of some events, in order
abbrev pub turns : List Event → List Turn
turns [] = []
turns (Reset ∷ es) = turns es
turns (Request f x ∷ es) = record { request = f; fate = x; back = back_of es } ∷ turns es
turns (Answer g x ∷ es) = turns es
turns (Clash g x ∷ es) = turns es

-- What a fate does to a transmission: what there is where it reaches its hearers, where it doesn't, and where the field
-- goes dark. What the events of a turn are, what they change and what is heard of it stand on this table and the next.
abbrev pub by_fate : {X : Type 0} → Fate → X → X → X → X
by_fate Pass reached missed dark = reached
by_fate Damage reached missed dark = missed
by_fate Lose reached missed dark = missed
by_fate Break reached missed dark = dark

-- what the reader hears of what comes back, which is this where it passes; none where the field was lost
abbrev pub heard_at : Fate → Heard → Option Heard
heard_at Pass h = Some h
heard_at Damage h = Some Damaged
heard_at Lose h = Some Silent
heard_at Break h = None

abbrev pub heard_back : Back → Option Heard
heard_back Nothing = Some Silent
heard_back (Single g x) = heard_at x (Whole g)
heard_back (Clashing g x) = heard_at x (Collided g)

-- What was heard of a turn, by the fate of its request and what came back. Of a request that reaches nobody it is
-- silence.
abbrev pub heard_by : Fate → Back → Option Heard
heard_by x b = by_fate x (heard_back b) (Some Silent) None

-- what was heard of a turn
abbrev pub heard : Turn → Option Heard
heard t = heard_by t.fate t.back

-- What was heard of a turn, sorted: a whole frame, the first bits of a clash, damage, silence, or a loss of the field.
-- What is told by what was heard of turns stands on this table.
abbrev pub by_heard : {X : Type 0} → Option Heard → (Signal → X) → (Signal → X) → X → X → X → X
by_heard (Some (Whole g)) whole clash damage silence lost = whole g
by_heard (Some (Collided g)) whole clash damage silence lost = clash g
by_heard (Some Damaged) whole clash damage silence lost = damage
by_heard (Some Silent) whole clash damage silence lost = silence
by_heard None whole clash damage silence lost = lost

-- what was heard of it is a whole frame; the first bits of a clash; damage; silence
abbrev pub is_whole : Option Heard → Bool
is_whole o = by_heard o (λ g. true) (λ g. false) false false false

abbrev pub is_clash : Option Heard → Bool
is_clash o = by_heard o (λ g. false) (λ g. true) false false false

abbrev pub is_damage : Option Heard → Bool
is_damage o = by_heard o (λ g. false) (λ g. false) true false false

abbrev pub is_silence : Option Heard → Bool
is_silence o = by_heard o (λ g. false) (λ g. false) false true false

-- inside a wait a collided reception counts as damaged
abbrev pub is_bad_in_wait : Heard → Bool
is_bad_in_wait (Whole g) = false
is_bad_in_wait (Collided g) = true
is_bad_in_wait Damaged = true
is_bad_in_wait Silent = true

abbrev pub other_than_pass : Fate → ℕ
other_than_pass x = by_fate x 0 1 1

abbrev pub of_break : Fate → ℕ
of_break x = by_fate x 0 0 1

-- how many transmissions have a fate for which this counts
abbrev pub transmissions : (Fate → ℕ) → List Event → ℕ
transmissions count [] = 0
transmissions count (Reset ∷ es) = transmissions count es
transmissions count (Request f x ∷ es) = count x + transmissions count es
transmissions count (Answer g x ∷ es) = count x + transmissions count es
transmissions count (Clash g x ∷ es) = count x + transmissions count es

-- how many transmissions of some events have another fate than Pass
abbrev pub noise : List Event → ℕ
noise es = transmissions other_than_pass es

-- how many lose the field
abbrev pub breaks : List Event → ℕ
breaks es = transmissions of_break es
