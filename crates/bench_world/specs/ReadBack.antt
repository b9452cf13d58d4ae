-- A stored report can be read back: its lines tell their numbers and what they say.
use Rattle.std.specs.Prelude.{◌≡◌, ℕ, ◌<◌, ◌^◌, List, [], ◌∷◌}
use Rattle.nfc_base.specs.Signal.{IsSignal}
use Rattle.nfc_base.specs.declared.frame.Tech.{Tech}
use Rattle.nfc_base.specs.declared.event.Event.{Event}
use Rattle.nfc_base.specs.declared.event.Event.TheVariants.{Reset, Request, Answer, Clash}
use Rattle.bench_world.specs.declared.entry.Answer.{Answer as Said}
use Rattle.bench_world.specs.Report.{event_text, answer_text, line_text}

-- an event of this technology
abbrev pub IsOf : Tech → Event → Type 0
IsOf t Reset = Unit {0}
IsOf t (Request f x) = IsSignal f × (f.tech ≡ t)
IsOf t (Answer f x) = IsSignal f × (f.tech ≡ t)
IsOf t (Clash f x) = IsSignal f × (f.tech ≡ t)

-- each frame is one that may be on the air
abbrev pub AreOnAir : List Event → Type 0
AreOnAir [] = Unit {0}
AreOnAir (Reset ∷ es) = AreOnAir es
AreOnAir (Request f x ∷ es) = IsSignal f × AreOnAir es
AreOnAir (Answer f x ∷ es) = IsSignal f × AreOnAir es
AreOnAir (Clash f x ∷ es) = IsSignal f × AreOnAir es

-- Two events of one technology have one line only where they are equal. A line doesn't tell the technology; the command
-- does.
abbrev pub LinesTellEvents : Type 0
LinesTellEvents =
    (t : Tech) (n k : ℕ) (e f : Event) → n < 2 ^ 32 → k < 2 ^ 32 → IsOf t e → IsOf t f
    → line_text n (event_text e) ≡ line_text k (event_text f) → (n ≡ k) × (e ≡ f)

-- no answer's line is an event's
abbrev pub AnswersApart : Type 0
AnswersApart = (n k : ℕ) (e : Event) (a : Said) → n < 2 ^ 32 → k < 2 ^ 32
    → line_text n (event_text e) ≡ line_text k (answer_text a) → ⊥
