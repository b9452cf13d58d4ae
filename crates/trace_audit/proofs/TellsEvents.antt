-- What a report's text tells of the events of an entry: where it begins with the lines of some events, the entry does with these.
use Rattle.std.proofs.Common.{◌≡◌, ℕ, ◌<◌, ◌^◌, List, [], ◌∷◌, ◌++◌, append_assoc, refl, sym, ◌∙◌, ap, subst, arith}
use Rattle.nfc_base.specs.Signal.{Signal, IsSignal, signal}
use Rattle.nfc_base.specs.declared.frame.Tech.{Tech}
use Rattle.nfc_base.specs.declared.frame.Tech.TheVariants.{A}
use Rattle.nfc_base.specs.declared.event.Event.{Event}
use Rattle.nfc_base.specs.declared.event.Event.TheVariants.{Reset, Request, Answer, Clash}
use Rattle.nfc_base.specs.declared.event.Fate.{Fate}
use Rattle.nfc_base.specs.declared.event.Fate.TheVariants.{Pass}
use Rattle.bench_script.specs.declared.command.Command.{Command}
use Rattle.bench_world.specs.declared.entry.Answer.{Answer as Said}
use Rattle.bench_world.specs.ReadBack.{IsOf}
use Rattle.bench_world.specs.Report.{answer_text, event_text, events_text, line_text}
use Rattle.trace_audit.specs.Reading.{AreOnAir, HaveTech, sent_tech}
use Rattle.trace_audit.proofs.CleanLines.{said, event_clean, answer_clean}
use Rattle.trace_audit.proofs.FirstLines.{one_line}
use Rattle.trace_audit.proofs.Laws.{answers_apart, lines_tell}

-- Lines don't tell a technology, so an event has the line that it would have in NFC-A.
in_a : Event → Event
in_a Reset = Reset
in_a (Request f x) = Request (signal A f.bytes f.tail) x
in_a (Answer f x) = Answer (signal A f.bytes f.tail) x
in_a (Clash f x) = Clash (signal A f.bytes f.tail) x

text_in_a : (e : Event) → event_text (in_a e) ≡ event_text e
unfolding in_a
text_in_a Reset = refl
text_in_a (Request f x) = refl
text_in_a (Answer f x) = refl
text_in_a (Clash f x) = refl

signal_in_a : (f : Signal) → IsSignal f → IsSignal (signal A f.bytes f.tail)
signal_in_a f is = record { fits = is.fits; bytes = is.bytes; small = is.small; held = is.held; unused = is.unused }

is_in_a : (e : Event) (es : List Event) → AreOnAir (e ∷ es) → IsOf A (in_a e)
unfolding in_a
is_in_a Reset es air = tt
is_in_a (Request f x) es air = (signal_in_a f air.0, refl)
is_in_a (Answer f x) es air = (signal_in_a f air.0, refl)
is_in_a (Clash f x) es air = (signal_in_a f air.0, refl)

-- what an event is, but for the technology
kind : Event → ℕ
kind Reset = 0
kind (Request f x) = 1
kind (Answer f x) = 2
kind (Clash f x) = 3

bytes_in : Event → List ℕ
bytes_in Reset = []
bytes_in (Request f x) = f.bytes
bytes_in (Answer f x) = f.bytes
bytes_in (Clash f x) = f.bytes

tail_in : Event → ℕ
tail_in Reset = 0
tail_in (Request f x) = f.tail
tail_in (Answer f x) = f.tail
tail_in (Clash f x) = f.tail

fate_in : Event → Fate
fate_in Reset = Pass
fate_in (Request f x) = x
fate_in (Answer f x) = x
fate_in (Clash f x) = x

told_in_a : (n : ℕ) (x y : Event) (es fs : List Event) → n < 2 ^ 32 → AreOnAir (x ∷ es) → AreOnAir (y ∷ fs) → line_text n (event_text x) ≡ line_text n (event_text y) → in_a x ≡ in_a y
told_in_a n x y es fs small air air_by same =
    (lines_tell A n n (in_a x) (in_a y) small small (is_in_a x es air) (is_in_a y fs air_by)
    (ap (line_text n) (text_in_a x) ∙ same ∙ ap (line_text n) (sym (text_in_a y)))).1

same_frame : (f g : Signal) → f.tech ≡ g.tech → f.bytes ≡ g.bytes → f.tail ≡ g.tail → f ≡ g
same_frame f g tech bytes tail = ap (λ x. signal x f.bytes f.tail) tech ∙ ap (λ x. signal g.tech x f.tail) bytes ∙ ap (λ x. signal g.tech g.bytes x) tail

-- Events of one command that have one line are the same, and both go on from it in the same technology.
pub record SameEvent (c : Command) (x y : Event) (es fs : List Event) : Type 0 where
  pub same : x ≡ y
  pub tech : Tech
  pub one : HaveTech c tech es
  pub other : HaveTech c tech fs

module _ (c : Command) (last : Tech) (es fs : List Event) where
  same_request : (f g : Signal) (x y : Fate) → HaveTech c last (Request f x ∷ es) → HaveTech c last (Request g y ∷ fs) → f.bytes ≡ g.bytes → f.tail ≡ g.tail → x ≡ y
      → SameEvent c (Request f x) (Request g y) es fs
  same_request f g x y p q bytes tail fate =
      let tech : f.tech ≡ g.tech = p.0 ∙ ap (λ b. sent_tech c b f.tail) bytes ∙ ap (sent_tech c g.bytes) tail ∙ sym q.0 in
      record {
        same = ap (λ h. Request h x) (same_frame f g tech bytes tail) ∙ ap (Request g) fate;
        tech = g.tech;
        one = subst (λ t. HaveTech c t es) tech p.1;
        other = q.1;
      }

  same_answer : (f g : Signal) (x y : Fate) → HaveTech c last (Answer f x ∷ es) → HaveTech c last (Answer g y ∷ fs) → f.bytes ≡ g.bytes → f.tail ≡ g.tail → x ≡ y
      → SameEvent c (Answer f x) (Answer g y) es fs
  same_answer f g x y p q bytes tail fate =
      record { same = ap (λ h. Answer h x) (same_frame f g (p.0 ∙ sym q.0) bytes tail) ∙ ap (Answer g) fate; tech = last; one = p.1; other = q.1 }

  same_clash : (f g : Signal) (x y : Fate) → HaveTech c last (Clash f x ∷ es) → HaveTech c last (Clash g y ∷ fs) → f.bytes ≡ g.bytes → f.tail ≡ g.tail → x ≡ y
      → SameEvent c (Clash f x) (Clash g y) es fs
  same_clash f g x y p q bytes tail fate =
      record { same = ap (λ h. Clash h x) (same_frame f g (p.0 ∙ sym q.0) bytes tail) ∙ ap (Clash g) fate; tech = last; one = p.1; other = q.1 }

  same_in_a : (x y : Event) → HaveTech c last (x ∷ es) → HaveTech c last (y ∷ fs) → in_a x ≡ in_a y → SameEvent c x y es fs
  unfolding in_a kind bytes_in tail_in fate_in
  same_in_a Reset Reset p q e = record { same = refl; tech = last; one = p; other = q }
  same_in_a Reset (Request g y) p q e = absurd (omega (arith, ap kind e))
  same_in_a Reset (Answer g y) p q e = absurd (omega (arith, ap kind e))
  same_in_a Reset (Clash g y) p q e = absurd (omega (arith, ap kind e))
  same_in_a (Request f x) Reset p q e = absurd (omega (arith, ap kind e))
  same_in_a (Request f x) (Request g y) p q e = same_request f g x y p q (ap bytes_in e) (ap tail_in e) (ap fate_in e)
  same_in_a (Request f x) (Answer g y) p q e = absurd (omega (arith, ap kind e))
  same_in_a (Request f x) (Clash g y) p q e = absurd (omega (arith, ap kind e))
  same_in_a (Answer f x) Reset p q e = absurd (omega (arith, ap kind e))
  same_in_a (Answer f x) (Request g y) p q e = absurd (omega (arith, ap kind e))
  same_in_a (Answer f x) (Answer g y) p q e = same_answer f g x y p q (ap bytes_in e) (ap tail_in e) (ap fate_in e)
  same_in_a (Answer f x) (Clash g y) p q e = absurd (omega (arith, ap kind e))
  same_in_a (Clash f x) Reset p q e = absurd (omega (arith, ap kind e))
  same_in_a (Clash f x) (Request g y) p q e = absurd (omega (arith, ap kind e))
  same_in_a (Clash f x) (Answer g y) p q e = absurd (omega (arith, ap kind e))
  same_in_a (Clash f x) (Clash g y) p q e = same_clash f g x y p q (ap bytes_in e) (ap tail_in e) (ap fate_in e)

pub same_event : (c : Command) (n : ℕ) (last : Tech) (x y : Event) (es fs : List Event) → n < 2 ^ 32 → HaveTech c last (x ∷ es) → HaveTech c last (y ∷ fs)
    → AreOnAir (x ∷ es) → AreOnAir (y ∷ fs) → line_text n (event_text x) ≡ line_text n (event_text y) → SameEvent c x y es fs
same_event c n last x y es fs small p q air air_by same = same_in_a c last es fs x y p q (told_in_a n x y es fs small air air_by same)

-- the air of those behind the first
pub air_behind : (x : Event) (es : List Event) → AreOnAir (x ∷ es) → AreOnAir es
air_behind Reset es air = air
air_behind (Request f x) es air = air.1
air_behind (Answer f x) es air = air.1
air_behind (Clash f x) es air = air.1

-- the first of some events have the technologies too, and the air
pub tech_front : (c : Command) (t : Tech) (xs ys : List Event) → HaveTech c t (xs ++ ys) → HaveTech c t xs
tech_front c t [] ys p = tt
tech_front c t (Reset ∷ xs) ys p = tech_front c t xs ys p
tech_front c t (Request f x ∷ xs) ys p = (p.0, tech_front c f.tech xs ys p.1)
tech_front c t (Answer f x ∷ xs) ys p = (p.0, tech_front c t xs ys p.1)
tech_front c t (Clash f x ∷ xs) ys p = (p.0, tech_front c t xs ys p.1)

pub air_parts : (xs ys : List Event) → AreOnAir (xs ++ ys) → AreOnAir xs × AreOnAir ys
air_parts [] ys p = (tt, p)
air_parts (Reset ∷ xs) ys p = air_parts xs ys p
air_parts (Request f x ∷ xs) ys p = (let more = air_parts xs ys p.1 in ((p.0, more.0), more.1))
air_parts (Answer f x ∷ xs) ys p = (let more = air_parts xs ys p.1 in ((p.0, more.0), more.1))
air_parts (Clash f x ∷ xs) ys p = (let more = air_parts xs ys p.1 in ((p.0, more.0), more.1))

-- a text's first line, and what follows it
pub line_first : (n : ℕ) (body rest : List ℕ) → line_text n body ++ rest ≡ said n body ++ 10 ∷ rest
line_first n body rest = append_assoc (said n body) (10 ∷ []) rest

pub event_first : (n : ℕ) (x : Event) (es : List Event) (rest : List ℕ) → events_text n (x ∷ es) ++ rest ≡ said n (event_text x) ++ 10 ∷ (events_text n es ++ rest)
event_first n x es rest = append_assoc (line_text n (event_text x)) (events_text n es) rest ∙ line_first n (event_text x) (events_text n es ++ rest)

-- no text begins with an event's line and with an answer's
pub apart : (n : ℕ) (x : Event) (a : Said) (r s : List ℕ) → n < 2 ^ 32 → said n (event_text x) ++ 10 ∷ r ≡ said n (answer_text a) ++ 10 ∷ s → ⊥
apart n x a r s small e =
    let both = one_line (said n (event_text x)) (said n (answer_text a)) r s (event_clean n x) (answer_clean n a) e in
    answers_apart n n x a small small (ap (λ l. l ++ 10 ∷ []) both.0)

-- The events begin with these; the text goes on with the others.
pub record GoesOn (n : ℕ) (es fs : List Event) (left rest : List ℕ) : Type 0 where
  pub behind : List Event
  pub events : fs ≡ es ++ behind
  pub text : left ≡ events_text n behind ++ rest

pub tells_events : (c : Command) (n : ℕ) (last : Tech) (es fs : List Event) (a : Said) (left more : List ℕ) → n < 2 ^ 32
    → HaveTech c last es → HaveTech c last fs → AreOnAir es → AreOnAir fs
    → events_text n fs ++ (line_text n (answer_text a) ++ more) ≡ events_text n es ++ left
    → GoesOn n es fs left (line_text n (answer_text a) ++ more)
tells_events c n last [] fs a left more small p q air air_by e = record { behind = fs; events = refl; text = sym e }
tells_events c n last (x ∷ es) [] a left more small p q air air_by e =
    absurd (apart n x a (events_text n es ++ left) more small (sym (event_first n x es left) ∙ sym e ∙ line_first n (answer_text a) more))
tells_events c n last (x ∷ es) (y ∷ fs) a left more small p q air air_by e =
    let rest : List ℕ = line_text n (answer_text a) ++ more in
    let both = one_line (said n (event_text x)) (said n (event_text y)) (events_text n es ++ left) (events_text n fs ++ rest) (event_clean n x) (event_clean n y)
    (sym (event_first n x es left) ∙ sym e ∙ event_first n y fs rest) in
    let is : SameEvent c x y es fs = same_event c n last x y es fs small p q air air_by (ap (λ l. l ++ 10 ∷ []) both.0) in
    let on : GoesOn n es fs left rest = tells_events c n is.tech es fs a left more small is.one is.other (air_behind x es air) (air_behind y fs air_by) (sym both.1) in
    record { behind = on.behind; events = ap (λ z. z ∷ fs) (sym is.same) ∙ ap (λ zs. x ∷ zs) on.events; text = on.text }
