-- What is read of a report: the events of one command, up to the first line that isn't one of them.
use Rattle.std.specs.Prelude.{◌≡◌, ℕ, List, [], ◌∷◌, ◌++◌}
use Rattle.nfc_base.specs.declared.frame.Tech.{Tech}
use Rattle.nfc_base.specs.declared.frame.Tech.TheVariants.{A}
use Rattle.nfc_base.specs.declared.event.Event.{Event}
use Rattle.nfc_base.specs.declared.event.Event.TheVariants.{Reset, Request, Answer, Clash}
use Rattle.bench_script.specs.declared.command.Command.{Command}
use Rattle.bench_world.specs.Report.{event_text, line_text, events_text}
use Rattle.trace_audit.specs.Reading.{HaveTech, AreOnAir}

-- the technology of the last request
abbrev pub tech_behind : Tech → Event → Tech
tech_behind last (Request f x) = f.tech
tech_behind last Reset = last
tech_behind last (Answer f x) = last
tech_behind last (Clash f x) = last

-- The event has the technology that comes next, may be on the air, and has this line.
pub record IsNext (line : ℕ) (c : Command) (last : Tech) (text : List ℕ) (e : Event) : Type 0 where
  pub tech : HaveTech c last (e ∷ [])
  pub on_air : AreOnAir (e ∷ [])
  pub is : text ≡ line_text line (event_text e)

-- ... at the front of a text, and this stands behind
pub record IsInFront (line : ℕ) (c : Command) (last : Tech) (text : List ℕ) (e : Event) (more : List ℕ) : Type 0 where
  pub tech : HaveTech c last (e ∷ [])
  pub on_air : AreOnAir (e ∷ [])
  pub is : text ≡ line_text line (event_text e) ++ more

-- The report begins with the lines of these events of a command, and this is left; it begins with the line of no event
-- that could come next.
pub record AreRead (line : ℕ) (c : Command) (report : List ℕ) (events : List Event) (left : List ℕ) : Type 0 where
  pub split : report ≡ events_text line events ++ left
  pub tech : HaveTech c A events
  pub on_air : AreOnAir events
  pub ended : (e : Event) (more : List ℕ) → HaveTech c A (events ++ e ∷ []) → AreOnAir (e ∷ [])
      → left ≡ line_text line (event_text e) ++ more → ⊥
