-- What a report's text tells of an entry: from alike states, entries of one line and command that have one text are the same, and
-- leave alike states.
use Rattle.std.proofs.Common.{◌≡◌, ℕ, ◌<◌, ◌^◌, List, [], ◌∷◌, ◌++◌, append_assoc, append-nil, false, sym, ◌∙◌, ap, subst}
use Rattle.std.proofs.lemmas.List.{append_cancel_left}
use Rattle.nfc_base.specs.declared.frame.Tech.TheVariants.{A}
use Rattle.nfc_base.specs.declared.event.Event.{Event}
use Rattle.bench_script.specs.declared.command.Command.{Command}
use Rattle.bench_world.specs.declared.entry.Answer.{Answer as Said}
use Rattle.bench_world.specs.declared.entry.Entry.{Entry}
use Rattle.bench_world.specs.Alike.{Alike, IsToldSame}
use Rattle.bench_world.specs.Legal.{Given, LegalStep, State}
use Rattle.bench_world.specs.Report.{answer_text, entry_text, events_text, line_text}
use Rattle.bench_world.specs.Showing.{IsBetweenCommands, MayShow}
use Rattle.trace_audit.specs.Reading.{AreOnAir, HaveTech}
use Rattle.trace_audit.proofs.Laws.{alike_answers, alike_back, alike_on, alike_steps, entries_leave_alike, events_tell}
use Rattle.trace_audit.proofs.TellsEvents.{GoesOn, apart, event_first, line_first, tells_events}

same_entry : (j k : Entry) → j.line ≡ k.line → j.command ≡ k.command → j.events ≡ k.events → j.answer ≡ k.answer → j ≡ k
same_entry j k line command events answer =
    let E : ℕ → Command → List Event → Said → Entry = λ n c es a. record { line = n; command = c; events = es; answer = a } in
    ap (λ n. E n j.command j.events j.answer) line ∙ ap (λ c. E k.line c j.events j.answer) command
    ∙ ap (λ es. E k.line k.command es j.answer) events ∙ ap (E k.line k.command k.events) answer

-- Where the text of one entry begins with the events of another and its answer, the events are the same, and the answers' lines
-- follow.
pub record SameEvents (n : ℕ) (es fs : List Event) (a b : Said) (zs more : List ℕ) : Type 0 where
  pub events : fs ≡ es
  pub rest : line_text n (answer_text a) ++ zs ≡ line_text n (answer_text b) ++ more

pub tells_all : (c : Command) (n : ℕ) (es fs : List Event) (a b : Said) (zs more : List ℕ) → n < 2 ^ 32
    → HaveTech c A es → HaveTech c A fs → AreOnAir es → AreOnAir fs
    → events_text n fs ++ (line_text n (answer_text b) ++ more) ≡ events_text n es ++ (line_text n (answer_text a) ++ zs)
    → SameEvents n es fs a b zs more
tells_all c n es fs a b zs more small p q air air_by e =
    let rest : List ℕ = line_text n (answer_text b) ++ more in
    let left : List ℕ = line_text n (answer_text a) ++ zs in
    let on : GoesOn n es fs left rest = tells_events c n A es fs b left more small p q air air_by e in
    by_behind on.behind on.events on.text
  where
    by_behind : (behind : List Event) → fs ≡ es ++ behind → line_text n (answer_text a) ++ zs ≡ events_text n behind ++ (line_text n (answer_text b) ++ more) → SameEvents n es fs a b zs more
    by_behind [] events text = record { events = events ∙ append-nil es; rest = text }
    by_behind (y ∷ ys) events text =
        let rest : List ℕ = line_text n (answer_text b) ++ more in
        absurd (apart n y a (events_text n ys ++ rest) zs small (sym (event_first n y ys rest) ∙ sym text ∙ line_first n (answer_text a) zs))

-- what an entry's text is, by parts
pub entry_first : (n : ℕ) (e : Entry) (more : List ℕ) → e.line ≡ n → entry_text false e ++ more ≡ events_text n e.events ++ (line_text n (answer_text e.answer) ++ more)
entry_first n e more is =
    append_assoc (events_text e.line e.events) (line_text e.line (answer_text e.answer)) more
    ∙ ap (λ k. events_text k e.events ++ (line_text k (answer_text e.answer) ++ more)) is

-- Entries of the same events, from alike states: they have the same answer, and what they leave is alike.
pub record SameEntry (t u : State) (e f : Entry) : Type 0 where
  pub same : f ≡ e
  pub alike : Alike t u

module _ (s t r u : State) (g h : Given) (e f : Entry) (alike : Alike s r) (between : IsBetweenCommands s) (shows : MayShow s e.command) (step : LegalStep s g e t) (other : LegalStep r h f u)
    (command : f.command ≡ e.command) (events : f.events ≡ e.events) where
  -- the other's step from this state
  here : (v : State) × LegalStep s h f v × Alike u v
  here = alike_steps r s u h f (alike_back s r alike) other

  pub same_answer : e.answer ≡ f.answer
  same_answer =
      let told : IsToldSame s e.command g.joins h.joins e.events = events_tell s t here.0 g h e f between step here.1 command events in
      alike_answers s r t u g h e f alike step other (sym command) (sym events) told

  pub same_step : f.line ≡ e.line → SameEntry t u e f
  same_step line =
      let same : f ≡ e = same_entry f e line command events (sym same_answer) in
      let v : State = here.0 in
      let by_e : LegalStep s h e v = subst (λ x. LegalStep s h x v) same here.1 in
      record { same = same; alike = alike_on t v u (entries_leave_alike s t v g h e between shows step by_e) (alike_back u v here.2) }

-- So a text tells its entry.
pub record TellsEntry (t u : State) (e f : Entry) (zs more : List ℕ) : Type 0 where
  pub same : f ≡ e
  pub alike : Alike t u
  pub rest : more ≡ zs

pub tells_entry : (n : ℕ) (s t r u : State) (g h : Given) (e f : Entry) (zs more : List ℕ) → n < 2 ^ 32 → Alike s r → IsBetweenCommands s → MayShow s e.command → LegalStep s g e t → LegalStep r h f u
    → e.line ≡ n → f.line ≡ n → f.command ≡ e.command → HaveTech e.command A e.events → HaveTech f.command A f.events → AreOnAir e.events → AreOnAir f.events
    → entry_text false f ++ more ≡ entry_text false e ++ zs → TellsEntry t u e f zs more
tells_entry n s t r u g h e f zs more small alike between shows step other first second command p q air air_by text =
    let q_by : HaveTech e.command A f.events = subst (λ c. HaveTech c A f.events) command q in
    let is : SameEvents n e.events f.events e.answer f.answer zs more =
    tells_all e.command n e.events f.events e.answer f.answer zs more small p q_by air air_by (sym (entry_first n f more second) ∙ text ∙ entry_first n e zs first) in
    let answer : e.answer ≡ f.answer = same_answer s t r u g h e f alike between shows step other command is.events in
    let both : SameEntry t u e f = same_step s t r u g h e f alike between shows step other command is.events (second ∙ sym first) in
    let line : List ℕ = line_text n (answer_text f.answer) in
    record {
      same = both.same;
      alike = both.alike;
      rest = append_cancel_left line more zs (sym is.rest ∙ ap (λ a. line_text n (answer_text a) ++ zs) answer);
    }
