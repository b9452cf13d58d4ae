-- Why no good text goes on as a report does: behind the good events of an entry, at its answer, and behind the last line of the script.
use Rattle.std.proofs.Common.{◌≡◌, ℕ, suc, ◌+◌, ◌<◌, ◌^◌, List, [], ◌∷◌, ◌++◌, append_assoc, append-nil, drop, drop-cons, get_or, length, take, take-append-drop, take-suc, sym, ◌∙◌, ap, subst, arith}
use Rattle.std.proofs.Common.{false}
use Rattle.std.specs.List.{AllByRecursion}
use Rattle.std.proofs.lemmas.Grind.{flat_map-append}
use Rattle.nfc_base.proofs.Leading.{all_append}
use Rattle.nfc_base.specs.declared.frame.Tech.TheVariants.{A}
use Rattle.nfc_base.specs.declared.event.Event.{Event}
use Rattle.nfc_base.specs.declared.event.Event.TheVariants.{Reset}
use Rattle.nfc_io.specs.Lines.{NoLf, joined}
use Rattle.bench_script.specs.declared.command.Command.{Command}
use Rattle.bench_script.specs.declared.command.Command.TheVariants.{Skip}
use Rattle.bench_script.specs.Script.{Spells}
use Rattle.bench_world.specs.declared.entry.Entry.{Entry}
use Rattle.bench_world.specs.Following.{FollowsAll, NoneBegins, NoneHas}
use Rattle.bench_world.specs.Journal.{AreEntriesOf}
use Rattle.bench_world.specs.Obeying.{Benched}
use Rattle.bench_world.specs.Report.{answer_text, event_text, events_text, line_text, report_text}
use Rattle.bench_world.specs.Showing.{IsBetweenCommands, MayShow}
use Rattle.trace_audit.specs.Auditing.{IsGoodText}
use Rattle.trace_audit.specs.ReadEvents.{AreRead}
use Rattle.trace_audit.specs.Reading.{AreOnAir, HaveTech}
use Rattle.trace_audit.proofs.CleanLines.{answer_clean, event_clean, said}
use Rattle.trace_audit.proofs.ReportLines.{event_lines, events_clean, events_joined, joined_append, report_clean, report_joined, report_lines}
use Rattle.trace_audit.proofs.Stopping.{Agrees, NoneGoesOn}
use Rattle.trace_audit.proofs.TellsEntry.{same_answer}
use Rattle.trace_audit.proofs.TellsEvents.{GoesOn, air_parts, event_first, line_first, tech_front, tells_events}
use Rattle.trace_audit.proofs.Walked.{TheirEntry, Walked, number_small, their_entry, their_rest}

-- the lines of some entries, and of the first events of the next
abbrev pub so_far : List Entry → ℕ → List Event → List (List ℕ)
so_far js n es = report_lines js ++ event_lines n es

pub so_far_joined : (js : List Entry) (n : ℕ) (es : List Event) → joined (so_far js n es) ≡ report_text false js ++ events_text n es
so_far_joined js n es =
    joined_append (report_lines js) (event_lines n es) ∙ ap (λ x. x ++ joined (event_lines n es)) (sym (report_joined js)) ∙ ap (λ x. report_text false js ++ x) (sym (events_joined n es))

pub so_far_clean : (js : List Entry) (n : ℕ) (es : List Event) → AllByRecursion NoLf (so_far js n es)
so_far_clean js n es = all_append NoLf (report_lines js) (event_lines n es) (report_clean js) (events_clean n es)

-- A text that goes on behind these lines.
behind_lines : (js : List Entry) (n : ℕ) (es : List Event) (text more : List ℕ) → text ≡ joined (so_far js n es) ++ more → text ≡ report_text false js ++ (events_text n es ++ more)
behind_lines js n es text more is = is ∙ ap (λ x. x ++ more) (so_far_joined js n es) ∙ append_assoc (report_text false js) (events_text n es) more

module _ (done : List (List ℕ)) (line : List ℕ) (after : List (List ℕ)) (bench : Benched) (report : List ℕ) (at : ℕ) (left : List ℕ) (n : ℕ) (c : Command) (events : List Event) (behind : List ℕ)
    (number : n ≡ length done + 1) (w : Walked done bench report at left) (few : length (done ++ line ∷ after) < 2 ^ 32) (spelled : Spells line c) (other : c ≡ Skip → ⊥)
    (reads : AreRead n c left events behind) where
  abbrev all_lines : List (List ℕ)
  all_lines = done ++ line ∷ after

  small : n < 2 ^ 32
  small = number_small done line after n number few

  -- what the entry of this line has behind these events, in another text
  their_events : (es : List Event) (zs : List ℕ) (t : TheirEntry n c bench.state (events_text n es ++ zs)) → HaveTech c A es → AreOnAir es
      → GoesOn n es t.entry.events zs (line_text n (answer_text t.entry.answer) ++ t.more)
  their_events es zs t tech air = tells_events c n A es t.entry.events t.entry.answer zs t.more small tech t.tech air t.on_air (sym t.is)

  their : (es : List Event) (text more : List ℕ) → IsGoodText all_lines text → text ≡ joined (so_far bench.journal n es) ++ more → TheirEntry n c bench.state (events_text n es ++ more)
  their es text more good is = their_entry done line after bench report at left n c number w few spelled other text (events_text n es ++ more) good (behind_lines bench.journal n es text more is)

  -- no event follows those that were read
  none_follows : (x : Event) (xs es : List Event) (q : List ℕ) → es ≡ events ++ x ∷ xs → HaveTech c A es → AreOnAir es → behind ≡ said n (event_text x) ++ 10 ∷ q → ⊥
  none_follows x xs es q is tech air next =
      let longer : events ++ x ∷ xs ≡ (events ++ x ∷ []) ++ xs = sym (append_assoc events (x ∷ []) xs) in
      let one = air_parts (x ∷ []) xs (air_parts events (x ∷ xs) (subst AreOnAir is air)).1 in
      reads.ended x q (tech_front c A (events ++ x ∷ []) xs (subst (HaveTech c A) (is ∙ longer) tech)) one.0 (next ∙ sym (line_first n (event_text x) q))

  -- An event that begins no entry of this line and command with those before it.
  pub none_early : (good : ℕ) → good < length events → NoneBegins bench.state c (take (suc good) events)
      → NoneGoesOn all_lines (so_far bench.journal n (take good events)) (events_text n (drop good events) ++ behind)
  none_early good within none text more is_good is agrees =
      let x : Event = get_or events good Reset in
      let more_left : List ℕ = events_text n (drop (suc good) events) ++ behind in
      let first : events_text n (drop good events) ++ behind ≡ said n (event_text x) ++ 10 ∷ more_left =
      ap (λ es. events_text n es ++ behind) (drop-cons events good Reset within) ∙ event_first n x (drop (suc good) events) behind in
      let back = agrees.back (said n (event_text x)) more_left (event_clean n x) first in
      let one_more : List Event = take (suc good) events in
      let parts : one_more ≡ take good events ++ x ∷ [] = take-suc events good Reset within in
      let so : events_text n (take good events) ++ more ≡ events_text n one_more ++ back.0 =
      ap (λ xs. events_text n (take good events) ++ xs) (back.1 ∙ sym (event_first n x [] back.0))
      ∙ sym (append_assoc (events_text n (take good events)) (events_text n (x ∷ [])) back.0)
      ∙ ap (λ xs. xs ++ back.0) (sym (flat_map-append (λ e. line_text n (event_text e)) (take good events) (x ∷ [])) ∙ ap (events_text n) (sym parts)) in
      let t : TheirEntry n c bench.state (events_text n one_more ++ back.0) = subst (TheirEntry n c bench.state) so (their (take good events) text more is_good is) in
      let tech : HaveTech c A one_more = tech_front c A one_more (drop (suc good) events) (subst (HaveTech c A) (sym (take-append-drop (suc good) events)) reads.tech) in
      let air : AreOnAir one_more = (air_parts one_more (drop (suc good) events) (subst AreOnAir (sym (take-append-drop (suc good) events)) reads.on_air)).0 in
      let on = their_events one_more back.0 t tech air in
      none t.mid t.after t.given t.entry on.behind t.alike t.step t.asked on.events

  -- Where another entry of this line has these events and more, the report doesn't go on so.
  none_more : (more : List ℕ) (t : TheirEntry n c bench.state (events_text n events ++ more)) → Agrees more behind
      → ((t.entry.events ≡ events) → more ≡ line_text n (answer_text t.entry.answer) ++ t.more → ⊥) → ⊥
  none_more more t agrees whole = by_behind on.behind on.events on.text
    where
      on : GoesOn n events t.entry.events more (line_text n (answer_text t.entry.answer) ++ t.more)
      on = their_events events more t reads.tech reads.on_air

      by_behind : (xs : List Event) → t.entry.events ≡ events ++ xs → more ≡ events_text n xs ++ (line_text n (answer_text t.entry.answer) ++ t.more) → ⊥
      by_behind [] is text = whole (is ∙ append-nil events) text
      by_behind (x ∷ xs) is text =
          let rest : List ℕ = line_text n (answer_text t.entry.answer) ++ t.more in
          let there = agrees.there (said n (event_text x)) (events_text n xs ++ rest) (event_clean n x) (text ∙ event_first n x xs rest) in
          none_follows x xs t.entry.events there.0 is t.tech t.on_air there.1

  -- All events that were read, of which no entry has just these.
  pub none_late : NoneHas bench.state c events → NoneGoesOn all_lines (so_far bench.journal n events) behind
  none_late none text more is_good is agrees =
      let t : TheirEntry n c bench.state (events_text n events ++ more) = their events text more is_good is in
      none_more more t agrees (λ same text. none t.mid t.after t.given t.entry t.alike t.step t.asked same)

  -- An entry of all these events, whose answer's line isn't the next.
  pub none_answers : (new : Benched) (follows : FollowsAll bench new n c events) → IsBetweenCommands bench.state
      → ((rest : List ℕ) → behind ≡ line_text n (answer_text follows.entry.answer) ++ rest → ⊥)
      → NoneGoesOn all_lines (so_far bench.journal n events) behind
  none_answers new follows between differs text more is_good is agrees =
      let e : Entry = follows.entry in
      let t : TheirEntry n c bench.state (events_text n events ++ more) = their events text more is_good is in
      none_more more t agrees (λ same rest.
      let answer : e.answer ≡ t.entry.answer =
      same_answer bench.state follows.state t.mid t.after follows.given t.given e t.entry t.alike between (subst (MayShow bench.state) (sym follows.asked) follows.shows) follows.legal t.step
      (t.asked ∙ sym follows.asked) (same ∙ sym follows.happened) in
      let line_is : more ≡ said n (answer_text e.answer) ++ 10 ∷ t.more =
      rest ∙ ap (λ a. line_text n (answer_text a) ++ t.more) (sym answer) ∙ line_first n (answer_text e.answer) t.more in
      let there = agrees.there (said n (answer_text e.answer)) t.more (answer_clean n e.answer) line_is in
      differs there.0 (there.1 ∙ sym (line_first n (answer_text e.answer) there.0)))

-- Behind the last line of the script nothing follows.
pub none_surplus : (lines : List (List ℕ)) (bench : Benched) (report : List ℕ) (at : ℕ) (left : List ℕ) → Walked lines bench report at left → length lines < 2 ^ 32 → 0 < length left
    → NoneGoesOn lines (report_lines bench.journal) left
none_surplus lines bench report at left w few some text more is_good is agrees =
    let good : IsGoodText (lines ++ []) text = subst (λ ls. IsGoodText ls text) (sym (append-nil lines)) is_good in
    let small : length (lines ++ []) < 2 ^ 32 = subst (λ ls. length ls < 2 ^ 32) (sym (append-nil lines)) few in
    let r = their_rest lines [] bench report at left w small text more good (is ∙ ap (λ x. x ++ more) (sym (report_joined bench.journal))) in
    nothing r.entries r.numbered r.text
  where
    nothing : (es : List Entry) → AreEntriesOf [] es → report_text false es ≡ more → ⊥
    nothing [] of text = omega (arith, some, ap length (agrees.over (sym text)))
    nothing (e ∷ es) of text = of
