-- How far a line of the script takes the walk.
use Rattle.std.proofs.Common.{◌≡◌, ℕ, ◌+◌, ◌-◌, ◌≤◌, List, [], ◌∷◌, ◌++◌, length, get_or, Bool, true, false, refl, sym, ◌∙◌, ap, subst, arith, inl, inr, Ok, Err}
use Rattle.std.specs.Prelude.{Result, IfOk}
use Rattle.std.proofs.lemmas.List.{length-append, get_or-append_right}
use Rattle.nfc_base.specs.declared.event.Event.{Event}
use Rattle.bench_script.specs.declared.command.Command.{Command}
use Rattle.bench_script.specs.declared.command.Command.TheVariants.{Skip}
use Rattle.bench_world.specs.declared.bench.ObeyFault.{ObeyFault}
use Rattle.bench_world.specs.declared.entry.Entry.{Entry}
use Rattle.bench_world.specs.declared.following.Followed.{Followed}
use Rattle.bench_world.specs.Following.{Follows, FollowsAll, FollowsFront, FollowsOne}
use Rattle.bench_world.specs.Obeying.{Benched}
use Rattle.bench_world.specs.Report.{answer_text, line_text}
use Rattle.trace_audit.specs.declared.stepping.Walk.{Walk}
use Rattle.trace_audit.specs.ReadEvents.{AreRead}
use Rattle.trace_audit.specs.private.Stepping.{ComesBehind, ComesBy, StepsOn, StepsTo, TakesBy, TakesLine}
use Rattle.trace_audit.proofs.Counts.{events_read, line_read}

-- a line that asks for something is followed, ...
pub follows_one : (f : Followed) (old new : Benched) (line : ℕ) (c : Command) (events : List Event) → (c ≡ Skip → ⊥) → Follows f old new line c events → FollowsOne f old new line c events
follows_one f old new line Skip events other h = absurd (other refl)
follows_one f old new line c events other h = h

-- ... and so it is taken
pub takes_one : (old new : Benched) (line : ℕ) (c : Command) (w w' : Walk) → (c ≡ Skip → ⊥) → TakesBy w.strayed old new line c w w' → TakesLine old new line c w w'
takes_one old new line Skip w w' other h = absurd (other refl)
takes_one old new line c w w' other h = h

pub takes_if : (old new : Benched) (line : ℕ) (c : Command) (w : Walk) (r : Result Walk ObeyFault) → (c ≡ Skip → ⊥) → w.strayed ≡ false → IfOk r (λ w'. StepsOn old new line c w w')
    → IfOk r (λ w'. TakesLine old new line c w w')
takes_if old new line c w (Ok w') other on h = takes_one old new line c w w' other (subst (λ v. TakesBy v old new line c w w') (sym on) h)
takes_if old new line c w (Err e) other on h = h

module _ (old new : Benched) (line : ℕ) (c : Command) (left : List ℕ) (events : List Event) (behind : List ℕ) (read : AreRead line c left events behind) where
  -- Behind the events of an entry its answer decides.
  pub whole_step : (follows : FollowsAll old new line c events) (w : Walk) (good : ℕ) → ComesBehind follows.entry (good + length events) behind w
      → (lines : ℕ) × (w.good ≡ good + lines) × StepsTo w.strayed old new line c left w.left.now lines
  whole_step follows w good comes = by_answer w.strayed comes
    where
      number : (rest : List ℕ) → line_text follows.entry.line (answer_text follows.entry.answer) ++ rest ≡ line_text line (answer_text follows.entry.answer) ++ rest
      number rest = ap (λ n. line_text n (answer_text follows.entry.answer) ++ rest) follows.numbered

      by_answer : (v : Bool) → ComesBy v follows.entry (good + length events) behind w → (lines : ℕ) × (w.good ≡ good + lines) × StepsTo v old new line c left w.left.now lines
      by_answer false h = (
        length events + 1,
        omega (arith, h.1),
        record {
          events = events;
          behind = behind;
          read = read;
          follows = follows;
          answered = h.0 ∙ number w.left.now;
          count = refl;
        },
      )
      by_answer true h = (
        length events,
        h.1,
        inl (record {
          events = events;
          behind = behind;
          read = read;
          follows = follows;
          other = λ rest e. h.0 rest (e ∙ sym (number rest));
          count = refl;
        }),
      )

  -- Where the events aren't those of an entry, it strays.
  pub front_step : (good : ℕ) (rest : List ℕ) → FollowsFront old new line c events good → StepsTo true old new line c left rest good
  front_step good rest follows = inr (record { events = events; behind = behind; read = read; follows = follows })

  -- so many are left to read
  pub room_behind : (good : ℕ) → good ≤ length events → good + length behind ≤ length left
  room_behind good within = omega (arith, events_read line events left behind read.split, within)

  pub room_on : (e : Entry) (good : ℕ) (w : Walk) → ComesBehind e (good + length events) behind w → w.good + length w.left.now ≤ good + length left
  room_on e good w comes = by_answer w.strayed comes
    where
      by_answer : (v : Bool) → ComesBy v e (good + length events) behind w → w.good + length w.left.now ≤ good + length left
      by_answer false h = omega (arith, h.1, line_read e.line (answer_text e.answer) behind w.left.now h.0, events_read line events left behind read.split)
      by_answer true h = omega (arith, h.1, ap length h.2, events_read line events left behind read.split)

-- the entry that is the last of a journal
pub last_is : (js ks : List Entry) (e x : Entry) → js ≡ ks ++ e ∷ [] → x ≡ get_or js (length js - 1) x → x ≡ e
last_is js ks e x is last =
    let size : length js ≡ length ks + 1 = ap length is ∙ length-append ks (e ∷ []) in
    last ∙ ap (λ l. get_or l (length js - 1) x) is ∙ get_or-append_right ks (e ∷ []) (length ks) (length js - 1) x refl (omega (arith, size))
    ∙ ap (λ i. get_or (e ∷ []) i x) (let at : length js - 1 - length ks ≡ 0 = omega (arith, size) in at)
