-- A bench behind a command: spoiled by want of memory, or behind an entry that was made.
use Rattle.std.proofs.Common.{◌≡◌, ℕ, List, [], ◌∷◌, ◌++◌, Bool, true, false, Some, refl, sym, ◌∙◌, ap, subst}
use Rattle.nfc_base.specs.declared.event.Event.{Event}
use Rattle.air_core.specs.Conversation.{receptions}
use Rattle.bench_script.specs.declared.command.Command.{Command}
use Rattle.bench_script.specs.declared.command.Command.TheVariants.{Skip}
use Rattle.bench_world.specs.declared.entry.Answer.{Answer}
use Rattle.bench_world.specs.declared.entry.Entry.{Entry}
use Rattle.bench_world.specs.Cutting.{CutsWell}
use Rattle.bench_world.specs.Legal.{State, Given, AnswerLaw, FrontOf, Joins, LegalStep, due, joins_for, no_joins}
use Rattle.bench_world.proofs.open_link.LinkKept.{keeps_so, open_on}
use Rattle.bench_world.specs.Obeying.{Machines, untraced, state_at, IsSettled, ObeyedBy, Makes, IsCutOff, IsCutOffBy, Benched, Adds, Obeys, Spoils, LacksMemory}
use Rattle.bench_world.proofs.tags.Numbers.{none_for}
use Rattle.bench_world.proofs.tags.Unfinished.{unfinished}
use Rattle.bench_world.proofs.sizes.SizedStates.{untraced_cuts}
use Rattle.bench_world.proofs.devices.WellStored.{stored_step}

-- what contracts see of a bench with this journal and these machines
abbrev pub seen : List (List Entry) → List Entry → Machines → Bool → Benched
seen rs js a spoiled = record { finished = rs; journal = js; state = state_at a; cut = a.air.trace; spoiled = spoiled }

-- a bench that isn't spoiled isn't a spoiled one
pub both_ways : (b : Benched) → b.spoiled ≡ false → b.spoiled ≡ true → ⊥
both_ways b sound bad = (let clash : false ≡ true = sym sound ∙ bad in cc)

-- want of memory cut a command off
pub spoils : (old : Benched) (rs : List (List Entry)) (a b : Machines) (js ks : List Entry) (c : Command) → old ≡ seen rs js a false → ks ≡ js → IsCutOff a b c → LacksMemory old (seen rs ks b true) c
spoils old rs a b js ks c is same cut =
    let S : List Entry → Benched → Type 0 = λ xs o. Spoils o (seen rs xs b true) c in
    let it : S js (seen rs js a false) = record { state = state_at b; cut = b.air.trace; is = refl; front = cut; stores = unfinished no_joins (state_at a) (state_at b) c b.air.trace cut } in
    (λ _. subst (λ xs. S xs old) (sym same) (subst (S js) (sym is) it), λ bad. absurd (both_ways old (ap (λ o. o.spoiled) is) bad))

as_obeys : (old new : Benched) (line : ℕ) (c : Command) → (c ≡ Skip → ⊥) → Adds old new line c → Obeys old new line c
as_obeys old new line Skip other adds = absurd (other refl)
as_obeys old new line c other adds = adds

pub cut_most : (a b : Machines) (c : Command) (joins : Joins) → joins ≡ no_joins → IsCutOffBy (joins_for c joins) a b c → IsCutOff a b c
cut_most a b c joins most cut = subst (λ j. IsCutOffBy j a b c) (none_for c joins most) cut

-- an entry that was made is a legal step, ...
pub record IsMade (joins : Joins) (s t : State) (line : ℕ) (c : Command) (e : Entry) : Type 0 where
  pub given : Given
  pub joined : given.joins ≡ joins
  pub numbered : e.line ≡ line
  pub asked : e.command ≡ c
  pub legal : LegalStep s given e t

pub made_legal : (joins : Joins) (a k : Machines) (line : ℕ) (c : Command) (e : Entry) → Makes joins a k line c e → IsMade joins (state_at a) (state_at k) line c e
made_legal joins a k line c e m =
    let o = m.obeyed in
    let s : State = state_at a in
    let F : Command → List Event → State → Type 0 = λ x es t. FrontOf s o.given x es (Some e.answer) t in
    let to : state_at k ≡ state_at m.ran = ap state_at m.left in
    record {
      given = o.given;
      joined = o.joined;
      numbered = m.numbered;
      asked = m.asked;
      legal = record {
        front = subst (λ x. F x e.events (state_at k)) (sym m.asked) (subst (λ es. F c es (state_at k)) (sym m.happened) (subst (F c m.ran.air.trace) (sym to) o.front));
        over = ap (λ x. due s o.given x (receptions e.events)) m.asked ∙ ap (λ es. due s o.given c (receptions es)) m.happened ∙ o.over;
        answered = subst (λ x. AnswerLaw s o.given x e.events e.answer) (sym m.asked) (subst (λ es. AnswerLaw s o.given c es e.answer) (sym m.happened) o.answered);
      };
    }

-- ... behind which nothing is in the trace
pub made_quiet : (joins : Joins) (a k : Machines) (line : ℕ) (c : Command) (e : Entry) → IsSettled a → Makes joins a k line c e → k.air.trace ≡ a.air.trace
made_quiet joins a k line c e settled m = ap (λ (x : Machines). x.air.trace) m.left ∙ sym settled.idle.quiet

-- a command was obeyed, and its entry added
pub adds_entry : (old : Benched) (rs : List (List Entry)) (a k : Machines) (js ks : List Entry) (line : ℕ) (c : Command) (e : Entry) (joins : Joins) → joins ≡ no_joins → (c ≡ Skip → ⊥)
    → old ≡ seen rs js a false → IsSettled a
    → Makes (joins_for c joins) a k line c e → ks ≡ js ++ e ∷ [] → Obeys old (seen rs ks k false) line c
adds_entry old rs a k js ks line c e joins most other is settled m added =
    let i = made_legal (joins_for c joins) a k line c e m in
    let B : List Entry → List Event → Benched = λ xs cut. record { finished = rs; journal = xs; state = state_at k; cut = cut; spoiled = false } in
    let A : Benched → Type 0 = λ x. Adds x (seen rs ks k false) line c in
    let it : A (seen rs js a false) = record {
      sound = refl;
      entry = e;
      state = state_at k;
      given = i.given;
      is = ap (λ xs. B xs k.air.trace) added ∙ ap (B (js ++ e ∷ [])) (made_quiet (joins_for c joins) a k line c e settled m);
      numbered = i.numbered;
      asked = i.asked;
      joined = i.joined ∙ none_for c joins most;
      legal = i.legal;
    } in
    as_obeys old (seen rs ks k false) line c other (subst A (sym is) it)

-- Behind a command that was obeyed the bench is settled again, once its events are taken.
pub settled_untraced : (joins : Joins) (a b : Machines) (c : Command) (answer : Answer) → IsSettled a → ObeyedBy joins a b c answer → IsSettled (untraced b)
settled_untraced joins a b c answer settled o = record {
  stored =
      stored_step (state_at a) (state_at b) o.given (record { line = 0; command = c; events = b.air.trace; answer = answer }) (record { front = o.front; over = o.over; answered = o.answered })
      settled.idle.tame.sound settled.stored;
  idle = record { quiet = refl; tame = o.tame; tidy = o.tidy };
  places = record { ends = o.places.ends; numbers = o.places.numbers; served = o.places.served; apart = o.places.apart };
  link = keeps_so b (untraced b) refl (λ l at k. open_on b.air (untraced b).air b.ends b.peers l refl refl k) o.link;
}

-- So it is behind an entry that was made.
pub settled_made : (joins : Joins) (a k : Machines) (line : ℕ) (c : Command) (e : Entry) → IsSettled a → CutsWell (state_at a) → Makes joins a k line c e → IsSettled k × CutsWell (state_at k)
settled_made joins a k line c e settled cuts m =
    subst (λ (x : Machines). IsSettled x × CutsWell (state_at x)) (sym m.left)
    (settled_untraced joins a m.ran c e.answer settled m.obeyed, untraced_cuts joins a m.ran c e.answer cuts m.obeyed)
