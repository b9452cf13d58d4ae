-- Lines that stand in a list are obeyed one by one.
use Rattle.std.proofs.Common.{◌≡◌, ℕ, suc, ◌+◌, ◌<◌, List, [], ◌∷◌, ◌++◌, length, get_or, take, drop, sym, ◌∙◌, ap, subst, arith}
use Rattle.std.proofs.Math.Seq.{drop-cons}
use Rattle.std.proofs.lemmas.List.{length-take-le, take-append-drop, take_more}
use Rattle.bench_script.specs.declared.command.Command.{Command}
use Rattle.bench_world.specs.Legal.{first_state}
use Rattle.bench_world.specs.Obeying.{Benched}
use Rattle.bench_world.specs.Taking.{AreSpelled, AreTaken, IsTaken}
use Rattle.bench_world.proofs.devices.Shapes.{taken_at}
use Rattle.nfc_bench.specs.Run.{FirstAreObeyed}
use Rattle.nfc_bench.specs.Stops.{FirstUntaken, Follows, Lost, ObeyedBy}
use Rattle.nfc_bench.proofs.Progress.{obeyed_lost, obeyed_more, stops_lost}
use Rattle.nfc_bench.proofs.Endings.{done_taken, taken_there}

-- the line at the next place is obeyed too
pub obeyed_next : (lines : List (List ℕ)) (place : ℕ) (old new : Benched) → place < length lines → ObeyedBy (take place lines) old → Follows old new (place + 1) (get_or lines place [])
    → ObeyedBy (take (place + 1) lines) new
obeyed_next lines place old new within obeyed follows =
    let front : length (take place lines) ≡ place = length-take-le place lines (omega arith) in
    subst (λ ls. ObeyedBy ls new) (sym (take_more lines place [] within))
    (obeyed_more (take place lines) old new (get_or lines place []) (place + 1) obeyed follows (omega (arith, front)))

-- it is the first that isn't taken
pub untaken_next : (lines : List (List ℕ)) (place : ℕ) (old new : Benched) (text : List ℕ) → place < length lines → text ≡ get_or lines place [] → ObeyedBy (take place lines) old
    → new ≡ old → (IsTaken old.state text → ⊥) → FirstUntaken lines new (place + 1)
untaken_next lines place old new text within same obeyed stays refused =
    let done : List (List ℕ) = take place lines in
    let front : length done ≡ place = length-take-le place lines (omega arith) in
    let here : ObeyedBy done new = subst (ObeyedBy done) (sym stays) obeyed in
    let it = done_taken done new here in
    let none : IsTaken new.state (get_or lines place []) → ⊥ = λ is. refused (subst (λ (b : Benched). IsTaken b.state text) stays (subst (IsTaken new.state) (sym same) is)) in
    record {
      before = done;
      line = get_or lines place [];
      after = drop (suc place) lines;
      parts = sym (take-append-drop place lines) ∙ ap (λ x. done ++ x) (drop-cons lines place [] within);
      commands = it.commands;
      taken = it.taken;
      obeyed = here;
      number = omega (arith, front);
      refused = λ is. none (taken_there done new here (get_or lines place []) is);
    }

-- where all lines are taken there is none
pub none_untaken : (lines : List (List ℕ)) (commands : List Command) (b : Benched) (n : ℕ) → AreTaken lines commands → FirstUntaken lines b n → ⊥
none_untaken lines commands b n taken f =
    let spelled : AreSpelled (f.before ++ f.line ∷ f.after) commands = subst (λ ls. AreSpelled ls commands) f.parts taken.spelled in
    f.refused (taken_at first_state f.before f.line f.after commands f.commands spelled taken.accepted f.taken.spelled)

-- want of memory leaves those before it obeyed
pub front_obeyed : (lines : List (List ℕ)) (place : ℕ) (old new : Benched) (text : List ℕ) → place < length lines → text ≡ get_or lines place [] → ObeyedBy (take place lines) old → Lost old new text
    → FirstAreObeyed lines new
front_obeyed lines place old new text within same obeyed lost =
    let line : List ℕ = get_or lines place [] in
    let here : Lost old new line = subst (Lost old new) same lost in
    let it = obeyed_lost (take place lines) old new line obeyed here in
    record {
      front = take place lines;
      rest = line ∷ drop (suc place) lines;
      parts = sym (take-append-drop place lines) ∙ ap (λ x. take place lines ++ x) (drop-cons lines place [] within);
      obeyed = it.obeyed;
      stops = stops_lost (take place lines) old new line (drop (suc place) lines) it.obeyed.run.legal.last obeyed here it.last;
    }
