-- The last entry of a journal to which one was added is that one.
use Rattle.std.proofs.Common.{◌≡◌, ℕ, ◌-◌, List, [], ◌∷◌, ◌++◌, length, refl, ◌∙◌, ap, arith}
use Rattle.std.specs.Prelude.{Some, slice_get}
use Rattle.std.proofs.lemmas.List.{length-append}
use Rattle.bench_script.specs.declared.command.Command.{Command}
use Rattle.bench_world.specs.declared.entry.Entry.{Entry}
use Rattle.bench_world.specs.Obeying.{Adds, Benched}
use Rattle.trace_audit.specs.private.OnAir.{LastOnAir}
use Rattle.trace_audit.specs.Reading.{AreOnAir}

get_last : (js : List Entry) (e : Entry) → slice_get (js ++ e ∷ []) (length js) ≡ Some e
get_last [] e = refl
get_last (j ∷ js) e = get_last js e

pub last_is : (js : List Entry) (e : Entry) → slice_get (js ++ e ∷ []) (length (js ++ e ∷ []) - 1) ≡ Some e
last_is js e = ap (slice_get (js ++ e ∷ [])) (let at : length (js ++ e ∷ []) - 1 ≡ length js = omega (arith, length-append js (e ∷ [])) in at) ∙ get_last js e

-- so what was obeyed may be on the air
pub obeyed_on_air : (old new : Benched) (line : ℕ) → LastOnAir new.journal → (c : Command) (adds : Adds old new line c) → AreOnAir adds.entry.events
obeyed_on_air old new line last c adds =
    last adds.entry (ap (λ (b : Benched). slice_get b.journal (length b.journal - 1)) adds.is ∙ last_is old.journal adds.entry)
