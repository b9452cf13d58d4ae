-- Tags that light alone selects: which of them take commands as they are sent (NFC Forum Type 5 Tag).
use Rattle.std.proofs.Common.{◌≡◌, ℕ, List, Bool, true, false, ◌&&◌, Option, None, refl}
use Rattle.nfc_base.specs.declared.frame.Tech.TheVariants.{A}
use Rattle.nfc_base.specs.Signal.{Signal}
use Rattle.nfc_base.specs.TagLinks.{TagKind, MayAsk}
use Rattle.air_core.specs.PlainTags.{Takes, IsPlainTag}
use Rattle.air_core.specs.declared.listener.Listener.{Ghosts}

both : (v w : Bool) → v ≡ true → w ≡ true → (v && w) ≡ true
both true true e h = refl
both true false e h = h
both false w e h = e

first : (v w : Bool) → (v && w) ≡ true → v ≡ true
first true w e = refl
first false w e = e

second : (v w : Bool) → (v && w) ≡ true → w ≡ true
second true w e = e
second false w e = absurd cc

-- A listener of another technology than NFC-A stays selected once it is, by the law of listeners. So it takes commands
-- as they are sent where it does while it is selected, by something that holds of it and that each frame keeps.
pub plain_by_light : {L : Type 0} (k : Ghosts L)
    → ((l : L) (f : Signal) (reply : Option (List ℕ)) → (k.machine.tech l ≡ A → ⊥) → k.is_selected l ≡ true
    → k.is_selected (k.machine.after l f reply) ≡ true)
    → (kind : TagKind) (identifier : List ℕ) (holds : L → Bool)
    → ((m : L) → holds m ≡ true → k.machine.tech m ≡ A → ⊥)
    → ((m : L) (f : Signal) → MayAsk kind identifier f → holds m ≡ true → holds (k.machine.after m f None) ≡ true)
    → ((m : L) (f : Signal) → MayAsk kind identifier f → holds m ≡ true → k.is_selected m ≡ true → Takes k m f)
    → (l : L) → holds l ≡ true → k.is_selected l ≡ true → IsPlainTag k kind identifier l
plain_by_light k stays kind identifier holds other kept takes l now on = record {
  holds = λ m. holds m && k.is_selected m;
  now = both (holds l) (k.is_selected l) now on;
  kept = λ m f may h. both (holds (k.machine.after m f None)) (k.is_selected (k.machine.after m f None))
      (kept m f may (first (holds m) (k.is_selected m) h))
      (stays m f None (other m (first (holds m) (k.is_selected m) h)) (second (holds m) (k.is_selected m) h));
  takes = λ m f may h s. takes m f may (first (holds m) (k.is_selected m) h) s;
  passes = λ m f may h off. absurd (let lit : k.is_selected m ≡ true = second (holds m) (k.is_selected m) h in cc);
}
