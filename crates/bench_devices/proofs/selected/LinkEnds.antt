-- What asking a tag over a link comes to, whichever link it is: what a read of it and what a write of it tell stands on these.
use Rattle.std.proofs.Common.{◌≡◌, ◌⊎◌, List, ◌++◌, Some, None}
use Rattle.nfc_base.specs.declared.tag_link.AskFault.{AskFault}
use Rattle.nfc_base.specs.declared.tag_link.AskFault.TheVariants.{FieldLost, SixBad, Memory, Protocol}
use Rattle.nfc_base.specs.Signal.{Signal}
use Rattle.nfc_base.specs.TagLinks.{LinkView}
use Rattle.tag_reader.specs.Reading.{IsCalm}

-- These commands were asked over a link. All was answered and this tells what came of it; or the field was lost; or six receptions
-- were bad, which they aren't where all passes. Nothing else ends it but want of memory, the link's or the caller's, which leaves it
-- where it is.
pub record LinkEnds {X : Type 0} (IsAll : List Signal → Type 0) (Shows : X → Type 0) (Fails : AskFault → X → Type 0) (from to : LinkView) (asked : List Signal) (Does : X → Type 0)
    (DoesSome : Type 0) : Type 0 where
  pub all : IsAll asked → to.over ≡ None → (x : X) → Shows x → (Fails FieldLost x → ⊥) → (Fails SixBad x → ⊥) → Does x
  pub lost : (rest : List Signal) → IsAll (asked ++ rest) → to.over ≡ Some FieldLost → (x : X) → Fails FieldLost x → (Fails SixBad x → ⊥) → Does x
  pub six : (rest : List Signal) → IsAll (asked ++ rest) → to.over ≡ Some SixBad → (IsCalm from to → ⊥) → (x : X) → Fails SixBad x → (Fails FieldLost x → ⊥) → Does x
  pub odd : to.over ≡ Some Protocol → ⊥
  pub some : (rest : List Signal) → IsAll (asked ++ rest) → (to.over ≡ None) ⊎ (to.over ≡ Some Memory) → DoesSome
