-- What a walk over a memory settles holds of the memory itself: nothing more need stand behind it.
use Rattle.std.proofs.Common.{◌≡◌, ℕ, List, [], ◌++◌, Ok}
use Rattle.std.proofs.lemmas.List.{append-nil}
use Rattle.tlv_area.specs.declared.space.Space.{Space}
use Rattle.tlv_area.specs.declared.space.AreaMap.{AreaMap}
use Rattle.tlv_area.specs.declared.walk.Walk.TheVariants as walk
use Rattle.tlv_area.specs.Containers.{t2_container}
use Rattle.tlv_area.specs.Form.{Message}
use Rattle.tlv_area.specs.Layout.{bytes_at}
use Rattle.tlv_area.specs.Map.{TellsForm, message_cells}
use Rattle.tlv_area.specs.Stores.{IsT2Form, four_bytes}

pub whole : (memory : List ℕ) (space : Space) (m : AreaMap) (message : List ℕ) →
    t2_container (four_bytes memory 12) ≡ Ok space →
    ((more : List ℕ) → Unit {0} → TellsForm space (memory ++ more) (walk.Held m)) →
    message ≡ bytes_at memory (message_cells m) → IsT2Form memory (Message message)
whole memory space m message container settled copied =
    let here : TellsForm space memory (walk.Held m) = rw (append-nil memory) at (settled [] tt) in
    rw (container, copied) here
