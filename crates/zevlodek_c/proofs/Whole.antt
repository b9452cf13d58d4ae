-- What a walk over a memory settles holds of the memory itself: nothing more need stand behind it.
use Rattle.std.proofs.Common.{◌≡◌, ℕ, List, [], ◌++◌}
use Rattle.std.proofs.lemmas.List.{append-nil}
use Rattle.tlv_area.specs.declared.space.Space.{Space}
use Rattle.tlv_area.specs.declared.space.AreaMap.{AreaMap}
use Rattle.tlv_area.specs.declared.walk.Walk.TheVariants as walk
use Rattle.tlv_area.specs.Form.{IsForm, Message}
use Rattle.tlv_area.specs.Layout.{bytes_at}
use Rattle.tlv_area.specs.Map.{TellsForm, message_cells}

pub held_here : (memory : List ℕ) (space : Space) (m : AreaMap) (message : List ℕ)
    → ((more : List ℕ) → Unit {0} → TellsForm space (memory ++ more) (walk.Held m))
    → message ≡ bytes_at memory (message_cells m) → IsForm space memory (Message message)
held_here memory space m message settled copied =
    let here : TellsForm space memory (walk.Held m) = rw (append-nil memory) at (settled [] tt) in
    rw copied here
