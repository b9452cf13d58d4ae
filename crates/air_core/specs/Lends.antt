-- What a field ends as, where a `&mut` to one of its listeners is returned.
use Rattle.std.specs.Prelude.{ℕ, slice_set}
use Rattle.std.specs.Borrow.{Lends, Fml, RattleType, MutBor}
use Rattle.air_core.specs.Turn.{Air}
use Rattle.air_core.specs.contracts.field.Field.{the_row}

-- the field with this listener at a place
abbrev pub with_listener : {L : Type 0} → Air L → ℕ → L → Air L
with_listener air place l = record air { listeners = slice_set air.listeners place l }

-- once the borrow r ends, the listener at the place is what r shows last
abbrev pub lends_listener : (L : RattleType) → MutBor (Air L.Denot) → ℕ → MutBor L.Denot → Fml
lends_listener L f place r = Lends (the_row L) L f r (with_listener f.now place)
