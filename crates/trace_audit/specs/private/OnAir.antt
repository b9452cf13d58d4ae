-- What was obeyed may be on the air, as each frame of the code.
use Rattle.std.specs.Prelude.{◌≡◌, ◌-◌, List, length, Some, slice_get}
use Rattle.bench_world.specs.declared.entry.Entry.{Entry}
use Rattle.bench_world.specs.ReadBack.{AreOnAir}

-- the frames of the last of some entries may
abbrev pub LastOnAir : List Entry → Type 0
LastOnAir entries = (e : Entry) → slice_get entries (length entries - 1) ≡ Some e → AreOnAir e.events
