use Rattle.std.proofs.Common.{◌≡◌}
use Rattle.std.specs.List.{AllWithin}
use Rattle.nfc_base.specs.Signal.{Signal}
use Rattle.bench_script.specs.DeviceIds.{tech_for}
use Rattle.bench_world.proofs.raws.may_send.Given as goal

abbrev pub invariant-loop-frame : goal.invariant-loop-frame
invariant-loop-frame l = AllWithin (λ (f : Signal). f.tech ≡ tech_for l.id) l.frames 0 l.frame-index
