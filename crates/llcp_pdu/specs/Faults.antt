-- What becomes of a reading in a call that takes memory.
use Rattle.std.specs.Prelude.{◌≡◌, ◌↔◌, is_ok, true, Result, Ok, Err}
use Rattle.llcp_pdu.specs.declared.fault.PduFault.{PduFault}
use Rattle.llcp_pdu.specs.declared.fault.PduFault.TheVariants.{Refused, Memory}
use Rattle.llcp_pdu.specs.declared.fault.PduRefusal.{PduRefusal}

-- The answer is what was read, or its fault. Memory can be wanting only where there is something to copy.
abbrev pub Answers : {A : Type 0} → Result A PduFault → Result A PduRefusal → Type 0
Answers (Ok x) r = r ≡ Ok x
Answers (Err Memory) r = is_ok r ≡ true
Answers (Err (Refused place kind)) r = r ≡ Err (record { place = place; kind = kind })

-- Unless memory ran out, the answer is a value exactly where that is spelled.
abbrev pub UnlessMemory : {A : Type 0} → Result A PduFault → (A → Type 0) → Type 0
UnlessMemory {A} result Spelled = (v : A) → (result ≡ Err Memory → ⊥) → (result ≡ Ok v) ↔ Spelled v
