-- What is due in a wait is one of the commands that are asked.
use Rattle.std.proofs.Common.{◌≡◌, ℕ, suc, List, [], ◌∷◌, Bool, true, false, nat_lt, if◌then◌else◌, subst}
use Rattle.std.specs.List.{AllByRecursion}
use Rattle.nfc_base.specs.declared.tag_link.AskFault.TheVariants.{SixBad}
use Rattle.nfc_base.specs.Signal.{Signal}
use Rattle.nfc_base.specs.Trace.{is_bad_in_wait}
use Rattle.air_core.specs.Conversation.{Note, Lit, Got, Lost, Asks}
use Rattle.air_core.specs.Waits.{Standing, Asking, Broken, Astray, stand, due_at, waits_next}

-- something holds of each command that is left
abbrev AllLeft : (Signal → Type 0) → Standing → Type 0
AllLeft P (Asking bad cs) = AllByRecursion P cs
AllLeft P (Broken e cs) = Unit {0}
AllLeft P Astray = Unit {0}

by_heard : (P : Signal → Type 0) (bad : ℕ) (c : Signal) (cs : List Signal) (ns : List Note) (v w : Bool) → AllLeft P (stand (suc bad) (c ∷ cs) ns) → AllLeft P (stand 0 cs ns)
    → AllLeft P (if v then (if w then stand (suc bad) (c ∷ cs) ns else Broken SixBad (c ∷ cs)) else stand 0 cs ns)
by_heard P bad c cs ns true true more whole = more
by_heard P bad c cs ns true false more whole = tt
by_heard P bad c cs ns false w more whole = whole

stand_all : (P : Signal → Type 0) (bad : ℕ) (cs : List Signal) (ns : List Note) → AllByRecursion P cs → AllLeft P (stand bad cs ns)
stand_all P bad cs [] all = all
stand_all P bad [] (n ∷ ns) all = tt
stand_all P bad (c ∷ cs) (Lit ∷ ns) all = tt
stand_all P bad (c ∷ cs) (Lost ∷ ns) all = tt
stand_all P bad (c ∷ cs) (Got h ∷ ns) all = by_heard P bad c cs ns (is_bad_in_wait h) (nat_lt bad 5) (stand_all P (suc bad) (c ∷ cs) ns all) (stand_all P 0 cs ns all.1)

due_at_all : (P : Signal → Type 0) (s : Standing) (f : Signal) → AllLeft P s → due_at s ≡ Asks f → P f
due_at_all P (Asking bad []) f all e = absurd cc
due_at_all P (Asking bad (c ∷ cs)) f all e = (let same : c ≡ f = cc in subst P same all.0)
due_at_all P (Broken x cs) f all e = absurd cc
due_at_all P Astray f all e = absurd cc

-- what holds of each command holds of what is due
pub due_all : (P : Signal → Type 0) (cs : List Signal) → AllByRecursion P cs → (ns : List Note) (f : Signal) → waits_next cs ns ≡ Asks f → P f
due_all P cs all ns f due = due_at_all P (stand 0 cs ns) f (stand_all P 0 cs ns all) due
