-- Waits: commands that are asked one after another, each of them again and again until its first whole answer or its
-- sixth bad reception (this project's own air; a reader speaks first, NFC Forum Digital Protocol).
use Rattle.std.specs.Prelude.{ℕ, suc, List, [], ◌∷◌, if◌then◌else◌, nat_lt}
use Rattle.nfc_base.specs.Signal.{Signal}
use Rattle.nfc_base.specs.Trace.{is_bad_in_wait}
use Rattle.nfc_base.specs.declared.tag_link.AskFault.{AskFault}
use Rattle.nfc_base.specs.declared.tag_link.AskFault.TheVariants.{FieldLost, SixBad}
use Rattle.air_core.specs.Conversation.{Note, Lit, Got, Lost, Next, Over, Asks}

-- Where a reader stands that asks commands: the first of those that are left has had so many bad receptions; or it
-- ended by a fault; or something was heard that belongs to no wait.
pub data Standing : Type 0 where
  Asking : ℕ → List Signal → Standing
  Broken : AskFault → List Signal → Standing
  Astray : Standing

abbrev pub stand : ℕ → List Signal → List Note → Standing
stand bad cs [] = Asking bad cs
stand bad [] (n ∷ ns) = Astray
stand bad (c ∷ cs) (Lit ∷ ns) = Astray
stand bad (c ∷ cs) (Lost ∷ ns) = Broken FieldLost (c ∷ cs)
stand bad (c ∷ cs) (Got h ∷ ns) =
    if is_bad_in_wait h then (if nat_lt bad 5 then stand (suc bad) (c ∷ cs) ns else Broken SixBad (c ∷ cs))
    else stand 0 cs ns

-- the request that is due there
abbrev pub due_at : Standing → Next
due_at (Asking bad []) = Over
due_at (Asking bad (c ∷ cs)) = Asks c
due_at (Broken e cs) = Over
due_at Astray = Over

-- what is due while these commands are asked, where the first has had so many bad receptions
abbrev pub waits_from : ℕ → List Signal → List Note → Next
waits_from bad cs ns = due_at (stand bad cs ns)

-- what is due while these commands are asked, from the first on
abbrev pub waits_next : List Signal → List Note → Next
waits_next cs ns = waits_from 0 cs ns
