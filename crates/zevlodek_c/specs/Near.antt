-- The near end of a link of LLCP, a client of the other end's SNEP server, as C asks for it: by its sizes, the other
-- end's general bytes, and its calls with the replies that came (NFC Forum LLCP 1.3 and SNEP 1.0; how C keeps them, and
-- the numbers of faults, are this project's own).
use Rattle.std.specs.Prelude.{◌≡◌, ◌⊎◌, ◌+◌, ℕ, ℤ, negsuc, ◌==◌, ◌&&◌, nat_le, nat_lt, if◌then◌else◌, Bool, List, []}
use Rattle.std.specs.Prelude.{◌∷◌, length, Option, Some, None}
use Rattle.std.specs.Int.{w32, from_be_bytes}
use Rattle.std.specs.Str.{is_utf8}
use Rattle.llcp_pdu.specs.General.{IsMiu}
use Rattle.llcp_conn.specs.Conn.{IsWindow}
use Rattle.llcp_link.specs.State.{fresh_end, restarted}
use Rattle.snep_core.specs.declared.fault.SnepFault.{SnepFault}
use Rattle.snep_core.specs.declared.fault.SnepFault.TheVariants as faults
use Rattle.snep_core.specs.Calling.{refused_by}
use Rattle.snep_core.specs.declared.job.Ending.TheVariants as endings
use Rattle.snep_core.specs.declared.job.Job.{Job}
use Rattle.snep_core.specs.declared.job.Job.TheVariants.{Over}
use Rattle.snep_core.specs.declared.job.OnSap.{OnSap}
use Rattle.snep_core.specs.Numbers.{snep_fault_number}
use Rattle.snep_core.specs.Talk.{EndState, Step, Goes, Ends, GivesUp, Working, Task, TaskOn, Puts, Gets, Finds}
use Rattle.snep_core.specs.Talk.{begins_from, client_sap, closes, payload, replied, sap_of_slot, silent}
use Rattle.zevlodek_c.specs.declared.near.CameOut.{CameOut}
use Rattle.zevlodek_c.specs.declared.near.CameOut.TheVariants.{Fine, Value, AtSap, Failed}
use Rattle.zevlodek_c.specs.declared.near.Near.{Near}
use Rattle.zevlodek_c.specs.declared.showing.Told.{Told}
use Rattle.zevlodek_c.specs.Codes.{done, send, silent as no_call, bad_log, bad_argument, no_memory}
use Rattle.zevlodek_c.specs.Entries.{Entry, IsEntryLog, SpellsEntries, a_reply, end_shown, takes_all}
use Rattle.zevlodek_c.specs.Showing.{Seen, shows, answers}

-- the sizes that an end may have
pub record IsNear (n : Near) : Type 0 where
  pub miu : IsMiu n.miu
  pub window : IsWindow n.window

-- the end of these sizes, as a link begins with the other end's general bytes
abbrev pub near_end : Near → List ℕ → EndState
near_end n general = restarted silent (fresh_end n.miu n.window (record {})) general

-- The kinds of calls in a log: a put; a get; a lookup; the end of all connections.
abbrev pub a_put : ℕ
a_put = 5

abbrev pub a_get : ℕ
a_get = 6

abbrev pub a_lookup : ℕ
a_lookup = 7

abbrev pub a_close : ℕ
a_close = 8

-- what a call is about: a task on the connection from a SAP, or the end of all connections
pub data NearCall : Type 0 where
  Does : TaskOn → NearCall
  Closes : NearCall

abbrev pub does_on : ℕ → Task → Option NearCall
does_on sap task = Some (Does (record { sap = sap; task = task }))

-- A get has its slot, the most bytes of a value in four bytes, high byte first, and its key.
abbrev pub get_of : List ℕ → Option NearCall
get_of (slot ∷ a ∷ b ∷ c ∷ d ∷ key) =
    if nat_lt slot 8 then does_on (sap_of_slot slot) (Gets (from_be_bytes w32 (a ∷ b ∷ c ∷ d ∷ [])) key) else None
get_of _ = None

-- the name of a service is text of at most 64 bytes
abbrev pub is_name : List ℕ → Bool
is_name bytes = nat_le (length bytes) 64 && is_utf8 bytes

abbrev pub lookup_of : List ℕ → Option NearCall
lookup_of name = if is_name name then does_on client_sap (Finds name) else None

abbrev pub close_of : List ℕ → Option NearCall
close_of [] = Some Closes
close_of (b ∷ bs) = None

-- the call that an entry spells
abbrev pub call_of : Entry → Option NearCall
call_of e =
    if e.kind == a_put then does_on client_sap (Puts e.content)
    else if e.kind == a_get then get_of e.content
    else if e.kind == a_lookup then lookup_of e.content
    else if e.kind == a_close then close_of e.content
    else None

abbrev pub call_begins : EndState → NearCall → Step
call_begins l (Does t) = begins_from l t.sap t.task
call_begins l Closes = closes l

-- A near end: nothing was asked of it yet; a call is under way; or the last one came to this.
pub data NearNow : Type 0 where
  Rests : EndState → NearNow
  Under : Working → NearNow
  Came : EndState → CameOut → NearNow

-- what a call came to, by the ending of its first job
abbrev pub out_of : Job → CameOut
out_of (Over (endings.Value v)) = Value v
out_of (Over (endings.Sap s)) = AtSap s
out_of (Over (endings.Refused why)) = Failed (refused_by why)
out_of _ = Fine

abbrev pub out_by : List OnSap → CameOut
out_by [] = Fine
out_by (x ∷ xs) = out_of x.job

abbrev pub settles : Step → NearNow
settles (Goes w) = Under w
settles (Ends jobs l) = Came l (out_by jobs)
settles (GivesUp g) = Came g.llc (Failed faults.BadPeer)

-- the most bytes of a reply
abbrev pub most_reply : ℕ
most_reply = 2178

-- A reply is taken while a call is under way, and a call while none is.
abbrev pub hears : NearNow → List ℕ → Option NearNow
hears (Under w) reply = if nat_le (length reply) most_reply then Some (settles (replied 0 w reply)) else None
hears _ reply = None

abbrev pub asks : EndState → Option NearCall → Option NearNow
asks l None = None
asks l (Some call) = Some (settles (call_begins l call))

abbrev pub asked_now : NearNow → Option NearCall → Option NearNow
asked_now (Rests l) call = asks l call
asked_now (Under w) call = None
asked_now (Came l out) call = asks l call

abbrev pub near_takes : NearNow → Entry → Option NearNow
near_takes n e = if e.kind == a_reply then hears n e.content else asked_now n (call_of e)

-- a fault of a call, by its number: minus 500 and that number less
abbrev pub snep_fault : SnepFault → ℤ
snep_fault e = negsuc (499 + snep_fault_number e)

-- what a call came to: done, a value, a SAP, or why it failed
abbrev pub came_shown : CameOut → List ℕ → Told → Seen
came_shown Fine out told = answers done out told
came_shown (Value v) out told = shows done v out told
came_shown (AtSap s) out told = answers done out (record told { code = s })
came_shown (Failed e) out told = answers (snep_fault e) out told

-- the payload that goes out next, with as many PDUs as fit, or what the last call came to
abbrev pub near_shown : NearNow → List ℕ → Told → Seen
near_shown (Rests l) out told = answers no_call out told
near_shown (Under w) out told = shows send (payload 0 w) out told
near_shown (Came l out') out told = came_shown out' out told

-- What C sees of a near end behind a log; memory may be wanting.
pub record NearTells (n : Near) (general log out : List ℕ) (told : Told) (seen : Seen) : Type 0 where
  pub taken : IsNear n → (es : List Entry) → SpellsEntries es log
      → (seen ≡ end_shown near_shown (takes_all near_takes (Some (Rests (near_end n general))) es) out told)
      ⊎ (seen ≡ answers no_memory out told)
  pub no_log : IsNear n → (IsEntryLog log → ⊥) → (seen ≡ answers bad_log out told) ⊎ (seen ≡ answers no_memory out told)
  pub refused : (IsNear n → ⊥) → seen ≡ answers bad_argument out told
