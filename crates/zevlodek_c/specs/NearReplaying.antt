-- A near end behind the calls and the replies of a log, for private calls: no public contract speaks of it, the table
-- is Near.antt.
use Rattle.std.specs.Prelude.{◌≡◌, ◌≤◌, ◌⊎◌, ℕ, List, [], length, Bool, true, false, if◌then◌else◌, Option, Some, None}
use Rattle.std.specs.Prelude.{Result, Ok, Err, IfOk, OnErr}
use Rattle.snep_core.specs.declared.fault.SnepFault.{SnepFault}
use Rattle.snep_core.specs.declared.fault.SnepFault.TheVariants as faults
use Rattle.snep_core.specs.Calling.{ClientState}
use Rattle.snep_core.specs.Slots.{is_staged_at}
use Rattle.snep_core.specs.Talk.{EndState, Step, Working, payload}
use Rattle.zevlodek_c.specs.declared.far.LogFar.{LogFar}
use Rattle.zevlodek_c.specs.declared.near.CameOut.{CameOut}
use Rattle.zevlodek_c.specs.declared.near.CameOut.TheVariants.{Failed}
use Rattle.zevlodek_c.specs.declared.near.NearFault.{NearFault}
use Rattle.zevlodek_c.specs.declared.near.NearFault.TheVariants.{Log, Memory}
use Rattle.zevlodek_c.specs.declared.near.Stand.{Stand}
use Rattle.zevlodek_c.specs.declared.near.Stand.TheVariants as stands
use Rattle.zevlodek_c.specs.declared.showing.Told.{Told}
use Rattle.zevlodek_c.specs.Codes.{send, silent}
use Rattle.zevlodek_c.specs.Entries.{Entry, IsEntryLog, SpellsEntries, SpellsEntry, a_reply, takes_all}
use Rattle.zevlodek_c.specs.Near.{NearCall, NearNow, Rests, Under, Came, call_begins, came_shown, most_reply}
use Rattle.zevlodek_c.specs.Near.{near_takes, settles}
use Rattle.zevlodek_c.specs.Showing.{Seen, shows, answers}

-- the reply that a log begins with
pub record SpellsReply (reply log rest : List ℕ) : Type 0 where
  pub spelled : SpellsEntry (record { kind = a_reply; content = reply }) log rest
  pub fits : length reply ≤ most_reply

-- a payload is answered by the next reply of the log
pub record Replies (f : LogFar) (payload reply : List ℕ) (g : LogFar) : Type 0 where
  pub spelled : SpellsReply reply f.left.now g.left.now
  pub asked : g.asked ≡ f.asked
  pub odd : g.odd ≡ f.odd

-- no reply begins bytes that are there
pub record NoReply (log : List ℕ) : Type 0 where
  pub some : log ≡ [] → ⊥
  pub none : (reply rest : List ℕ) → SpellsReply reply log rest → ⊥

-- A payload isn't answered: it is kept where the log has no more, what follows is no reply, or memory is wanting.
pub record Stops (f : LogFar) (payload : List ℕ) (g : LogFar) : Type 0 where
  pub left : g.left.now ≡ f.left.now
  pub asked : (p : List ℕ) → g.asked ≡ Some p → (f.asked ≡ Some p) ⊎ ((f.left.now ≡ []) × (p ≡ payload))
  pub odd : g.odd ≡ true → (f.odd ≡ true) ⊎ NoReply f.left.now

-- nothing was asked of it yet
pub record IsFresh (f : LogFar) : Type 0 where
  pub asked : f.asked ≡ None
  pub odd : f.odd ≡ false

-- a client that goes on: memory was never wanting, and no message waits in its first slot
pub record IsGoing (c : ClientState) : Type 0 where
  pub spent : c.spent ≡ false
  pub free : is_staged_at c.slots 0 ≡ false

-- From some bytes of a log to what is left of them an end came from here to there.
pub record Reaches (from : NearNow) (log : List ℕ) (now : NearNow) (rest : List ℕ) : Type 0 where
  pub shorter : length rest ≤ length log
  pub whole : IsEntryLog rest → IsEntryLog log
  pub goes : (es : List Entry) → SpellsEntries es log → (more : List Entry) × SpellsEntries more rest
      × (takes_all near_takes (Some from) es ≡ takes_all near_takes (Some now) more)

-- A call that stopped: where it kept a payload it is under way, at this payload, and the log has no more; where it met
-- what is no reply no end takes the log.
pub record IsStopped (from : Step) (f g : LogFar) : Type 0 where
  pub asked : (p : List ℕ) → g.asked ≡ Some p
      → (w : Working) × Reaches (settles from) f.left.now (Under w) [] × (p ≡ payload 0 w)
  pub odd : g.odd ≡ true → (es : List Entry) → SpellsEntries es f.left.now
      → takes_all near_takes (Some (settles from)) es ≡ None

-- what a call does that begins so
pub record Obeys (from : Step) (f : LogFar) (l : EndState) (g : LogFar) (r : Result CameOut SnepFault) : Type 0 where
  pub came : IfOk r (λ out. Reaches (settles from) f.left.now (Came l out) g.left.now)
  pub stopped : OnErr r (IsStopped from f g)

-- the same of the call that an entry spells
abbrev pub IsObeyed : Option NearCall → EndState → LogFar → EndState → LogFar → Result CameOut SnepFault → Type 0
IsObeyed None old f l g r = ⊥
IsObeyed (Some call) old f l g r = Obeys (call_begins old call) f l g r

-- the faults that a call itself came to
abbrev pub failed_by : SnepFault → Result CameOut SnepFault
failed_by (faults.LinkEnded cause) = Err (faults.LinkEnded cause)
failed_by faults.Memory = Err faults.Memory
failed_by faults.SlotBusy = Err faults.SlotBusy
failed_by fault = Ok (Failed fault)

abbrev pub why_stopped : Bool → NearFault
why_stopped odd = if odd then Log else Memory

abbrev pub stopped_by : Option (List ℕ) → Bool → Result Stand NearFault
stopped_by None odd = Err (why_stopped odd)
stopped_by (Some p) odd = Ok (stands.Asks p)

abbrev pub stopped_at : LogFar → Result Stand NearFault
stopped_at f = stopped_by f.asked f.odd

abbrev pub stand_of : Option CameOut → Stand
stand_of None = stands.Rests
stand_of (Some out) = stands.Came out

abbrev pub now_of : EndState → Option CameOut → NearNow
now_of l None = Rests l
now_of l (Some out) = Came l out

abbrev pub stand_shown : Stand → List ℕ → Told → Seen
stand_shown stands.Rests out told = answers silent out told
stand_shown (stands.Asks p) out told = shows send p out told
stand_shown (stands.Came out') out told = came_shown out' out told

-- what C sees of an end is that of this stand
abbrev pub StandsSo : NearNow → Stand → Type 0
StandsSo (Rests l) stand = stand ≡ stands.Rests
StandsSo (Under w) stand = stand ≡ stands.Asks (payload 0 w)
StandsSo (Came l out) stand = stand ≡ stands.Came out

pub record IsStanding (l : EndState) (log : List ℕ) (stand : Stand) : Type 0 where
  pub whole : IsEntryLog log
  pub so : (es : List Entry) → SpellsEntries es log
      → (n : NearNow) × (takes_all near_takes (Some (Rests l)) es ≡ Some n) × StandsSo n stand

-- where a client stands behind a log that began so, or that it takes no such log
abbrev pub IsNearReplay : EndState → List ℕ → Result Stand NearFault → Type 0
IsNearReplay l log (Ok stand) = IsStanding l log stand
IsNearReplay l log (Err Log) = (es : List Entry) → SpellsEntries es log
    → takes_all near_takes (Some (Rests l)) es ≡ None
IsNearReplay l log (Err Memory) = Unit {0}
