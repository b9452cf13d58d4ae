-- What an end does on a link, act by act; and a service that tells which units were brought to it.
use Rattle.std.specs.Prelude.{◌≡◌, ◌≢◌, ◌<◌, ℕ, List, [], ◌∷◌, ◌++◌, slice_index, None}
use Rattle.llcp_conn.specs.Conn.{IsSap}
use Rattle.llcp_link.specs.Serving.{Serving}
use Rattle.llcp_link.specs.State.{LlcState, restarted}
use Rattle.llcp_link.specs.Taking.{brought, taken_from}
use Rattle.llcp_link.specs.Giving.{after_giving}
use Rattle.llcp_link.specs.Units.{Mark, marks, units}

-- A payload came; a payload with so many PDUs was given, or with as many as can be joined; or it did something else: it
-- asked for a connection of its own, looked a name up, bound one, or its service was changed.
pub data Act : Type 0 where
  Takes : List ℕ → Act
  Gives : ℕ → Act
  Else : Act

-- an act, and the end behind it
pub record Acted (S : Type 0) : Type 0 where
  pub act : Act
  pub after : LlcState S

abbrev pub AreBytes : List ℕ → Type 0
AreBytes bytes = (i : ℕ) → slice_index bytes i < 256

-- Whatever else it is that an end does: its MIU and the connections that were asked of it stay, and its service changes
-- so.
pub record DoesElse {S : Type 0} (changes : S → S → Type 0) (old new : LlcState S) : Type 0 where
  pub miu : new.miu ≡ old.miu
  pub served : new.served ≡ old.served
  pub service : changes old.service new.service

-- the end behind its acts
abbrev pub end_after_acts : {S : Type 0} → LlcState S → List (Acted S) → LlcState S
end_after_acts l [] = l
end_after_acts l (a ∷ more) = end_after_acts a.after more

module _ {S : Type 0} (m : Serving S) where
  abbrev pub Does : (S → S → Type 0) → LlcState S → Act → LlcState S → Type 0
  Does changes old (Takes bytes) new = AreBytes bytes × (new ≡ taken_from m old bytes)
  Does changes old (Gives n) new = new ≡ after_giving m n old
  Does changes old Else new = DoesElse changes old new

  -- an end did this, one after the other
  abbrev pub IsRun : (S → S → Type 0) → LlcState S → List (Acted S) → Type 0
  IsRun changes l [] = Unit {0}
  IsRun changes l (a ∷ more) = Does changes l a.act a.after × IsRun changes a.after more

  -- the PDUs that came, marked for the connections of one client's SAP
  abbrev pub marks_by : ℕ → LlcState S → Act → List Mark
  marks_by c l (Takes bytes) = marks m c l (brought l bytes)
  marks_by c l _ = []

  abbrev pub marks_of : ℕ → LlcState S → List (Acted S) → List Mark
  marks_of c l [] = []
  marks_of c l (a ∷ more) = marks_by c l a.act ++ marks_of c a.after more

-- one unit more on the last connection
abbrev pub with_unit : List ℕ → List (List (List ℕ)) → List (List (List ℕ))
with_unit u [] = []
with_unit u (us ∷ []) = (us ++ u ∷ []) ∷ []
with_unit u (us ∷ vs ∷ more) = us ∷ with_unit u (vs ∷ more)

-- The state of such a service tells of each client's SAP the units that were brought on each of its connections, the
-- last one last.
pub record Tells {S : Type 0} (m : Serving S) (told : ℕ → S → List (List (List ℕ))) : Type 0 where
  pub begun : (s : S) (c : ℕ) → IsSap c → told c (m.begun s c) ≡ told c s ++ [] ∷ []
  pub begun_else : (s : S) (c d : ℕ) → IsSap c → d ≢ c → told c (m.begun s d) ≡ told c s
  pub brought : (s : S) (c : ℕ) (u : List ℕ) → IsSap c → told c (m.brought s c u) ≡ with_unit u (told c s)
  pub brought_else : (s : S) (c d : ℕ) (u : List ℕ) → IsSap c → d ≢ c → told c (m.brought s d u) ≡ told c s
  pub sent : (s : S) (c d miu : ℕ) → IsSap c → told c (m.sent s d miu) ≡ told c s

abbrev pub TellsSame : {S : Type 0} → (ℕ → S → List (List (List ℕ))) → S → S → Type 0
TellsSame told s t = (c : ℕ) → IsSap c → told c t ≡ told c s

-- Whatever payloads come after a restart, and whatever the end does between them: the units that are brought to its
-- service for each client's SAP are those of the connections of this SAP, in order.
abbrev pub UnitsLaw : {S : Type 0} → Serving S → Type 0
UnitsLaw {S} m =
    (told : ℕ → S → List (List (List ℕ))) → Tells m told → (old : LlcState S) (general : List ℕ) (run : List (Acted S))
    → IsRun m (TellsSame told) (restarted m old general) run → (c : ℕ) → IsSap c
    → told c (end_after_acts (restarted m old general) run).service
    ≡ told c (m.renewed old.service) ++ units c old.miu None (marks_of m c (restarted m old general) run)
