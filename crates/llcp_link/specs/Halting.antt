-- What want of memory leaves of an end.
use Rattle.std.specs.Prelude.{◌≡◌, ◌⊎◌, true, List, ◌++◌}
use Rattle.llcp_link.specs.Serving.{Serving}
use Rattle.llcp_link.specs.State.{LlcState}
use Rattle.llcp_link.specs.Taking.{Item, steps}

-- what no PDU changes of an end
pub record IsSame {S : Type 0} (old new : LlcState S) : Type 0 where
  pub miu : new.miu ≡ old.miu
  pub window : new.window ≡ old.window
  pub bound : new.bound ≡ old.bound
  pub readable : new.readable ≡ old.readable
  pub far_miu : new.far_miu ≡ old.far_miu
  pub stuck : new.stuck ≡ old.stuck

-- the service is as it was, or as a call of it leaves it that want of memory ended
abbrev pub LeavesService : {S : Type 0} → Serving S → S → S → Type 0
LeavesService m old new = (new ≡ old) ⊎ m.keeps old new

-- The end took some first of these PDUs, and then memory was wanting.
pub record Halts {S : Type 0} (m : Serving S) (old : LlcState S) (items : List Item) (new : LlcState S) : Type 0 where
  pub front : List Item
  pub behind : List Item
  pub split : items ≡ front ++ behind
  pub service : LeavesService m (steps m old front).service new.service

-- Memory was wanting: until a restart payloads are neither taken nor given. What no payload changes is as it was,
-- and the service is as some first of the PDUs leave it.
pub record IsStuck {S : Type 0} (m : Serving S) (old : LlcState S) (items : List Item) (new : LlcState S) : Type 0 where
  pub stuck : new.stuck ≡ true
  pub miu : new.miu ≡ old.miu
  pub window : new.window ≡ old.window
  pub bound : new.bound ≡ old.bound
  pub halts : Halts m old items new
