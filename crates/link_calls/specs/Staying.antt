-- What stays of a peer's end, whatever it is handed (NFC Forum LLCP 1.3 and SNEP 1.0).
use Rattle.std.specs.Prelude.{ℕ, List}
use Rattle.llcp_link.specs.State.{Bound}
use Rattle.snep_core.specs.Accord.{PeerState}
use Rattle.snep_core.specs.Session.{Offer}

-- An end's MIU, its receive window and its names, and of its server the limit and the table for get. No payload changes
-- any of it.
pub record Setting : Type 0 where
  pub miu : ℕ
  pub window : ℕ
  pub bound : List Bound
  pub limit : ℕ
  pub table : List Offer

abbrev pub setting_of : PeerState → Setting
setting_of l = record {
  miu = l.miu;
  window = l.window;
  bound = l.bound;
  limit = l.service.limit;
  table = l.service.table;
}
