-- What an end becomes where its service is changed.
use Rattle.std.specs.Borrow.{Lends, Fml, RattleType, MutBor}
use Rattle.llcp_link.specs.State.{LlcState}
use Rattle.llcp_link.specs.contracts.llc.Llc.{the_row}

-- the end with this service
abbrev pub with_service : {S : Type 0} → LlcState S → S → LlcState S
with_service l s = record l { service = s }

-- once the borrow ends, the end has the service that was left, and all else as it was
abbrev pub lends_service : (S : RattleType) → MutBor (LlcState S.Denot) → MutBor S.Denot → Fml
lends_service S l r = Lends (the_row S) S l r (with_service l.now)
