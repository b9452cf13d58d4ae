-- What is true of all items of a list stays true where one is added or taken away.
use Rattle.std.proofs.Common.{List, [], ◌∷◌, ◌++◌}
use Rattle.llcp_conn.specs.Conn.{ConnState, IsSap}
use Rattle.llcp_link.specs.State.{Bound, Queued}
use Rattle.llcp_link.specs.Kept.{AllBound, AllSent, AllServed, IsSent, IsServed}

pub all_bound_more : (xs : List Bound) (b : Bound) → AllBound xs → IsSap b.sap → AllBound (xs ++ b ∷ [])
all_bound_more [] b h k = (k, tt)
all_bound_more (x ∷ xs) b h k = (h.0, all_bound_more xs b h.1 k)

pub all_sent_more : (xs : List Queued) (q : Queued) → AllSent xs → IsSent q.part → AllSent (xs ++ q ∷ [])
all_sent_more [] q h k = (k, tt)
all_sent_more (x ∷ xs) q h k = (h.0, all_sent_more xs q h.1 k)

pub all_served_more : (xs : List ConnState) (c : ConnState) → AllServed xs → IsServed c → AllServed (xs ++ c ∷ [])
all_served_more [] c h k = (k, tt)
all_served_more (x ∷ xs) c h k = (h.0, all_served_more xs c h.1 k)
