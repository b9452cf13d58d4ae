-- What an end's service does with the connections to it, each named by its client's SAP.
use Rattle.std.specs.Prelude.{ℕ, List, Option, Some, None}

-- What services of one type do, as functions of their state: a connection of a client's SAP begins; a unit is brought
-- on it; the unit that it sends next, of at most so many bytes; the service once it is sent; what is left of it when a
-- new link begins. And what a call that want of memory ended leaves.
pub record Serving (S : Type 0) : Type 1 where
  pub begun : S → ℕ → S
  pub brought : S → ℕ → List ℕ → S
  pub due : S → ℕ → ℕ → Option (List ℕ)
  pub sent : S → ℕ → ℕ → S
  pub renewed : S → S
  pub keeps : S → S → Type 0

-- the service once it was asked for a unit: one that gave none is as it was
abbrev pub asked_so : {S : Type 0} → S → S → Option (List ℕ) → S
asked_so old sent None = old
asked_so old sent (Some u) = sent

abbrev pub asked : {S : Type 0} → Serving S → S → ℕ → ℕ → S
asked m s ssap miu = asked_so s (m.sent s ssap miu) (m.due s ssap miu)
