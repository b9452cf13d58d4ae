-- A connection to the server is asked for, unless one is there.
use Rattle.std.proofs.Common.{◌≡◌, ◌⊎◌, ℕ, Bool, true, false, [], ◌∷◌, ◌++◌, Some, None, refl, ◌∙◌, inl, inr, if◌then◌else◌}
use Rattle.llcp_pdu.specs.declared.part.Part.TheVariants.{Connect}
use Rattle.llcp_link.specs.Asking.{Connects, asked_from, connecting_refusal, is_busy_by, put_own, request}
use Rattle.llcp_link.specs.Names.{own_params}
use Rattle.llcp_link.specs.declared.fault.LlcFault.TheVariants.{Busy, Memory}
use Rattle.snep_core.specs.Talk.{EndState, connected, own_of, server_sap}

module _ (sap : ℕ) (l : EndState) where
  abbrev asked_so : EndState
  asked_so = record l {
    queue = l.queue ++ request (Connect server_sap sap (own_params l.miu l.window)) ∷ [];
    own = put_own (asked_from sap server_sap) l.own;
  }

  free_so : (b : Bool) → is_busy_by (own_of sap l) ≡ b → (if b then Some Busy else None) ≡ None → asked_so ≡ (if b then l else asked_so)
  free_so true i e = absurd cc
  free_so false i e = refl

  pub connected_free : (new : EndState) → Connects l sap server_sap new → new ≡ connected l sap
  connected_free new k = k.kept ∙ free_so (is_busy_by (own_of sap l)) refl k.free

  busy_so : (b : Bool) → (if b then Some Busy else None) ≡ Some Busy → l ≡ (if b then l else asked_so)
  busy_so true e = refl
  busy_so false e = absurd cc

  pub connected_busy : (new : EndState) → new ≡ l → ((Busy ≡ Memory) × (connecting_refusal l sap ≡ None)) ⊎ (connecting_refusal l sap ≡ Some Busy)
      → new ≡ connected l sap
  connected_busy new e (inl k) = absurd (let z = k.0 in cc)
  connected_busy new e (inr k) = e ∙ busy_so (is_busy_by (own_of sap l)) k
