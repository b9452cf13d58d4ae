-- Binding a name to a SAP, under which other ends reach this end's service (NFC Forum LLCP 1.3).
use Rattle.std.specs.Prelude.{◌≡◌, ℕ, nat_eq, nat_lt, ◌||◌, Bool, List, [], ◌∷◌, ◌++◌, is_some, Option, Some, None}
use Rattle.std.specs.Prelude.{if◌then◌else◌}
use Rattle.std.specs.Cmp.Lexicographic.{pointwise}
use Rattle.llcp_link.specs.declared.fault.LlcFault.{LlcFault}
use Rattle.llcp_link.specs.declared.fault.LlcFault.TheVariants.{NameTaken, SapTaken}
use Rattle.llcp_link.specs.State.{Bound, LlcState}
use Rattle.llcp_link.specs.Names.{discovery_name, bound_to, is_bound}

-- the name of service discovery is taken; SAP 0 is that of the link, 1 that of service discovery
abbrev pub is_name_taken : List ℕ → List Bound → Bool
is_name_taken name bound = pointwise nat_eq name discovery_name || is_some (bound_to name bound)

abbrev pub is_sap_taken : ℕ → List Bound → Bool
is_sap_taken sap bound = nat_lt sap 2 || is_bound sap bound

-- why a name isn't bound to a SAP, if it isn't
abbrev pub binding_refusal : List Bound → List ℕ → ℕ → Option LlcFault
binding_refusal bound name sap =
    if is_name_taken name bound then Some NameTaken else (if is_sap_taken sap bound then Some SapTaken else None)

-- a name that isn't refused is bound
pub record Binds {S : Type 0} (old : LlcState S) (name : List ℕ) (sap : ℕ) (new : LlcState S) : Type 0 where
  pub free : binding_refusal old.bound name sap ≡ None
  pub kept : new ≡ record old { bound = old.bound ++ record { name = name; sap = sap } ∷ [] }
