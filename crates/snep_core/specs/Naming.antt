-- Under which name, and to which SAP, a SNEP server is bound (NFC Forum SNEP 1.0).
use Rattle.std.specs.Prelude.{ℕ, List, codes}
use Rattle.llcp_link.specs.State.{Bound}
use Rattle.snep_core.specs.Talk.{server_sap}

abbrev pub snep_name : List ℕ
snep_name = codes "urn:nfc:sn:snep"

abbrev pub snep_bound : Bound
snep_bound = record { name = snep_name; sap = server_sap }
