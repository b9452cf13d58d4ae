-- What one PDU that is no AGF does, as a payload.
use Rattle.llcp_pdu.specs.declared.pdu.Pdu.{Pdu}
use Rattle.llcp_pdu.specs.declared.pdu.Pdu.TheVariants.{Agf, One}
use Rattle.llcp_link.specs.Serving.{Serving}
use Rattle.llcp_link.specs.State.{LlcState}
use Rattle.llcp_link.specs.Taking.{steps_part}

abbrev pub stepped : {S : Type 0} → Serving S → LlcState S → Pdu → LlcState S
stepped m l (One p) = steps_part m l p
stepped m l (Agf ps) = l
