-- What one answer tells of the next piece.
use Rattle.std.proofs.Common.{◌≡◌, ℕ, inl, List}
use Rattle.nfc_base.specs.Signal.{Signal}
use Rattle.nfc_base.specs.TagLinks.{LinkView, IsAnswer}
use Rattle.tag_reader.specs.declared.how.How.{How}
use Rattle.tag_reader.specs.declared.fault.ReadFault.{ReadFault}
use Rattle.tag_reader.specs.declared.fault.ReadFault.TheVariants as fault
use Rattle.tag_reader.specs.Heard.{next_command, EndsTag, IsLast, IsFaultBy}
use Rattle.tag_reader.specs.HeardSteps.{TellsFault, Under}
use Rattle.tag_reader.proofs.Bringing.{under_stops, no_form}

-- a fault of the answer, where a refusal ends the reading
pub told_fault : (how : How) (a b c : LinkView) (ps : List (List ℕ)) (f r : Signal) (e : ReadFault) → Under how a b ps → f ≡ next_command how ps → IsAnswer b c f r →
    IsLast how ps → (EndsTag how ps r → ⊥) → TellsFault how r e → IsFaultBy how a c e
told_fault how a b c ps f r (fault.Refused code) u is answer last ends tells =
    record { ps = ps; r = r; stopped = under_stops how a b c ps f r u is answer; refuses = tells; last = last; ends = ends }
told_fault how a b c ps f r fault.Protocol u is answer last ends tells = inl (record { ps = ps; r = r; stopped = under_stops how a b c ps f r u is answer; odd = no_form how ps r tells })
told_fault how a b c ps f r fault.NotNdef u is answer last ends tells = absurd tells
told_fault how a b c ps f r fault.Version u is answer last ends tells = absurd tells
told_fault how a b c ps f r fault.NoRead u is answer last ends tells = absurd tells
told_fault how a b c ps f r fault.Sectors u is answer last ends tells = absurd tells
told_fault how a b c ps f r fault.BadSize u is answer last ends tells = absurd tells
told_fault how a b c ps f r fault.NoMessageTlv u is answer last ends tells = absurd tells
told_fault how a b c ps f r fault.BadTlv u is answer last ends tells = absurd tells
told_fault how a b c ps f r fault.FieldLost u is answer last ends tells = absurd tells
told_fault how a b c ps f r fault.SixBad u is answer last ends tells = absurd tells
told_fault how a b c ps f r fault.Memory u is answer last ends tells = absurd tells
