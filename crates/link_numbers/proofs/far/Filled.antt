-- Each answer of an exchange whose reply isn't empty has content, if it is a piece.
use Rattle.std.proofs.Common.{◌≡◌, ℕ, ◌<◌, true, List, [], ◌∷◌, length, Option, Some, None, IfSome, refl, ap, ◌∙◌, subst}
use Rattle.std.proofs.lemmas.Bool.{lt-ltb}
use Rattle.nfc_base.specs.Signal.{Signal}
use Rattle.dep_pdu.specs.declared.frame.DepFrame.{DepFrame}
use Rattle.dep_pdu.specs.declared.frame.DepFrame.TheVariants.{AtrReq, AtrRes, Info, Ack, Nack, Attention, Extend, DslReq, DslRes, RlsReq, RlsRes}
use Rattle.dep_link.specs.Exchange.{before_frames}
use Rattle.dep_link.specs.Frames.{spelled}
use Rattle.nfc_base.specs.Pieces.{Core}
use Rattle.dep_link.specs.Initiator.{InitState}
use Rattle.dep_link.specs.Payloads.{Cut}
use Rattle.dep_link.specs.Target.{TargetState}
use Rattle.nfc_base.proofs.Chains.{Held, of_chain, of_reply, of_time}
use Rattle.dep_link.proofs.Standing.{dep_ends, Wait, has, stays_up}
use Rattle.dep_link.proofs.Wire.{written_read}
use Rattle.link_numbers.specs.Shown.{has_content, pieces_of}
use Rattle.link_numbers.proofs.far.Spoken.{IsFilled, Full}
use Rattle.link_numbers.proofs.far.Moving.{held_old}
use Rattle.link_numbers.proofs.far.Paired.{Answering}

content : (v : DepFrame) → IsFilled v → has_content v ≡ true
content (Info up more pni x) h = lt-ltb 0 (length x.items) h
content (Ack up pni) h = refl
content (Nack pni) h = refl
content (Attention up) h = refl
content (Extend up times) h = refl
content (AtrReq id lr general) h = refl
content (AtrRes id timeout lr general) h = refl
content DslReq h = refl
content DslRes h = refl
content RlsReq h = refl
content RlsRes h = refl

-- a frame with content is a piece
frame_pieces : (a : Signal) (v : DepFrame) → spelled a ≡ Some v → IsFilled v → pieces_of (a ∷ []) ≡ before_frames (spelled a) []
frame_pieces a v e h = rw (e, content v h) refl

last_filled : (t : TargetState) (v : DepFrame) → t.last ≡ Some v → IfSome t.last IsFilled → IsFilled v
last_filled t v e h = subst (λ (o : Option DepFrame). IfSome o IsFilled) e h

-- before anything was delivered a target that has what the initiator asks acknowledges
none_filled : (m k : ℕ) (out : List ℕ) (c : Core) (t : TargetState) (n bads : ℕ) (v : DepFrame) → Held dep_ends m k out c t None n bads → t.last ≡ Some v → IsFilled v
none_filled m k out c t n bads v (of_chain h l) e = let q : v ≡ Ack true c.number = (let y = h.last in cc) in rw q tt
none_filled m k out c t n bads v (of_reply bytes h l) e = absurd (let y = h.reply in cc)
none_filled m k out c t n bads v (of_time z h l) e = absurd (let y = h.reply in cc)

held_filled : (m k : ℕ) (out : List ℕ) (c : Core) (t : TargetState) (g : Option (List ℕ)) (n bads : ℕ) (v : DepFrame) → Held dep_ends m k out c t g n bads → t.last ≡ Some v → Full t g
    → IfSome g (λ r. 0 < length r) → IsFilled v
held_filled m k out c t None n bads v h e q s = none_filled m k out c t n bads v h e
held_filled m k out c t (Some r) n bads v h e q s = last_filled t v e (q s)

wait_pieces : (m k : ℕ) (out : List ℕ) (i : InitState) (t : TargetState) (g : Option (List ℕ)) (a : Signal) (n : ℕ) → Wait m k out i t g a n → Full t g → IfSome g (λ r. 0 < length r)
    → pieces_of (a ∷ []) ≡ before_frames (spelled a) []
wait_pieces m k out i t g a n (has p v e l h) q s =
    frame_pieces a v (ap spelled e ∙ written_read v (held_old m k out i.core t g n i.bads v h l).0) (held_filled m k out i.core t g n i.bads v h l q s)
wait_pieces m k out i t g a n (stays_up p e x z l) q s = frame_pieces a (Attention true) (ap spelled e ∙ written_read (Attention true) tt) tt

pub answer_pieces : (i : InitState) (a : Signal) (t : TargetState) (U : Cut) (past : List (List ℕ)) (g : Option (List ℕ)) → Answering i a t U past g → IfSome g (λ r. 0 < length r)
    → pieces_of (a ∷ []) ≡ before_frames (spelled a) []
answer_pieces i a t U past g p s = wait_pieces p.most p.busy p.out i t g a p.ahead p.wait p.full s
