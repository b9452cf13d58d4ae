-- No frame of an exchange begins a link.
use Rattle.std.proofs.Common.{◌≡◌, ◌==◌, nat_lt, ℕ, ◌++◌, List, length, Bool, true, false, if◌then◌else◌, Option, Some, None, refl, sym, ◌∙◌, ap}
use Rattle.nfc_base.specs.Signal.{Signal}
use Rattle.nfc_base.specs.Far.{Restarts}
use Rattle.dep_pdu.specs.declared.frame.DepFrame.{DepFrame}
use Rattle.dep_pdu.specs.declared.frame.DepFrame.TheVariants.{AtrReq, AtrRes, Info, Ack, Nack, Attention, Extend, DslReq, DslRes, RlsReq, RlsRes}
use Rattle.dep_pdu.specs.Spelling.{IsDepFrame}
use Rattle.dep_link.specs.Sizes.{limit}
use Rattle.dep_link.specs.Frames.{after}
use Rattle.dep_link.specs.Target.{TargetState, TargetMove, Does, Stays, Answers, Begins, Delivers, Sleeps, Frees, stays, again, repeated, grown, gathered, drawn, extended, heeded, framed, framed_does}
use Rattle.dep_link.specs.Target.{target_table}
use Rattle.dep_link.specs.Peers.{target_use, IsAskedFrame, IsAsked}
use Rattle.dep_link.proofs.Wire.{target_heeds}

-- a move that begins no link
abbrev BeginsNone : TargetMove → Type 0
BeginsNone m = (general : List ℕ) (v : DepFrame) → m.does ≡ Begins general v → ⊥

if_none : (b : Bool) (m n : TargetMove) → BeginsNone m → BeginsNone n → BeginsNone (if b then m else n)
if_none true m n p q = p
if_none false m n p q = q

again_none : (t : TargetState) (o : Option DepFrame) → BeginsNone (again t o)
again_none t None = λ g v e. absurd (cc)
again_none t (Some a) = λ g v e. absurd (cc)

stays_none : (t : TargetState) → BeginsNone (stays t)
stays_none t = λ g v e. absurd (cc)

repeated_none : (t : TargetState) (pni : ℕ) → BeginsNone (repeated t pni)
repeated_none t pni = if_none (after pni == t.expected) _ _ (again_none t t.last) (stays_none t)

grown_none : (t : TargetState) (more : Bool) (pni : ℕ) (xs : List ℕ) → BeginsNone (grown t more pni xs)
grown_none t true pni xs = λ g v e. absurd (cc)
grown_none t false pni xs = λ g v e. absurd (cc)

gathered_none : (t : TargetState) (more : Bool) (pni : ℕ) (xs : List ℕ) → BeginsNone (gathered t more pni xs)
gathered_none t more pni xs = if_none (nat_lt limit (length xs)) _ _ (λ g v e. absurd (cc)) (grown_none t more pni xs)

drawn_none : (t : TargetState) (pni : ℕ) → BeginsNone (drawn t pni)
drawn_none t pni = if_none (if nat_lt 0 t.due then false else t.unsent) _ _ (λ g v e. absurd (cc)) (stays_none t)

extended_none : (t : TargetState) (times : ℕ) → BeginsNone (extended t times)
extended_none t times =
    if_none (nat_lt 0 t.due) _ _
    (if_none (times == t.times) _ _ (if_none (nat_lt 1 t.due) _ _ (λ g v e. absurd (cc)) (λ g v e. absurd (cc))) (stays_none t))
    (if_none t.followed _ _ (again_none t t.last) (stays_none t))

asked_none : (t : TargetState) (v : DepFrame) → IsAskedFrame v → BeginsNone (heeded t v)
asked_none t (Info false more pni content) a =
    if_none t.mute _ _ (stays_none t) (if_none (pni == t.expected) _ _ (gathered_none t more pni (t.chain ++ content.items)) (repeated_none t pni))
asked_none t (Ack false pni) a = if_none t.mute _ _ (stays_none t) (if_none (pni == t.expected) _ _ (drawn_none t pni) (repeated_none t pni))
asked_none t (Nack pni) a = if_none t.mute _ _ (stays_none t) (repeated_none t pni)
asked_none t (Attention false) a = if_none t.mute _ _ (stays_none t) (λ g v e. absurd (cc))
asked_none t (Info true more pni content) a = absurd a
asked_none t (Ack true pni) a = absurd a
asked_none t (Attention true) a = absurd a
asked_none t (AtrReq id lr general) a = absurd a
asked_none t (AtrRes id timeout lr general) a = absurd a
asked_none t (Extend false times) a = if_none t.mute _ _ (stays_none t) (extended_none t times)
asked_none t (Extend true times) a = absurd a
asked_none t DslReq a = absurd a
asked_none t DslRes a = absurd a
asked_none t RlsReq a = absurd a
asked_none t RlsRes a = absurd a

asked_range : (v : DepFrame) → IsAskedFrame v → IsDepFrame v
asked_range (Info false more pni content) a = a
asked_range (Ack false pni) a = a
asked_range (Nack pni) a = a
asked_range (Attention false) a = tt
asked_range (Info true more pni content) a = absurd a
asked_range (Ack true pni) a = absurd a
asked_range (Attention true) a = absurd a
asked_range (AtrReq id lr general) a = absurd a
asked_range (AtrRes id timeout lr general) a = absurd a
asked_range (Extend false times) a = a
asked_range (Extend true times) a = absurd a
asked_range DslReq a = absurd a
asked_range DslRes a = absurd a
asked_range RlsReq a = absurd a
asked_range RlsRes a = absurd a

use_none : (d : Does) → ((general : List ℕ) (v : DepFrame) → d ≡ Begins general v → ⊥) → (general : List ℕ) → target_use (framed_does d) ≡ Restarts general → ⊥
use_none Stays n general e = absurd (cc)
use_none (Answers v) n general e = absurd (cc)
use_none (Begins g v) n general e = absurd (n g v refl)
use_none (Delivers xs) n general e = absurd (cc)
use_none (Sleeps v) n general e = absurd (cc)
use_none (Frees v) n general e = absurd (cc)

-- no frame of an exchange begins a link
pub never_begins : (t : TargetState) (f : Signal) → IsAsked f → (general : List ℕ) → target_use (target_table t f).does ≡ Restarts general → ⊥
never_begins t f a general e =
    let k : target_table t f ≡ framed (heeded t a.value) = ap (target_table t) a.frame ∙ target_heeds t a.value (asked_range a.value a.asked) in
    use_none (heeded t a.value).does (asked_none t a.value a.asked) general (sym (ap (λ x. target_use x.does) k) ∙ e)
