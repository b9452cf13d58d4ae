-- What a target delivers has the PNI that it expects, and it expects the next one then.
use Rattle.std.proofs.Common.{◌≡◌, ℕ, ◌==◌, nat_lt, List, [], ◌++◌, length, Bool, true, false, if◌then◌else◌, Option, Some, None, refl, sym, ◌∙◌, ap, subst}
use Rattle.std.proofs.lemmas.Bool.{eqb-true}
use Rattle.arrayvec.specs.ArrayVec.{ArrayVec}
use Rattle.dep_pdu.specs.declared.frame.DepFrame.{DepFrame}
use Rattle.dep_pdu.specs.declared.frame.DepFrame.TheVariants.{AtrReq, AtrRes, Info, Ack, Nack, Attention, Extend, DslReq, DslRes, RlsReq, RlsRes}
use Rattle.dep_link.specs.declared.target.TargetStep.{TargetStep}
use Rattle.dep_link.specs.declared.target.TargetStep.TheVariants as steps
use Rattle.dep_link.specs.Sizes.{limit}
use Rattle.dep_link.specs.Frames.{spelled, after}
use Rattle.dep_link.specs.Target.{TargetState, TargetMove, Does, Stays, Answers, Begins, Delivers, Sleeps, Frees, stays, again, repeated, grown, gathered, extended, heeded, obeyed, framed_does, IsNew}
use Rattle.dep_link.specs.Target.{DeliversAnew}
use Rattle.dep_link.specs.laws.Moves.{IsKept}

kept_if : (b : Bool) (m n : TargetMove) → IsKept m.does → IsKept n.does → IsKept (if b then m else n).does
kept_if true m n p q = p
kept_if false m n p q = q

kept_again : (t : TargetState) (o : Option DepFrame) → IsKept (again t o).does
kept_again t None = tt
kept_again t (Some a) = tt

kept_repeated : (t : TargetState) (pni : ℕ) → IsKept (repeated t pni).does
kept_repeated t pni = kept_if (after pni == t.expected) _ _ (kept_again t t.last) tt

kept_extended : (t : TargetState) (times : ℕ) → IsKept (extended t times).does
kept_extended t times =
    kept_if (nat_lt 0 t.due) _ _ (kept_if (times == t.times) _ _ (kept_if (nat_lt 1 t.due) _ _ tt tt) tt) (kept_if t.followed _ _ (kept_again t t.last) tt)

-- a move at this frame that delivers these bytes has taken them, joined to the chain, with the PNI that was expected
record IsTaken (t : TargetState) (v : DepFrame) (m : TargetMove) (xs : List ℕ) : Type 0 where
  content : ArrayVec ℕ
  brings : v ≡ Info false false t.expected content
  ends : xs ≡ t.chain ++ content.items
  moves : m.state.expected ≡ after t.expected

abbrev TakesAnew : TargetState → DepFrame → TargetMove → Type 0
TakesAnew t v m = (xs : List ℕ) → m.does ≡ Delivers xs → IsTaken t v m xs

never : (t : TargetState) (v : DepFrame) (m : TargetMove) → IsKept m.does → TakesAnew t v m
never t v m k = λ xs e. absurd (subst IsKept e k)

abbrev brought_by : Does → List ℕ
brought_by Stays = []
brought_by (Answers v) = []
brought_by (Begins g v) = []
brought_by (Delivers xs) = xs
brought_by (Sleeps v) = []
brought_by (Frees v) = []

grown_anew : (t : TargetState) (more : Bool) (pni : ℕ) (content : ArrayVec ℕ) → pni ≡ t.expected → TakesAnew t (Info false more pni content) (grown t more pni (t.chain ++ content.items))
grown_anew t true pni content same = never t (Info false true pni content) (grown t true pni (t.chain ++ content.items)) tt
grown_anew t false pni content same = λ xs e.
    record { content = content; brings = ap (λ (n : ℕ). Info false false n content) same; ends = ap brought_by (sym e); moves = refl }

information_anew : (t : TargetState) (more : Bool) (pni : ℕ) (content : ArrayVec ℕ) → TakesAnew t (Info false more pni content) (heeded t (Info false more pni content))
information_anew t more pni content = by_mute t.mute
  where
    v : DepFrame
    v = Info false more pni content

    by_length : (b : Bool) → pni ≡ t.expected → TakesAnew t v (if b then stays (record t { mute = true }) else grown t more pni (t.chain ++ content.items))
    by_length true same = never t v (stays (record t { mute = true })) tt
    by_length false same = grown_anew t more pni content same

    by_number : (b : Bool) → (pni == t.expected) ≡ b → TakesAnew t v (if b then gathered t more pni (t.chain ++ content.items) else repeated t pni)
    by_number true e = by_length (nat_lt limit (length (t.chain ++ content.items))) (eqb-true pni t.expected e)
    by_number false e = never t v (repeated t pni) (kept_repeated t pni)

    by_mute : (b : Bool) → TakesAnew t v (if b then stays t else (if pni == t.expected then gathered t more pni (t.chain ++ content.items) else repeated t pni))
    by_mute true = never t v (stays t) tt
    by_mute false = by_number (pni == t.expected) refl

heeded_anew : (t : TargetState) (v : DepFrame) → TakesAnew t v (heeded t v)
heeded_anew t (Info false more pni content) = information_anew t more pni content
heeded_anew t (Info true more pni content) = never t _ (heeded t (Info true more pni content)) (kept_if t.mute _ _ tt tt)
heeded_anew t (Ack false pni) =
    never t _ (heeded t (Ack false pni)) (kept_if t.mute _ _ tt (kept_if (pni == t.expected) _ _ (kept_if (if nat_lt 0 t.due then false else t.unsent) _ _ tt tt) (kept_repeated t pni)))
heeded_anew t (Ack true pni) = never t _ (heeded t (Ack true pni)) (kept_if t.mute _ _ tt tt)
heeded_anew t (Nack pni) = never t _ (heeded t (Nack pni)) (kept_if t.mute _ _ tt (kept_repeated t pni))
heeded_anew t (Attention false) = never t _ (heeded t (Attention false)) (kept_if t.mute _ _ tt tt)
heeded_anew t (Attention true) = never t _ (heeded t (Attention true)) (kept_if t.mute _ _ tt tt)
heeded_anew t (Extend false times) = never t _ (heeded t (Extend false times)) (kept_if t.mute _ _ tt (kept_extended t times))
heeded_anew t (Extend true times) = never t _ (heeded t (Extend true times)) (kept_if t.mute _ _ tt tt)
heeded_anew t (AtrReq id lr general) = never t _ (heeded t (AtrReq id lr general)) tt
heeded_anew t (AtrRes id timeout lr general) = never t _ (heeded t (AtrRes id timeout lr general)) (kept_if t.mute _ _ tt tt)
heeded_anew t DslReq = never t _ (heeded t DslReq) (kept_if t.mute _ _ tt tt)
heeded_anew t DslRes = never t _ (heeded t DslRes) (kept_if t.mute _ _ tt tt)
heeded_anew t RlsReq = never t _ (heeded t RlsReq) (kept_if t.mute _ _ tt tt)
heeded_anew t RlsRes = never t _ (heeded t RlsRes) (kept_if t.mute _ _ tt tt)

abbrev payload_in : TargetStep → List ℕ
payload_in steps.Quiet = []
payload_in (steps.Reply f) = []
payload_in (steps.Restart general f) = []
payload_in (steps.Deliver payload) = payload.items
payload_in (steps.Asleep f) = []
payload_in (steps.Released f) = []

delivers_what : (d : Does) (xs : List ℕ) → framed_does d ≡ steps.Deliver (record { items = xs }) → d ≡ Delivers xs
delivers_what Stays xs e = absurd (cc)
delivers_what (Answers v) xs e = absurd (cc)
delivers_what (Begins g v) xs e = absurd (cc)
delivers_what (Delivers ys) xs e = ap (λ (z : TargetStep). Delivers (payload_in z)) e
delivers_what (Sleeps v) xs e = absurd (cc)
delivers_what (Frees v) xs e = absurd (cc)

pub delivers_anew : DeliversAnew
delivers_anew t f xs e = by_frame (spelled f) refl
  where
    there : (o : Option DepFrame) → spelled f ≡ o → (obeyed t o).does ≡ steps.Deliver (record { items = xs })
    there o q = subst (λ (z : Option DepFrame). (obeyed t z).does ≡ steps.Deliver (record { items = xs })) q e

    by_frame : (o : Option DepFrame) → spelled f ≡ o → IsNew t f xs
    by_frame None q = absurd (let d = there None q in cc)
    by_frame (Some v) q =
        let a = heeded_anew t v xs (delivers_what (heeded t v).does xs (there (Some v) q)) in
        record { content = a.content; brings = q ∙ ap Some a.brings; ends = a.ends; moves = ap (λ (z : Option DepFrame). (obeyed t z).state.expected) q ∙ a.moves }
