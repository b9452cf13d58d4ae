-- In exchanges one after another, over every air, each payload is delivered once and in order; only the last, where no reply came,
-- may be missing. What is owed for it is the law of one exchange.
use Rattle.std.proofs.Common.{◌≡◌, inl, inr, ℕ, false, if◌then◌else◌, List, [], ◌∷◌, ◌++◌, Option, Some, None, refl, sym, ◌∙◌, ap, subst, append_assoc, append-nil}
use Rattle.std.specs.List.{AllByRecursion}
use Rattle.std.specs.Option.{is_some, option_to_list}
use Rattle.nfc_base.specs.StopAndWait.{Finished, SixBad, Protocol, Stage, Requests, Answers, Over, Dark, StopAndWait, World, IsEnding, IsReplyTo, Once, delivered_of}
use Rattle.nfc_base.specs.Sessions.{Attempt, Fits, ended_with, is_replied, DeliversAll, exchanged, session, asked_in, replies_in, replies_due, SessionDelivers, SessionBrings, SessionReplies}

-- From where an exchange may begin each keeps the law of one, and what was delivered by then is what the frames bring.
pub record KeepsEach {I T F : Type 0} (L : StopAndWait I T F) (begins : World I T F → List ℕ → World I T F) (Ready : World I T F → Type 0) (limit : ℕ) : Type 0 where
  pub brings : (w : World I T F) → Ready w → L.payloads w.arrived ≡ w.delivered
  pub out : World I T F → List ℕ → ℕ
  pub back : World I T F → List ℕ → ℕ
  pub once : (w : World I T F) (q : Attempt) → Ready w → Fits limit q
      → Once L Ready (IsReplyTo q.far q.payload) w.delivered q.payload (out w q.payload) (back w) (exchanged L begins w q)

module _ {I T F : Type 0} (L : StopAndWait I T F) (begins : World I T F → List ℕ → World I T F) (Ready : World I T F → Type 0) (limit : ℕ) (K : KeepsEach L begins Ready limit) where
  -- where the reply came it was given, and the next exchange may begin
  given_then : (w : World I T F) (s : Stage F) (r : List ℕ) → IsEnding Ready w s → ended_with s ≡ Some r → (w.given ≡ Some r) × Ready w
  given_then w (Over (Finished x)) r e h = (e.0 ∙ h, e.1)
  given_then w (Over SixBad) r e h = absurd (cc)
  given_then w (Over Protocol) r e h = absurd (cc)
  given_then w (Requests f) r e h = absurd (cc)
  given_then w (Answers f) r e h = absurd (cc)
  given_then w Dark r e h = absurd (cc)

  delivered_or_not : (before : List (List ℕ)) (p : List ℕ) (g : Option (List ℕ)) (w : World I T F)
      → w.delivered ≡ before ++ delivered_of p g → is_replied w.stage ≡ false → DeliversAll before (p ∷ []) w
  delivered_or_not before p None w o h = inr (p, ap (λ (ps : List (List ℕ)). ps ++ p ∷ []) (o ∙ append-nil before), h)
  delivered_or_not before p (Some r) w o h = inl o

  -- what was asked behind a payload that was delivered
  behind : (before : List (List ℕ)) (p : List ℕ) (mid asked : List (List ℕ)) (w : World I T F)
      → mid ≡ before ++ p ∷ [] → DeliversAll mid asked w → DeliversAll before (p ∷ asked) w
  behind before p mid asked w e (inl h) = inl (h ∙ ap (λ (ps : List (List ℕ)). ps ++ asked) e ∙ append_assoc before (p ∷ []) asked)
  behind before p mid asked w e (inr (last, h, n)) = inr (last, h ∙ ap (λ (ps : List (List ℕ)). ps ++ asked) e ∙ append_assoc before (p ∷ []) asked, n)

  -- all that is known of a session
  pub record Holds (before asked replies due : List (List ℕ)) (w : World I T F) : Type 0 where
    pub delivers : DeliversAll before asked w
    pub brings : L.payloads w.arrived ≡ w.delivered
    pub replied : replies ≡ due

  session_holds : (w : World I T F) (qs : List Attempt) → Ready w → AllByRecursion (Fits limit) qs
      → Holds w.delivered (asked_in L begins w qs) (replies_in L begins w qs) (replies_due L begins w qs) (session L begins w qs)
  session_holds w [] r f = record { delivers = inl (sym (append-nil w.delivered)); brings = K.brings w r; replied = refl }
  session_holds w (q ∷ qs) r f = go (ended_with next.stage) refl (λ y. session_holds next qs y f.1)
    where
      next : World I T F
      next = exchanged L begins w q

      o : Once L Ready (IsReplyTo q.far q.payload) w.delivered q.payload (K.out w q.payload) (K.back w) next
      o = K.once w q r f.0

      go : (x : Option (List ℕ)) → ended_with next.stage ≡ x
          → (Ready next → Holds next.delivered (asked_in L begins next qs) (replies_in L begins next qs) (replies_due L begins next qs) (session L begins next qs))
          → Holds w.delivered (q.payload ∷ (if is_some x then asked_in L begins next qs else [])) (option_to_list x ++ (if is_some x then replies_in L begins next qs else []))
          (if is_some x then q.far q.payload ∷ replies_due L begins next qs else []) (if is_some x then session L begins next qs else next)
      go None e later =
          record { delivers = delivered_or_not w.delivered q.payload next.given next o.once (ap is_some e); brings = o.brings; replied = refl }
      go (Some x) e later =
          let y = given_then next next.stage x o.ending e in
          let h = later y.1 in
          let z : x ≡ q.far q.payload = subst (λ (g : Option (List ℕ)). IsReplyTo q.far q.payload g) y.0 o.reply in
          let d : next.delivered ≡ w.delivered ++ q.payload ∷ [] = o.once ∙ ap (λ (g : Option (List ℕ)). w.delivered ++ delivered_of q.payload g) y.0 in
          record {
            delivers = behind w.delivered q.payload next.delivered (asked_in L begins next qs) (session L begins next qs) d h.delivers;
            brings = h.brings;
            replied = rw z (ap (λ (rs : List (List ℕ)). q.far q.payload ∷ rs) h.replied);
          }

  pub session_delivers : SessionDelivers L begins Ready limit
  session_delivers w qs r f = (session_holds w qs r f).delivers

  pub session_brings : SessionBrings L begins Ready limit
  session_brings w qs r f = (session_holds w qs r f).brings

  pub session_replies : SessionReplies L begins Ready limit
  session_replies w qs r f = (session_holds w qs r f).replied
