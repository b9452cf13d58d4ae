-- While of a reply only a front comes, a target with another reply of that front does the same.
use Rattle.std.proofs.Common.{◌≡◌, ℕ, ◌<◌, ◌≤◌, nat_lt, true, false, List, [], ◌∷◌, ◌++◌, length, take, drop, Option, Some, None, refl, sym, ap, ◌∙◌, subst, arith, append_assoc, length-append}
use Rattle.std.proofs.lemmas.Bool.{ltb-true}
use Rattle.std.proofs.lemmas.List.{take-append-drop, length-take-le, append_cancel_left, append_cancel_right}
use Rattle.std.proofs.Math.Seq.{drop-append_seam}
use Rattle.nfc_base.specs.Signal.{Signal}
use Rattle.dep_pdu.specs.declared.frame.DepFrame.{DepFrame}
use Rattle.dep_link.specs.declared.target.TargetStep.{TargetStep}
use Rattle.dep_link.specs.declared.target.TargetStep.TheVariants as steps
use Rattle.dep_link.specs.Exchange.{before_frames}
use Rattle.dep_link.specs.Frames.{spelled}
use Rattle.dep_link.specs.Initiator.{InitState}
use Rattle.dep_link.specs.Payloads.{Cut}
use Rattle.dep_link.specs.Replies.{cut_up}
use Rattle.dep_link.specs.Target.{TargetState, target_table}
use Rattle.link_numbers.proofs.far.Spoken.{Speaks, none_said, some_said, all_said}
use Rattle.link_numbers.proofs.far.Paired.{Paired, Answering, Passed, passed}
use Rattle.link_numbers.proofs.far.Growing.{chain_grows, payloads_grow}
use Rattle.link_numbers.proofs.far.SameSo.{Alike, SameTurn, keeps, sends, anew, same_turn}

-- Of the reply under way the frames vs that are ahead bring these bytes more and not all, and two targets have them alike.
pub record Begun (vs : List DepFrame) (t u : TargetState) (U : Cut) (past : List (List ℕ)) : Type 0 where
  pub none_whole : length (cut_up U vs).payloads ≡ length past
  pub xs : List ℕ
  pub ahead : (cut_up U vs).chain ≡ U.chain ++ xs
  pub alike : Alike xs t u

-- frames one after another
pub cut_up_then : (c : Cut) (o : Option DepFrame) (vs : List DepFrame) → cut_up c (before_frames o vs) ≡ cut_up (cut_up c (before_frames o [])) vs
cut_up_then c None vs = refl
cut_up_then c (Some v) vs = refl

-- What was said, and what is left, are the reply, unless all of it was said.
pub said_left : (t : TargetState) (r : List ℕ) (past : List (List ℕ)) (U : Cut) → Speaks t r past U → t.unsent ≡ true → (r ≡ U.chain ++ t.left) × (U.payloads ≡ past)
said_left t r past U (none_said due unsent left is) n = (sym left ∙ ap (λ (c : Cut). c.chain ++ t.left) (sym is), ap (λ (c : Cut). c.payloads) is)
said_left t r past U (some_said due unsent xs whole size rest is) n = (whole ∙ ap (λ (c : Cut). c.chain ++ t.left) (sym is), ap (λ (c : Cut). c.payloads) is)
said_left t r past U (all_said due unsent left is) n = absurd (let e : true ≡ false = sym n ∙ unsent in cc)

-- not all was said where no payload more is whole, also of what comes
pub not_all : (t : TargetState) (r : List ℕ) (past : List (List ℕ)) (U : Cut) (vs : List DepFrame) → Speaks t r past U → length (cut_up U vs).payloads ≡ length past → t.unsent ≡ true
not_all t r past U vs (none_said due unsent left is) e = unsent
not_all t r past U vs (some_said due unsent xs whole size rest is) e = unsent
not_all t r past U vs (all_said due unsent left is) e =
    let g = payloads_grow U vs in
    let all : (cut_up U vs).payloads ≡ (past ++ r ∷ []) ++ g.0 = g.1 ∙ ap (λ (c : Cut). c.payloads ++ g.0) is in
    let p = ap length all in
    let q = length-append (past ++ r ∷ []) g.0 in
    let s = length-append past (r ∷ []) in
    absurd (omega (arith, e, p, q, s))

module _ (i : InitState) (f : Signal) (t u : TargetState) (U : Cut) (past : List (List ℕ)) (r : List ℕ) (a : Signal) (vs : List DepFrame) where
  -- the cut with the answer
  abbrev V : Cut
  V = cut_up U (before_frames (spelled a) [])

  ahead_is : cut_up U (before_frames (spelled a) vs) ≡ cut_up V vs
  ahead_is = cut_up_then U (spelled a) vs

  module _ (p : Paired i f t U past (Some r)) (b : Begun (before_frames (spelled a) vs) t u U past) (does : (target_table t f).does ≡ steps.Reply a) where
    abbrev t1 : TargetState
    t1 = (target_table t f).state

    abbrev u1 : TargetState
    u1 = (target_table u f).state

    answering : Answering i a t1 V past (Some r)
    answering = subst (λ (d : TargetStep). Passed i t1 U past (Some r) d) does (passed i f t U past (Some r) p)

    none_whole : length (cut_up V vs).payloads ≡ length past
    none_whole = ap (λ (c : Cut). length c.payloads) (sym ahead_is) ∙ b.none_whole

    now : (r ≡ U.chain ++ t.left) × (U.payloads ≡ past)
    now = said_left t r past U p.said b.alike.unsent

    unsent : t1.unsent ≡ true
    unsent = not_all t1 r past V vs answering.said none_whole

    next : (r ≡ V.chain ++ t1.left) × (V.payloads ≡ past)
    next = said_left t1 r past V answering.said unsent

    ahead : (cut_up V vs).chain ≡ U.chain ++ b.xs
    ahead = ap (λ (c : Cut). c.chain) (sym ahead_is) ∙ b.ahead

    abbrev Next : Type 0
    Next = ((target_table u f).does ≡ steps.Reply a) × Begun vs t1 u1 V past

    -- nothing of the reply was sent
    kept : (target_table t f).does ≡ (target_table u f).does → t1.left ≡ t.left → Alike b.xs t1 u1 → Next
    kept e l h =
        let chain : U.chain ≡ V.chain =
        append_cancel_right U.chain V.chain t.left (sym now.0 ∙ next.0 ∙ ap (λ zs. V.chain ++ zs) l) in
        (sym e ∙ does, record { none_whole = none_whole; xs = b.xs; ahead = ahead ∙ ap (λ zs. zs ++ b.xs) chain; alike = h })

    -- a piece of it was
    more : t1.left ≡ drop t.most t.left → t1.unsent ≡ nat_lt t.most (length t.left)
        → (t.most ≤ length b.xs → ((target_table t f).does ≡ (target_table u f).does) × Alike (drop t.most b.xs) t1 u1) → Next
    more l n h =
        let longer : t.most < length t.left = ltb-true t.most (length t.left) (sym n ∙ unsent) in
        let size : length (take t.most t.left) ≡ t.most = length-take-le t.most t.left (omega (arith, longer)) in
        let halves : r ≡ (U.chain ++ take t.most t.left) ++ t1.left =
        now.0 ∙ ap (λ zs. U.chain ++ zs) (sym (take-append-drop t.most t.left)) ∙ sym (append_assoc U.chain (take t.most t.left) (drop t.most t.left))
        ∙ ap (λ zs. (U.chain ++ take t.most t.left) ++ zs) (sym l) in
        let chain : V.chain ≡ U.chain ++ take t.most t.left = append_cancel_right V.chain (U.chain ++ take t.most t.left) t1.left (sym next.0 ∙ halves) in
        let ws = chain_grows V vs (none_whole ∙ ap length (sym next.1)) in
        let both : U.chain ++ b.xs ≡ U.chain ++ (take t.most t.left ++ ws.0) = sym ahead ∙ ws.1 ∙ ap (λ zs. zs ++ ws.0) chain ∙ append_assoc U.chain (take t.most t.left) ws.0 in
        let bytes : b.xs ≡ take t.most t.left ++ ws.0 = append_cancel_left U.chain b.xs (take t.most t.left ++ ws.0) both in
        let long = ap length bytes in
        let sum = length-append (take t.most t.left) ws.0 in
        let g = h (omega (arith, long, sum, size)) in
        let rest : drop t.most b.xs ≡ ws.0 = ap (drop t.most) bytes ∙ ap (λ k. drop k (take t.most t.left ++ ws.0)) (sym size) ∙ drop-append_seam (take t.most t.left) ws.0 in
        (sym g.0 ∙ does, record { none_whole = none_whole; xs = ws.0; ahead = ws.1; alike = subst (λ zs. Alike zs t1 u1) rest g.1 })

    by_turn : SameTurn b.xs t (target_table t f) (target_table u f) → Next
    by_turn (keeps e l h) = kept e l h
    by_turn (sends pni e l n h) = more l n h
    by_turn (anew general g e h) = absurd (subst (λ (d : TargetStep). Passed i t1 U past (Some r) d) e (passed i f t U past (Some r) p))

    -- A turn whose request passed, at which the target answers a: the other answers a too.
    pub begun_turn : Next
    begun_turn = by_turn (same_turn b.xs t u f b.alike)
