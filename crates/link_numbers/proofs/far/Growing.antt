-- Frames of a target only add to what was brought.
use Rattle.std.proofs.Common.{◌≡◌, ℕ, ◌==◌, Bool, true, false, if◌then◌else◌, List, [], ◌∷◌, ◌++◌, length, refl, sym, ap, ◌∙◌, arith, append-nil, append_assoc, length-append}
use Rattle.dep_pdu.specs.declared.frame.DepFrame.{DepFrame}
use Rattle.dep_pdu.specs.declared.frame.DepFrame.TheVariants.{AtrReq, AtrRes, Info, Ack, Nack, Attention, Extend, DslReq, DslRes, RlsReq, RlsRes}
use Rattle.dep_link.specs.Frames.{after}
use Rattle.dep_link.specs.Payloads.{Cut, joined}
use Rattle.dep_link.specs.Replies.{taken_up, cut_up}

-- The payloads of c come first; where no payload more is whole, the chain begins as that of c.
record Grows (c d : Cut) : Type 0 where
  payloads : (ps : List (List ℕ)) × (d.payloads ≡ c.payloads ++ ps)
  chain : length d.payloads ≡ length c.payloads → (ws : List ℕ) × (d.chain ≡ c.chain ++ ws)

stays : (c : Cut) → Grows c c
stays c = record { payloads = ([], sym (append-nil c.payloads)); chain = λ e. ([], sym (append-nil c.chain)) }

onwards : (c d e : Cut) → Grows c d → Grows d e → Grows c e
onwards c d e g h = record {
  payloads = (g.payloads.0 ++ h.payloads.0, h.payloads.1 ∙ ap (λ ps. ps ++ h.payloads.0) g.payloads.1 ∙ append_assoc c.payloads g.payloads.0 h.payloads.0);
  chain = λ q.
      let p = ap length g.payloads.1 in
      let pl = length-append c.payloads g.payloads.0 in
      let r = ap length h.payloads.1 in
      let rl = length-append d.payloads h.payloads.0 in
      let x = g.chain (omega (arith, q, p, pl, r, rl)) in
      let y = h.chain (omega (arith, q, p, pl, r, rl)) in
      (x.0 ++ y.0, y.1 ∙ ap (λ zs. zs ++ y.0) x.1 ∙ append_assoc c.chain x.0 y.0);
}

if_grows : (b : Bool) (c d : Cut) → Grows c d → Grows c (if b then d else c)
if_grows true c d g = g
if_grows false c d g = stays c

joined_grows : (c : Cut) (more : Bool) (xs : List ℕ) → Grows c (joined c more (c.chain ++ xs))
joined_grows c true xs = record { payloads = ([], sym (append-nil c.payloads)); chain = λ e. (xs, refl) }
joined_grows c false xs = record {
  payloads = ((c.chain ++ xs) ∷ [], refl);
  chain = λ e. absurd (let l = length-append c.payloads ((c.chain ++ xs) ∷ []) in omega (arith, e, l));
}

one_grows : (c : Cut) (v : DepFrame) → Grows c (taken_up c v)
one_grows c (Info true more pni x) = if_grows (pni == c.next) c (joined c more (c.chain ++ x.items)) (joined_grows c more x.items)
one_grows c (Ack true pni) =
    if_grows (pni == c.next) c (record { next = after c.next; chain = c.chain; payloads = c.payloads })
    (record { payloads = ([], sym (append-nil c.payloads)); chain = λ e. ([], sym (append-nil c.chain)) })
one_grows c (Info false more pni x) = stays c
one_grows c (Ack false pni) = stays c
one_grows c (Nack pni) = stays c
one_grows c (Attention up) = stays c
one_grows c (Extend up times) = stays c
one_grows c (AtrReq id lr general) = stays c
one_grows c (AtrRes id timeout lr general) = stays c
one_grows c DslReq = stays c
one_grows c DslRes = stays c
one_grows c RlsReq = stays c
one_grows c RlsRes = stays c

cut_grows : (c : Cut) (vs : List DepFrame) → Grows c (cut_up c vs)
cut_grows c [] = stays c
cut_grows c (v ∷ vs) = onwards c (taken_up c v) (cut_up (taken_up c v) vs) (one_grows c v) (cut_grows (taken_up c v) vs)

pub payloads_grow : (c : Cut) (vs : List DepFrame) → (ps : List (List ℕ)) × ((cut_up c vs).payloads ≡ c.payloads ++ ps)
payloads_grow c vs = (cut_grows c vs).payloads

pub chain_grows : (c : Cut) (vs : List DepFrame) → length (cut_up c vs).payloads ≡ length c.payloads → (ws : List ℕ) × ((cut_up c vs).chain ≡ c.chain ++ ws)
chain_grows c vs e = (cut_grows c vs).chain e
