-- Where an initiator stands in a payload that it carries, beside the cut of the frames that it sent; and how the rest of an exchange cuts what
-- is left of the payload.
use Rattle.std.proofs.Common.{◌≡◌, ◌<◌, ◌≤◌, ◌⊎◌, inl, inr, ℕ, ◌+◌, nat_lt, Bool, true, false, List, [], ◌∷◌, ◌++◌, length, take, drop, Option, Some, None, if◌then◌else◌, refl, sym, ap, subst, ◌∙◌}
use Rattle.std.proofs.Common.{arith, append_assoc, append-nil, length-append, length-drop}
use Rattle.std.proofs.Math.Seq.{drop-append_seam}
use Rattle.std.proofs.lemmas.Bool.{cases_lt, lt-ltb}
use Rattle.std.proofs.lemmas.List.{length-take, take-append-drop, take_all}
use Rattle.nfc_base.specs.Signal.{Signal}
use Rattle.nfc_base.specs.declared.carrier.EndCause.{EndCause}
use Rattle.air_core.specs.Conversation.{Note}
use Rattle.dep_pdu.specs.Spelling.{IsDepFrame}
use Rattle.dep_pdu.specs.declared.frame.DepFrame.TheVariants.{Ack}
use Rattle.dep_link.specs.declared.initiator.Phase.{Phase}
use Rattle.dep_link.specs.declared.initiator.Phase.TheVariants.{Asked, Nacked, Attending, Free, EndedSixBad, EndedProtocol}
use Rattle.dep_link.specs.Frames.{after, information, piece, spelled}
use Rattle.dep_link.specs.Payloads.{Cut, taken}
use Rattle.nfc_base.specs.Pieces.{Core, more_follows}
use Rattle.dep_link.specs.Initiator.{InitState, asked, sent}
use Rattle.dep_link.specs.Asking.{Standing, Waits, Rests, Broken, Astray, noted}
use Rattle.nfc_base.proofs.Chains.{not_lt}
use Rattle.dep_link.proofs.Standing.{after_small}
use Rattle.dep_link.proofs.Wire.{is_piece, written_read}
use Rattle.llcp_link.specs.Fronts.{IsProperPrefix}
use Rattle.link_numbers.specs.Shown.{has_content}
use Rattle.link_numbers.proofs.own.OwnCuts.{Grows, open_, closed, ack_again, at, cuts, cuts_behind, cuts_next, cuts_still, grown, taken_ack, taken_again, taken_last, taken_more}
use Rattle.link_numbers.proofs.own.OwnTurns.{Turn, asked_in}
use Rattle.link_numbers.proofs.own.OwnMoving.{Again, Fails, InTimes, Kind, Onward, Wanders, again, frame_due, hears_more, kind_of, made, onward}
use Rattle.link_numbers.proofs.far.FarShows.{behind}

-- its parts are in the ranges of the frames that it sends, and a piece has two bytes or more where others follow
pub record Fit (c : Core) : Type 0 where
  pub number : c.number < 4
  pub some : 2 ≤ c.most
  pub fits : c.most ≤ 251
  pub times : InTimes c.extension

-- the piece that is due wasn't sent yet
pub record Unsent (i : InitState) : Type 0 where
  pub phase : i.phase ≡ Asked
  pub plain : i.core.extension ≡ None
  pub sending : i.core.drawing ≡ false
  pub some : 0 < length i.core.rest

-- this piece was sent, and these bytes follow it
pub record Midst (i : InitState) (sent behind : List ℕ) : Type 0 where
  pub sending : i.core.drawing ≡ false
  pub is : i.core.rest ≡ sent ++ behind
  pub full : length sent ≡ i.core.most
  pub some : 0 < length behind

-- the payload is whole, and the next piece of the reply wasn't asked for yet
pub record Drawing (i : InitState) : Type 0 where
  pub phase : i.phase ≡ Asked
  pub plain : i.core.extension ≡ None
  pub receiving : i.core.drawing ≡ true

-- what is sent is in range, and spelled
asked_range : (c : Core) → Fit c → (o : Option ℕ) → InTimes o → IsDepFrame (asked c o)
asked_range c fit (Some times) h = h
asked_range c fit None h = go c.drawing
  where
    go : (d : Bool) → IsDepFrame (if d then Ack false c.number else piece false c.most c.number c.rest)
    go true = fit.number
    go false = is_piece false c.most c.number c.rest fit.number fit.fits

sent_range : (c : Core) → Fit c → (phase : Phase) → IsDepFrame (sent phase c)
sent_range c fit Asked = asked_range c fit c.extension fit.times
sent_range c fit Nacked = fit.number
sent_range c fit Attending = tt
sent_range c fit Free = tt
sent_range c fit EndedSixBad = asked_range c fit c.extension fit.times
sent_range c fit EndedProtocol = asked_range c fit c.extension fit.times

spelled_due : (i : InitState) → Fit i.core → spelled (frame_due i) ≡ Some (sent i.phase i.core)
spelled_due i fit = written_read (sent i.phase i.core) (sent_range i.core fit i.phase)

-- the request of this wait, which was sent before, is taken no more; and NACK, attention and extension never are
asked_again : (c : Core) (chain : List ℕ) (o : Option ℕ) → taken (at (after c.number) chain) (asked c o) ≡ at (after c.number) chain
asked_again c chain (Some times) = refl
asked_again c chain None = go c.drawing
  where
    go : (d : Bool) → taken (at (after c.number) chain) (if d then Ack false c.number else piece false c.most c.number c.rest) ≡ at (after c.number) chain
    go true = ack_again c.number chain
    go false = taken_again c.number chain (nat_lt c.most (length c.rest)) (take c.most c.rest)

again_taken : (c : Core) (chain : List ℕ) (phase : Phase) → taken (at (after c.number) chain) (sent phase c) ≡ at (after c.number) chain
again_taken c chain Asked = asked_again c chain c.extension
again_taken c chain Nacked = refl
again_taken c chain Attending = refl
again_taken c chain Free = refl
again_taken c chain EndedSixBad = asked_again c chain c.extension
again_taken c chain EndedProtocol = asked_again c chain c.extension

module _ (i : InitState) (fit : Fit i.core) (chain : List ℕ) (fs : List Signal) where
  pub sent_again : cuts (at (after i.core.number) chain) (frame_due i ∷ fs) ≡ cuts (at (after i.core.number) chain) fs
  sent_again = cuts_still (at (after i.core.number) chain) (frame_due i) (sent i.phase i.core) fs (spelled_due i fit) (again_taken i.core chain i.phase)

  unsent_is : Unsent i → sent i.phase i.core ≡ piece false i.core.most i.core.number i.core.rest
  unsent_is u =
      ap (λ p. sent p i.core) u.phase ∙ ap (asked i.core) u.plain
      ∙ ap (λ (d : Bool). if d then Ack false i.core.number else piece false i.core.most i.core.number i.core.rest) u.sending

  -- a piece that wasn't sent yet, with more behind it
  pub sent_more : Unsent i → i.core.most < length i.core.rest
      → cuts (at i.core.number chain) (frame_due i ∷ fs) ≡ cuts (at (after i.core.number) (chain ++ take i.core.most i.core.rest)) fs
  sent_more u h =
      let xs : List ℕ = take i.core.most i.core.rest in
      let is : sent i.phase i.core ≡ information false true i.core.number xs =
      unsent_is u ∙ ap (λ t. information false t i.core.number xs) (lt-ltb i.core.most (length i.core.rest) h) in
      let some : 0 < length xs = let s = fit.some in let l = length-take i.core.most i.core.rest in omega (arith, h, s, l) in
      cuts_next (at i.core.number chain) (frame_due i) (sent i.phase i.core) fs (spelled_due i fit) (ap has_content is ∙ lt-ltb 0 (length xs) some)
      ∙ ap (λ v. cuts (taken (at i.core.number chain) v) fs) is ∙ ap (λ c. cuts c fs) (taken_more i.core.number chain xs)

  -- and the last one
  pub sent_last : Unsent i → length i.core.rest ≤ i.core.most
      → cuts (at i.core.number chain) (frame_due i ∷ fs) ≡ behind ((chain ++ i.core.rest) ∷ []) (cuts (at (after i.core.number) []) fs)
  sent_last u h =
      let is : sent i.phase i.core ≡ information false false i.core.number i.core.rest =
      unsent_is u ∙ ap (λ t. information false t i.core.number (take i.core.most i.core.rest)) (not_lt i.core.most (length i.core.rest) h)
      ∙ ap (information false false i.core.number) (take_all i.core.most i.core.rest h) in
      cuts_next (at i.core.number chain) (frame_due i) (sent i.phase i.core) fs (spelled_due i fit) (ap has_content is ∙ lt-ltb 0 (length i.core.rest) u.some)
      ∙ ap (λ v. cuts (taken (at i.core.number chain) v) fs) is ∙ ap (λ c. cuts c fs) (taken_last i.core.number chain i.core.rest)
      ∙ cuts_behind ((chain ++ i.core.rest) ∷ []) (at (after i.core.number) []) fs

  -- the next piece of the reply is asked for
  pub sent_ack : Drawing i → cuts (at i.core.number chain) (frame_due i ∷ fs) ≡ cuts (at (after i.core.number) chain) fs
  sent_ack d =
      let is : sent i.phase i.core ≡ Ack false i.core.number =
      ap (λ p. sent p i.core) d.phase ∙ ap (asked i.core) d.plain ∙ ap (λ (r : Bool). if r then Ack false i.core.number else piece false i.core.most i.core.number i.core.rest) d.receiving in
      cuts_next (at i.core.number chain) (frame_due i) (sent i.phase i.core) fs (spelled_due i fit) (ap has_content is)
      ∙ ap (λ v. cuts (taken (at i.core.number chain) v) fs) is ∙ ap (λ c. cuts c fs) (taken_ack i.core.number chain)

-- with more behind it a piece that is sent stands in the midst
pub midst_from : (i : InitState) → Unsent i → i.core.most < length i.core.rest → Midst i (take i.core.most i.core.rest) (drop i.core.most i.core.rest)
midst_from i u h = record {
  sending = u.sending;
  is = sym (take-append-drop i.core.most i.core.rest);
  full = let l = length-take i.core.most i.core.rest in omega (arith, h, l);
  some = let l = length-drop i.core.most i.core.rest in omega (arith, h, l);
}

module _ (i : InitState) (xs ys : List ℕ) (m : Midst i xs ys) where
  pub midst_follows : more_follows i.core ≡ true
  midst_follows =
      let l : length i.core.rest ≡ length xs + length ys = ap length m.is ∙ length-append xs ys in
      let f = m.full in
      let s = m.some in
      ap (λ (d : Bool). if d then false else nat_lt i.core.most (length i.core.rest)) m.sending ∙ lt-ltb i.core.most (length i.core.rest) (omega (arith, l, f, s))

  pub onward_rest : drop i.core.most i.core.rest ≡ ys
  onward_rest = ap (drop i.core.most) m.is ∙ ap (λ n. drop n (xs ++ ys)) (sym m.full) ∙ drop-append_seam xs ys

  -- it is under way again, and the next piece is
  pub again_midst : (phase : Phase) (bads : ℕ) → Midst (again i phase bads) xs ys
  again_midst phase bads = record { sending = m.sending; is = m.is; full = m.full; some = m.some }

  pub onward_unsent : Unsent (onward i)
  onward_unsent = record { phase = refl; plain = refl; sending = refl; some = subst (λ zs. 0 < length zs) (sym onward_rest) m.some }

pub onward_fit : (i : InitState) → Fit i.core → Fit (onward i).core
onward_fit i fit = record { number = after_small i.core.number; some = fit.some; fits = fit.fits; times = tt }

-- Of an exchange these requests were made, one after the other, until its reply came.
abbrev pub OneTurn : Standing → Turn → (Standing → Type 0) → Type 0
OneTurn (Waits i f) t later = (f ≡ t.request) × later (noted (Waits i f) t.heard)
OneTurn (Rests i reply) t later = Unit {0}
OneTurn (Broken cause) t later = ⊥
OneTurn Astray t later = ⊥

abbrev pub Follows : Standing → List Turn → Type 0
Follows s [] = Unit {0}
Follows s (t ∷ ts) = OneTurn s t (λ q. Follows q ts)

-- What they make of a cut at which so much of the payload came, and these bytes are left: some of them came, and there are more; or all did.
pub data Outcome (chain left : List ℕ) (c : Cut) : Type 0 where
  cut : (ys : List ℕ) → c.payloads ≡ [] → c.chain ≡ chain ++ ys → IsProperPrefix ys left → Outcome chain left c
  whole : (ps : List (List ℕ)) → c.payloads ≡ (chain ++ left) ∷ ps → Outcome chain left c

outcome_more : (chain xs ys left : List ℕ) (c : Cut) → left ≡ xs ++ ys → Outcome (chain ++ xs) ys c → Outcome chain left c
outcome_more chain xs ys left c e (cut zs none more front) =
    cut (xs ++ zs) none (more ∙ append_assoc chain xs zs)
    (record { byte = front.byte; more = front.more; is = e ∙ ap (λ vs. xs ++ vs) front.is ∙ sym (append_assoc xs zs (front.byte ∷ front.more)) })
outcome_more chain xs ys left c e (whole ps all) = whole ps (all ∙ ap (λ p. p ∷ ps) (append_assoc chain xs ys ∙ ap (λ vs. chain ++ vs) (sym e)))

pub some_left : (xs : List ℕ) → 0 < length xs → IsProperPrefix [] xs
some_left [] h = absurd (omega arith)
some_left (x ∷ xs) h = record { byte = x; more = xs; is = refl }

nothing_more : (n : ℕ) (chain left : List ℕ) → 0 < length left → Outcome chain left (at n chain)
nothing_more n chain left h = cut [] refl (sym (append-nil chain)) (some_left left h)

abbrev OfUnsent : List Turn → Type 0
OfUnsent ts = (i : InitState) (chain : List ℕ) → Fit i.core → Unsent i → Follows (Waits i (frame_due i)) ts
    → Outcome chain i.core.rest (cuts (at i.core.number chain) (asked_in ts))

abbrev OfMidst : List Turn → Type 0
OfMidst ts = (i : InitState) (chain xs ys : List ℕ) → Fit i.core → Midst i xs ys → Follows (Waits i (frame_due i)) ts
    → Outcome chain ys (cuts (at (after i.core.number) chain) (asked_in ts))

abbrev OfHeard : List Turn → Type 0
OfHeard ts = (i : InitState) (chain xs ys : List ℕ) → Fit i.core → Midst i xs ys → (n : Note) → Follows (noted (Waits i (frame_due i)) n) ts
    → Outcome chain ys (cuts (at (after i.core.number) chain) (asked_in ts))

ended_there : (ts : List Turn) (s : Standing) (n : ℕ) (chain left : List ℕ) → 0 < length left → (s ≡ Astray) ⊎ ((cause : EndCause) × (s ≡ Broken cause)) → Follows s ts
    → Outcome chain left (cuts (at n chain) (asked_in ts))
ended_there [] s n chain left some e f = nothing_more n chain left some
ended_there (t ∷ ts) s n chain left some (inl e) f = absurd (subst (λ q. Follows q (t ∷ ts)) e f)
ended_there (t ∷ ts) s n chain left some (inr e) f = absurd (subst (λ q. Follows q (t ∷ ts)) e.1 f)

of_heard : (ts : List Turn) → OfUnsent ts → OfMidst ts → OfHeard ts
of_heard ts unsent midst i chain xs ys fit m n f = go (kind_of i n) (subst (λ s. Follows s ts) (hears_more i (midst_follows i xs ys m) (frame_due i) n) f)
  where
    go : (k : Kind) → Follows (made i k) ts → Outcome chain ys (cuts (at (after i.core.number) chain) (asked_in ts))
    go (Again phase bads) f = midst (again i phase bads) chain xs ys (record { number = fit.number; some = fit.some; fits = fit.fits; times = fit.times }) (again_midst i xs ys m phase bads) f
    go Onward f =
        subst (λ zs. Outcome chain zs (cuts (at (after i.core.number) chain) (asked_in ts))) (onward_rest i xs ys m)
        (unsent (onward i) chain (onward_fit i fit) (onward_unsent i xs ys m) f)
    go (Fails cause) f = ended_there ts (Broken cause) (after i.core.number) chain ys m.some (inr (cause, refl)) f
    go Wanders f = ended_there ts Astray (after i.core.number) chain ys m.some (inl refl) f

of_unsent : (t : Turn) (ts : List Turn) → OfHeard ts → OfUnsent (t ∷ ts)
of_unsent t ts heard i chain fit u f = go (cases_lt i.core.most (length i.core.rest))
  where
    n : ℕ
    n = i.core.number

    fs : List Signal
    fs = asked_in ts

    go : (i.core.most < length i.core.rest) ⊎ (length i.core.rest ≤ i.core.most) → Outcome chain i.core.rest (cuts (at n chain) (t.request ∷ fs))
    go (inl h) =
        let xs : List ℕ = take i.core.most i.core.rest in
        let ys : List ℕ = drop i.core.most i.core.rest in
        let e : cuts (at n chain) (t.request ∷ fs) ≡ cuts (at (after n) (chain ++ xs)) fs =
        ap (λ g. cuts (at n chain) (g ∷ fs)) (sym f.0) ∙ sent_more i fit chain fs u h in
        subst (Outcome chain i.core.rest) (sym e)
        (outcome_more chain xs ys i.core.rest _ (sym (take-append-drop i.core.most i.core.rest)) (heard i (chain ++ xs) xs ys fit (midst_from i u h) t.heard f.1))
    go (inr h) =
        let e : cuts (at n chain) (t.request ∷ fs) ≡ behind ((chain ++ i.core.rest) ∷ []) (cuts (at (after n) []) fs) =
        ap (λ g. cuts (at n chain) (g ∷ fs)) (sym f.0) ∙ sent_last i fit chain fs u h in
        whole (cuts (at (after n) []) fs).payloads (ap (λ (c : Cut). c.payloads) e)

of_midst : (t : Turn) (ts : List Turn) → OfHeard ts → OfMidst (t ∷ ts)
of_midst t ts heard i chain xs ys fit m f =
    let e : cuts (at (after i.core.number) chain) (t.request ∷ asked_in ts) ≡ cuts (at (after i.core.number) chain) (asked_in ts) =
    ap (λ g. cuts (at (after i.core.number) chain) (g ∷ asked_in ts)) (sym f.0) ∙ sent_again i fit chain (asked_in ts) in
    subst (Outcome chain ys) (sym e) (heard i chain xs ys fit m t.heard f.1)

outcomes : (ts : List Turn) → OfUnsent ts × OfMidst ts
outcomes [] = (λ i chain fit u f. nothing_more i.core.number chain i.core.rest u.some, λ i chain xs ys fit m f. nothing_more (after i.core.number) chain ys m.some)
outcomes (t ∷ ts) =
    let heard : OfHeard ts = of_heard ts (outcomes ts).0 (outcomes ts).1 in
    (of_unsent t ts heard, of_midst t ts heard)

-- what the requests of an exchange bring of its payload
pub outcome : (ts : List Turn) → OfUnsent ts
outcome ts = (outcomes ts).0

-- Once a request was made at least two bytes came.
pub two_came : (i : InitState) (t : Turn) (fs : List Signal) → Fit i.core → Unsent i → frame_due i ≡ t.request → (cuts (at i.core.number []) (t.request ∷ fs)).payloads ≡ []
    → 2 ≤ length (cuts (at i.core.number []) (t.request ∷ fs)).chain
two_came i t fs fit u f none = go (cases_lt i.core.most (length i.core.rest))
  where
    n : ℕ
    n = i.core.number

    xs : List ℕ
    xs = take i.core.most i.core.rest

    by : (c : Cut) → Grows xs c → c.payloads ≡ [] → i.core.most < length i.core.rest → 2 ≤ length c.chain
    by c (open_ ys e more) none h =
        let l : length c.chain ≡ length xs + length ys = ap length more ∙ length-append xs ys in
        let k = length-take i.core.most i.core.rest in
        let s = fit.some in
        omega (arith, l, k, s, h)
    by c (closed z zs ps e) none h = absurd (let k : (xs ++ z ∷ zs) ∷ ps ≡ [] = sym e ∙ none in cc)

    go : (i.core.most < length i.core.rest) ⊎ (length i.core.rest ≤ i.core.most) → 2 ≤ length (cuts (at n []) (t.request ∷ fs)).chain
    go (inl h) =
        let e : cuts (at n []) (t.request ∷ fs) ≡ cuts (at (after n) xs) fs = ap (λ g. cuts (at n []) (g ∷ fs)) (sym f) ∙ sent_more i fit [] fs u h in
        subst (λ (c : Cut). 2 ≤ length c.chain) (sym e) (by (cuts (at (after n) xs) fs) (grown (after n) xs fs) (ap (λ (c : Cut). c.payloads) (sym e) ∙ none) h)
    go (inr h) =
        let e : cuts (at n []) (t.request ∷ fs) ≡ behind (i.core.rest ∷ []) (cuts (at (after n) []) fs) = ap (λ g. cuts (at n []) (g ∷ fs)) (sym f) ∙ sent_last i fit [] fs u h in
        absurd (let k : i.core.rest ∷ (cuts (at (after n) []) fs).payloads ≡ [] = sym (ap (λ (c : Cut). c.payloads) e) ∙ none in cc)
