-- How the frames of an initiator are cut into payloads, from any moment on: part by part, and what more frames can add.
use Rattle.std.proofs.Common.{◌≡◌, ℕ, ◌==◌, Bool, true, false, List, [], ◌∷◌, ◌++◌, length, append_assoc, append-nil, Some, if◌then◌else◌, refl, sym, ap, subst, ◌∙◌}
use Rattle.std.specs.Prelude.{nat_lt}
use Rattle.std.specs.List.{filter}
use Rattle.std.proofs.lemmas.List.Elements.{filter-append}
use Rattle.nfc_base.specs.Signal.{Signal}
use Rattle.dep_pdu.specs.declared.frame.DepFrame.{DepFrame}
use Rattle.dep_pdu.specs.declared.frame.DepFrame.TheVariants.{AtrReq, AtrRes, Info, Ack, Nack, Attention, Extend, DslReq, DslRes, RlsReq, RlsRes}
use Rattle.dep_link.specs.Frames.{after, information, spelled}
use Rattle.dep_link.specs.Exchange.{before_frames, frames_of}
use Rattle.dep_link.specs.Payloads.{Cut, cut_by, joined, taken}
use Rattle.nfc_base.proofs.Chains.{same}
use Rattle.dep_link.proofs.Standing.{not_after}
use Rattle.dep_link.proofs.Wire.{frames_append}
use Rattle.link_numbers.specs.Shown.{has_content, number, numbers, pieces_of}
use Rattle.link_numbers.proofs.far.FarShows.{behind}

-- so much of a payload came, and no payload before it; a cut with payloads before it
abbrev pub at : ℕ → List ℕ → Cut
at n chain = record { next = n; chain = chain; payloads = [] }

-- what some frames on the air make of a cut
abbrev pub cuts : Cut → List Signal → Cut
cuts c fs = cut_by c (pieces_of fs)

-- payloads before it change nothing
taken_behind : (ps : List (List ℕ)) (c : Cut) (v : DepFrame) → taken (behind ps c) v ≡ behind ps (taken c v)
taken_behind ps c (Info false more pni content) = go (pni == c.next) more
  where
    go : (t more : Bool) → (if t then joined (behind ps c) more (c.chain ++ content.items) else behind ps c) ≡ behind ps (if t then joined c more (c.chain ++ content.items) else c)
    go true true = refl
    go true false = ap (λ qs. record { next = after c.next; chain = []; payloads = qs }) (append_assoc ps c.payloads ((c.chain ++ content.items) ∷ []))
    go false more = refl
taken_behind ps c (Ack false pni) = go (pni == c.next)
  where
    go : (t : Bool) → (if t then record { next = after c.next; chain = c.chain; payloads = ps ++ c.payloads } else behind ps c) ≡ behind ps (if t then record c { next = after c.next } else c)
    go true = refl
    go false = refl
taken_behind ps c (Info true more pni content) = refl
taken_behind ps c (Ack true pni) = refl
taken_behind ps c (Nack pni) = refl
taken_behind ps c (Attention up) = refl
taken_behind ps c (Extend up times) = refl
taken_behind ps c (AtrReq id lr general) = refl
taken_behind ps c (AtrRes id timeout lr general) = refl
taken_behind ps c DslReq = refl
taken_behind ps c DslRes = refl
taken_behind ps c RlsReq = refl
taken_behind ps c RlsRes = refl

cut_behind : (ps : List (List ℕ)) (c : Cut) (vs : List DepFrame) → cut_by (behind ps c) vs ≡ behind ps (cut_by c vs)
cut_behind ps c [] = refl
cut_behind ps c (v ∷ vs) = ap (λ d. cut_by d vs) (taken_behind ps c v) ∙ cut_behind ps (taken c v) vs

pub cuts_behind : (ps : List (List ℕ)) (c : Cut) (fs : List Signal) → cuts (behind ps c) fs ≡ behind ps (cuts c fs)
cuts_behind ps c fs = cut_behind ps c (pieces_of fs)

-- frames, and others behind them
cut_then : (c : Cut) (vs ws : List DepFrame) → cut_by c (vs ++ ws) ≡ cut_by (cut_by c vs) ws
cut_then c [] ws = refl
cut_then c (v ∷ vs) ws = cut_then (taken c v) vs ws

pub cuts_then : (c : Cut) (fs gs : List Signal) → cuts c (fs ++ gs) ≡ cuts (cuts c fs) gs
cuts_then c fs gs =
    ap (λ vs. cut_by c (filter has_content vs)) (frames_append fs gs)
    ∙ ap (cut_by c) (filter-append has_content (frames_of fs) (frames_of gs))
    ∙ cut_then c (pieces_of fs) (pieces_of gs)

-- the next frame is taken where it is one with content; and a frame that isn't taken changes nothing
pub cuts_next : (c : Cut) (f : Signal) (v : DepFrame) (fs : List Signal) → spelled f ≡ Some v → has_content v ≡ true → cuts c (f ∷ fs) ≡ cuts (taken c v) fs
cuts_next c f v fs e h =
    ap (λ o. cut_by c (filter has_content (before_frames o (frames_of fs)))) e
    ∙ ap (λ (t : Bool). cut_by c (if t then v ∷ pieces_of fs else pieces_of fs)) h

pub cuts_still : (c : Cut) (f : Signal) (v : DepFrame) (fs : List Signal) → spelled f ≡ Some v → taken c v ≡ c → cuts c (f ∷ fs) ≡ cuts c fs
cuts_still c f v fs e still = ap (λ o. cut_by c (filter has_content (before_frames o (frames_of fs)))) e ∙ go (has_content v)
  where
    go : (t : Bool) → cut_by c (if t then v ∷ pieces_of fs else pieces_of fs) ≡ cuts c fs
    go true = ap (λ d. cut_by d (pieces_of fs)) still
    go false = refl

-- a piece of a payload with more to come, the last one, and an acknowledgement; each is taken once
pub taken_more : (n : ℕ) (chain xs : List ℕ) → taken (at n chain) (information false true n xs) ≡ at (after n) (chain ++ xs)
taken_more n chain xs = ap (λ (t : Bool). if t then at (after n) (chain ++ xs) else at n chain) (same n)

pub taken_last : (n : ℕ) (chain xs : List ℕ) → taken (at n chain) (information false false n xs) ≡ behind ((chain ++ xs) ∷ []) (at (after n) [])
taken_last n chain xs = ap (λ (t : Bool). if t then behind ((chain ++ xs) ∷ []) (at (after n) []) else at n chain) (same n)

pub taken_again : (n : ℕ) (chain : List ℕ) (more : Bool) (xs : List ℕ) → taken (at (after n) chain) (information false more n xs) ≡ at (after n) chain
taken_again n chain more xs =
    ap (λ (t : Bool). if t then joined (at (after n) chain) more (chain ++ xs) else at (after n) chain) (not_after n)

pub taken_ack : (n : ℕ) (chain : List ℕ) → taken (at n chain) (Ack false n) ≡ at (after n) chain
taken_ack n chain = ap (λ (t : Bool). if t then at (after n) chain else at n chain) (same n)

pub ack_again : (n : ℕ) (chain : List ℕ) → taken (at (after n) chain) (Ack false n) ≡ at (after n) chain
ack_again n chain = ap (λ (t : Bool). if t then at (after (after n)) chain else at (after n) chain) (not_after n)

-- What one frame with content makes of it: as much of the payload as before, more of it, or all of it.
data Took (chain : List ℕ) (c : Cut) : Type 0 where
  stays : (m : ℕ) → c ≡ at m chain → Took chain c
  adds : (m x : ℕ) (xs : List ℕ) → c ≡ at m (chain ++ x ∷ xs) → Took chain c
  ends : (m x : ℕ) (xs : List ℕ) → c ≡ behind ((chain ++ x ∷ xs) ∷ []) (at m []) → Took chain c

took : (n : ℕ) (chain : List ℕ) (v : DepFrame) → has_content v ≡ true → Took chain (taken (at n chain) v)
took n chain (Info false more pni content) h = go (pni == n) more content.items h
  where
    go : (t more : Bool) (xs : List ℕ) → nat_lt 0 (length xs) ≡ true → Took chain (if t then joined (at n chain) more (chain ++ xs) else at n chain)
    go true true (x ∷ xs) h = adds (after n) x xs refl
    go true false (x ∷ xs) h = ends (after n) x xs refl
    go true more [] h = absurd (cc)
    go false more xs h = stays n refl
took n chain (Ack false pni) h = go (pni == n)
  where
    go : (t : Bool) → Took chain (if t then at (after n) chain else at n chain)
    go true = stays (after n) refl
    go false = stays n refl
took n chain (Info true more pni content) h = stays n refl
took n chain (Ack true pni) h = stays n refl
took n chain (Nack pni) h = stays n refl
took n chain (Attention up) h = stays n refl
took n chain (Extend up times) h = stays n refl
took n chain (AtrReq id lr general) h = stays n refl
took n chain (AtrRes id timeout lr general) h = stays n refl
took n chain DslReq h = stays n refl
took n chain DslRes h = stays n refl
took n chain RlsReq h = stays n refl
took n chain RlsRes h = stays n refl

-- What some frames make of it: the payload isn't whole, and goes on from what came before; or it is whole, and so it goes on too.
pub data Grows (chain : List ℕ) (c : Cut) : Type 0 where
  open_ : (ys : List ℕ) → c.payloads ≡ [] → c.chain ≡ chain ++ ys → Grows chain c
  closed : (z : ℕ) (zs : List ℕ) (ps : List (List ℕ)) → c.payloads ≡ (chain ++ z ∷ zs) ∷ ps → Grows chain c

grows_more : (chain : List ℕ) (x : ℕ) (xs : List ℕ) (c : Cut) → Grows (chain ++ x ∷ xs) c → Grows chain c
grows_more chain x xs c (open_ ys none more) = open_ (x ∷ xs ++ ys) none (more ∙ append_assoc chain (x ∷ xs) ys)
grows_more chain x xs c (closed z zs ps whole) = closed x (xs ++ z ∷ zs) ps (whole ∙ ap (λ p. p ∷ ps) (append_assoc chain (x ∷ xs) (z ∷ zs)))

abbrev AllHaveContent : List DepFrame → Type 0
AllHaveContent [] = Unit {0}
AllHaveContent (v ∷ vs) = (has_content v ≡ true) × AllHaveContent vs

filtered : (vs : List DepFrame) → AllHaveContent (filter has_content vs)
filtered [] = tt
filtered (v ∷ vs) = go (has_content v) refl (filtered vs)
  where
    go : (t : Bool) → has_content v ≡ t → AllHaveContent (filter has_content vs) → AllHaveContent (if t then v ∷ filter has_content vs else filter has_content vs)
    go true e rest = (e, rest)
    go false e rest = rest

grows : (n : ℕ) (chain : List ℕ) (vs : List DepFrame) → AllHaveContent vs → Grows chain (cut_by (at n chain) vs)
grows n chain [] h = open_ [] refl (sym (append-nil chain))
grows n chain (v ∷ vs) (h, hs) = by (taken (at n chain) v) (took n chain v h) (λ m. grows m chain vs hs) (λ m x xs. grows m (chain ++ x ∷ xs) vs hs)
  where
    by : (c : Cut) → Took chain c → ((m : ℕ) → Grows chain (cut_by (at m chain) vs)) → ((m x : ℕ) (xs : List ℕ) → Grows (chain ++ x ∷ xs) (cut_by (at m (chain ++ x ∷ xs)) vs))
        → Grows chain (cut_by c vs)
    by c (stays m e) same more = subst (λ d. Grows chain (cut_by d vs)) (sym e) (same m)
    by c (adds m x xs e) same more = subst (λ d. Grows chain (cut_by d vs)) (sym e) (grows_more chain x xs _ (more m x xs))
    by c (ends m x xs e) same more =
        closed x xs (cut_by (at m []) vs).payloads (ap (λ d. (cut_by d vs).payloads) e ∙ ap (λ (d : Cut). d.payloads) (cut_behind ((chain ++ x ∷ xs) ∷ []) (at m []) vs))

pub grown : (n : ℕ) (chain : List ℕ) (fs : List Signal) → Grows chain (cuts (at n chain) fs)
grown n chain fs = grows n chain (pieces_of fs) (filtered (frames_of fs))

-- the numbers of a whole payload and those behind it
pub numbers_behind : (p : List ℕ) (c : Cut) → numbers (behind (p ∷ []) c) ≡ number p ∷ numbers c
numbers_behind p c = refl
