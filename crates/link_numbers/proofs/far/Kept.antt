-- The numbers that a walk tells are those of the payloads: what it doesn't keep of one that is too long changes no number.
use Rattle.std.proofs.Common.{◌≡◌, ℕ, zero, suc, ◌+◌, ◌-◌, ◌<◌, ◌≤◌, ◌==◌, ◌⊎◌, inl, inr, min, Bool, true, false, if◌then◌else◌, List, [], ◌∷◌, ◌++◌, length, take, map, Option, Some, None, arith}
use Rattle.std.proofs.Common.{refl, sym, ap, ◌∙◌, leb}
use Rattle.std.specs.List.{filter}
use Rattle.std.specs.Prelude.{nat_lt}
use Rattle.std.proofs.lemmas.List.{take_all, length-take, map-append}
use Rattle.std.proofs.Math.Seq.{take-append-add}
use Rattle.std.proofs.lemmas.Bool.{lt-leb}
use Rattle.std.proofs.lemmas.Bool.Decides.{leb_tells}
use Rattle.nfc_base.specs.Signal.{Signal}
use Rattle.dep_pdu.specs.declared.frame.DepFrame.{DepFrame}
use Rattle.dep_pdu.specs.declared.frame.DepFrame.TheVariants.{AtrReq, AtrRes, Info, Ack, Nack, Attention, Extend, DslReq, DslRes, RlsReq, RlsRes}
use Rattle.dep_link.specs.Exchange.{before_frames, frames_of}
use Rattle.dep_link.specs.Frames.{after, spelled}
use Rattle.dep_link.specs.Payloads.{Cut, begins, cut_by, joined, taken}
use Rattle.dep_link.specs.Replies.{cut_up, taken_up}
use Rattle.dep_link.specs.Sizes.{limit}
use Rattle.link_numbers.specs.Shown.{cut_off, has_content, number, number_begun, numbers, parts_of, pieces_of}
use Rattle.link_numbers.specs.Walking.{Sent, ended, nothing, passed, room, sent_all, sent_if, sent_one, took, took_next}

-- the header of a payload stands in what is kept
begun_kept : (b : List ℕ) → number_begun (take room b) ≡ number_begun b
begun_kept [] = refl
begun_kept (x ∷ []) = refl
begun_kept (x ∷ y ∷ rest) = refl

-- a payload that is longer than one may be
long : (b : List ℕ) → limit < length b → number b ≡ number_begun b
long b h = ap (λ (t : Bool). if t then parts_of b else number_begun b) (lt-leb (length b) limit h)

long_kept : (b : List ℕ) → limit < length b → limit < length (take room b)
long_kept b h = let e : length (take room b) ≡ min room (length b) = length-take room b in omega arith

number_kept : (b : List ℕ) → number (take room b) ≡ number b
number_kept b = go (leb_tells (length b) limit)
  where
    go : ((leb (length b) limit ≡ true) × (length b ≤ limit)) ⊎ ((leb (length b) limit ≡ false) × (limit < length b)) → number (take room b) ≡ number b
    go (inl h) = ap number (take_all room b (let k : length b ≤ limit = h.1 in omega arith))
    go (inr h) = long (take room b) (long_kept b h.1) ∙ begun_kept b ∙ sym (long b h.1)

cut_kept : (b : List ℕ) → cut_off (take room b) ≡ cut_off b
cut_kept [] = refl
cut_kept (x ∷ []) = refl
cut_kept (x ∷ y ∷ rest) = refl

-- what is kept of bytes and others behind them
behind_kept : (n : ℕ) (a b : List ℕ) → take n (take n a ++ b) ≡ take n (a ++ b)
behind_kept zero a b = refl
behind_kept (suc n) [] b = refl
behind_kept (suc n) (x ∷ a) b = ap (λ zs. x ∷ zs) (behind_kept n a b)

-- what is kept where there is room for more
pub put_behind : (n : ℕ) (a b : List ℕ) → length a ≤ n → take n (a ++ b) ≡ a ++ take (n - length a) b
put_behind n a b h =
    let e : length a + (n - length a) ≡ n = omega arith in
    ap (λ k. take k (a ++ b)) (sym e) ∙ take-append-add a b (n - length a)

-- The walk is where the cut is.
record IsAt (c : Cut) (s : Sent) : Type 0 where
  next : s.next ≡ c.next
  begun : s.begun ≡ take room c.chain
  told : s.told ≡ map number c.payloads

-- a piece of a payload
at_joined : (c : Cut) (s : Sent) (more : Bool) (xs : List ℕ) → IsAt c s → IsAt (joined c more (c.chain ++ xs)) (took_next s more (take room (s.begun ++ xs)))
at_joined c s true xs h = record {
  next = ap after h.next;
  begun = ap (λ zs. take room (zs ++ xs)) h.begun ∙ behind_kept room c.chain xs;
  told = h.told;
}
at_joined c s false xs h =
    let kept : take room (s.begun ++ xs) ≡ take room (c.chain ++ xs) = ap (λ zs. take room (zs ++ xs)) h.begun ∙ behind_kept room c.chain xs in
    record {
      next = ap after h.next;
      begun = refl;
      told = ap (λ zs. zs ++ number (take room (s.begun ++ xs)) ∷ []) h.told
          ∙ ap (λ n. map number c.payloads ++ n ∷ []) (ap number kept ∙ number_kept (c.chain ++ xs))
          ∙ sym (map-append number c.payloads ((c.chain ++ xs) ∷ []));
    }

at_if : (a b : Bool) (c d : Cut) (s t : Sent) → a ≡ b → IsAt c s → IsAt d t → IsAt (if b then d else c) (if a then t else s)
at_if true true c d s t e h k = k
at_if false false c d s t e h k = h
at_if true false c d s t e h k = absurd (cc)
at_if false true c d s t e h k = absurd (cc)

at_passed : (c : Cut) (s : Sent) → IsAt c s
    → IsAt (record { next = after c.next; chain = c.chain; payloads = c.payloads }) (record { next = after s.next; begun = s.begun; told = s.told })
at_passed c s h = record { next = ap after h.next; begun = h.begun; told = h.told }

at_piece : (c : Cut) (s : Sent) (more : Bool) (pni : ℕ) (xs : List ℕ) → IsAt c s
    → IsAt (if pni == c.next then joined c more (c.chain ++ xs) else c) (took s more pni xs)
at_piece c s more pni xs h =
    at_if (pni == s.next) (pni == c.next) c (joined c more (c.chain ++ xs)) s (took_next s more (take room (s.begun ++ xs)))
    (ap (λ n. pni == n) h.next) h (at_joined c s more xs h)

at_ack : (c : Cut) (s : Sent) (pni : ℕ) → IsAt c s
    → IsAt (if pni == c.next then record { next = after c.next; chain = c.chain; payloads = c.payloads } else c) (passed s pni)
at_ack c s pni h =
    at_if (pni == s.next) (pni == c.next) c (record { next = after c.next; chain = c.chain; payloads = c.payloads }) s
    (record { next = after s.next; begun = s.begun; told = s.told }) (ap (λ n. pni == n) h.next) h (at_passed c s h)

-- one frame more of the initiator, and of the target
at_frame : (c : Cut) (s : Sent) (v : DepFrame) → IsAt c s → IsAt (if has_content v then taken c v else c) (sent_one false s v)
at_frame c s (Info false more pni x) h = go (nat_lt 0 (length x.items))
  where
    go : (t : Bool) → IsAt (if t then taken c (Info false more pni x) else c) (if t then took s more pni x.items else s)
    go true = at_piece c s more pni x.items h
    go false = h
at_frame c s (Info true more pni x) h = go (nat_lt 0 (length x.items))
  where
    go : (t : Bool) → IsAt (if t then c else c) s
    go true = h
    go false = h
at_frame c s (Ack false pni) h = at_ack c s pni h
at_frame c s (Ack true pni) h = h
at_frame c s (Nack pni) h = h
at_frame c s (Attention up) h = h
at_frame c s (Extend up times) h = h
at_frame c s (AtrReq id lr general) h = h
at_frame c s (AtrRes id timeout lr general) h = h
at_frame c s DslReq h = h
at_frame c s DslRes h = h
at_frame c s RlsReq h = h
at_frame c s RlsRes h = h

at_frame_up : (c : Cut) (s : Sent) (v : DepFrame) → IsAt c s → IsAt (if has_content v then taken_up c v else c) (sent_one true s v)
at_frame_up c s (Info true more pni x) h = go (nat_lt 0 (length x.items))
  where
    go : (t : Bool) → IsAt (if t then taken_up c (Info true more pni x) else c) (if t then took s more pni x.items else s)
    go true = at_piece c s more pni x.items h
    go false = h
at_frame_up c s (Info false more pni x) h = go (nat_lt 0 (length x.items))
  where
    go : (t : Bool) → IsAt (if t then c else c) s
    go true = h
    go false = h
at_frame_up c s (Ack true pni) h = at_ack c s pni h
at_frame_up c s (Ack false pni) h = h
at_frame_up c s (Nack pni) h = h
at_frame_up c s (Attention up) h = h
at_frame_up c s (Extend up times) h = h
at_frame_up c s (AtrReq id lr general) h = h
at_frame_up c s (AtrRes id timeout lr general) h = h
at_frame_up c s DslReq h = h
at_frame_up c s DslRes h = h
at_frame_up c s RlsReq h = h
at_frame_up c s RlsRes h = h

-- a frame on the air, which may spell none of NFC-DEP, and those behind it
next : (o : Option DepFrame) (c : Cut) (s : Sent) (fs : List Signal) → IsAt (cut_by c (pieces_of fs)) (sent_all false s fs)
    → ((v : DepFrame) → IsAt (cut_by (if has_content v then taken c v else c) (pieces_of fs)) (sent_all false (sent_one false s v) fs))
    → IsAt (cut_by c (filter has_content (before_frames o (frames_of fs)))) (sent_all false (sent_if false s o) fs)
next None c s fs none some = none
next (Some v) c s fs none some = go (has_content v) (some v)
  where
    go : (t : Bool) → IsAt (cut_by (if t then taken c v else c) (pieces_of fs)) (sent_all false (sent_one false s v) fs)
        → IsAt (cut_by c (if t then v ∷ pieces_of fs else pieces_of fs)) (sent_all false (sent_one false s v) fs)
    go true h = h
    go false h = h

at_all : (c : Cut) (s : Sent) (fs : List Signal) → IsAt c s → IsAt (cut_by c (pieces_of fs)) (sent_all false s fs)
at_all c s [] h = h
at_all c s (f ∷ fs) h =
    next (spelled f) c s fs (at_all c s fs h) (λ v. at_all (if has_content v then taken c v else c) (sent_one false s v) fs (at_frame c s v h))

-- a frame on the air, which may spell none of NFC-DEP, and those behind it
next_up : (o : Option DepFrame) (c : Cut) (s : Sent) (fs : List Signal) → IsAt (cut_up c (pieces_of fs)) (sent_all true s fs)
    → ((v : DepFrame) → IsAt (cut_up (if has_content v then taken_up c v else c) (pieces_of fs)) (sent_all true (sent_one true s v) fs))
    → IsAt (cut_up c (filter has_content (before_frames o (frames_of fs)))) (sent_all true (sent_if true s o) fs)
next_up None c s fs none some = none
next_up (Some v) c s fs none some = go (has_content v) (some v)
  where
    go : (t : Bool) → IsAt (cut_up (if t then taken_up c v else c) (pieces_of fs)) (sent_all true (sent_one true s v) fs)
        → IsAt (cut_up c (if t then v ∷ pieces_of fs else pieces_of fs)) (sent_all true (sent_one true s v) fs)
    go true h = h
    go false h = h

at_all_up : (c : Cut) (s : Sent) (fs : List Signal) → IsAt c s → IsAt (cut_up c (pieces_of fs)) (sent_all true s fs)
at_all_up c s [] h = h
at_all_up c s (f ∷ fs) h =
    next_up (spelled f) c s fs (at_all_up c s fs h) (λ v. at_all_up (if has_content v then taken_up c v else c) (sent_one true s v) fs (at_frame_up c s v h))

at_begin : (first : ℕ) → IsAt (begins first) (nothing first)
at_begin first = record { next = refl; begun = refl; told = refl }

-- the numbers that it tells
told_at : (c : Cut) (s : Sent) → IsAt c s → ended s ≡ numbers c
told_at c s h = ap (λ ns. ns ++ cut_off s.begun) h.told ∙ ap (λ ns. map number c.payloads ++ ns) (ap cut_off h.begun ∙ cut_kept c.chain)

pub own_told : (first : ℕ) (fs : List Signal) → ended (sent_all false (nothing first) fs) ≡ numbers (cut_by (begins first) (pieces_of fs))
own_told first fs = told_at _ _ (at_all (begins first) (nothing first) fs (at_begin first))

pub far_told : (first : ℕ) (fs : List Signal) → ended (sent_all true (nothing first) fs) ≡ numbers (cut_up (begins first) (pieces_of fs))
far_told first fs = told_at _ _ (at_all_up (begins first) (nothing first) fs (at_begin first))
