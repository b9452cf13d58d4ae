-- What an initiator has given are the replies that the frames bring which it heard.
use Rattle.std.proofs.Common.{◌≡◌, ℕ, ◌==◌, nat_lt, List, [], ◌∷◌, ◌++◌, Bool, true, false, if◌then◌else◌, Option, Some, None, refl, sym, ◌∙◌, ap, append-nil}
use Rattle.arrayvec.specs.ArrayVec.{ArrayVec}
use Rattle.nfc_base.specs.Signal.{Signal}
use Rattle.nfc_base.specs.declared.event.Heard.{Heard}
use Rattle.nfc_base.specs.declared.event.Heard.TheVariants as heards
use Rattle.dep_pdu.specs.declared.frame.DepFrame.{DepFrame}
use Rattle.dep_pdu.specs.declared.frame.DepFrame.TheVariants.{AtrReq, AtrRes, Info, Ack, Nack, Attention, Extend, DslReq, DslRes, RlsReq, RlsRes}
use Rattle.dep_link.specs.declared.initiator.Phase.{Phase}
use Rattle.dep_link.specs.declared.initiator.Phase.TheVariants.{Asked, Nacked, Attending, Free, EndedSixBad, EndedProtocol}
use Rattle.dep_link.specs.Frames.{spelled, after}
use Rattle.dep_link.specs.Sizes.{limit}
use Rattle.nfc_base.specs.Pieces.{most_bads, more_follows, may_extend, is_refused}
use Rattle.dep_link.specs.Initiator.{InitState, InitMove, refuses, bad, received, acked, answered, attended, waited, attending, whole, damaged, silent, heard_next, framed_next, begun}
use Rattle.dep_link.specs.Payloads.{Cut, begins}
use Rattle.dep_link.specs.Exchange.{frames_of, before_frames}
use Rattle.dep_link.specs.Replies.{taken_up, cut_up, is_under_way, Talk, whole_in, reply_in, goes_on, hears, hears_all, Talked, talks, talks_all, IsTalk, quiet_talk, HeardReplies}
use Rattle.dep_link.proofs.Wire.{frames_append}

-- where the count stands at an initiator that gave these replies
abbrev cut_at : InitState → List (List ℕ) → Cut
cut_at i replies = record { next = i.core.number; chain = i.core.got; payloads = replies }

-- A move at these frames, unless it refuses, takes them: the count goes on as the initiator does. Where the exchange ended with
-- its reply, nothing of one is left.
record Takes (i : InitState) (vs : List DepFrame) (m : InitMove) : Type 0 where
  cut : (m.state.phase ≡ EndedProtocol → ⊥) → (ps : List (List ℕ)) → cut_up (cut_at i ps) vs ≡ cut_at m.state (ps ++ reply_in (framed_next m.does))
  rests : m.state.phase ≡ Free → m.state.core.got ≡ []

refuses_takes : (i : InitState) (vs : List DepFrame) → Takes i vs (refuses i)
refuses_takes i vs = record { cut = λ n. absurd (n refl); rests = λ e. absurd (cc) }

takes_if : (i : InitState) (vs : List DepFrame) (b : Bool) (m n : InitMove) → (b ≡ true → Takes i vs m) → (b ≡ false → Takes i vs n) → Takes i vs (if b then m else n)
takes_if i vs true m n p q = p refl
takes_if i vs false m n p q = q refl

both_true : (a b : Bool) → (if a then b else false) ≡ true → b ≡ true
both_true true b e = e
both_true false b e = absurd (cc)

not_first : (a b : Bool) → (if a then false else b) ≡ true → b ≡ true
not_first true b e = absurd (cc)
not_first false b e = e

no_more : (i : InitState) (ps : List (List ℕ)) → cut_at i ps ≡ cut_at i (ps ++ [])
no_more i ps = ap (cut_at i) (sym (append-nil ps))

ack_takes : (i : InitState) (pni : ℕ) → Takes i (Ack true pni ∷ []) (acked i pni)
ack_takes i pni =
    takes_if i (Ack true pni ∷ []) (if more_follows i.core then pni == i.core.number else false) _ _
    (λ b. record {
      cut = λ n ps. rw (both_true (more_follows i.core) (pni == i.core.number) b) (no_more (record i { core = record i.core { number = after i.core.number } }) ps);
      rests = λ e. absurd (cc);
    })
    (λ b. refuses_takes i (Ack true pni ∷ []))

received_takes : (i : InitState) (pni : ℕ) (more : Bool) (x : ArrayVec ℕ) → (pni == i.core.number) ≡ true → Takes i (Info true more pni x ∷ []) (received i more (i.core.got ++ x.items))
received_takes i pni true x e =
    record { cut = λ n ps. rw e (no_more (record i { core = record i.core { number = after i.core.number; got = i.core.got ++ x.items } }) ps); rests = λ d. absurd (cc) }
received_takes i pni false x e = record { cut = λ n ps. rw e refl; rests = λ d. refl }

info_takes : (i : InitState) (more : Bool) (pni : ℕ) (x : ArrayVec ℕ) → Takes i (Info true more pni x ∷ []) (answered i (Info true more pni x))
info_takes i more pni x =
    takes_if i (Info true more pni x ∷ []) (if more_follows i.core then false else pni == i.core.number) _ _
    (λ b.
    takes_if i (Info true more pni x ∷ []) (is_refused limit more x.items (i.core.got ++ x.items)) _ _ (λ c. refuses_takes i (Info true more pni x ∷ []))
    (λ c. received_takes i pni more x (not_first (more_follows i.core) (pni == i.core.number) b)))
    (λ b. refuses_takes i (Info true more pni x ∷ []))

answered_takes : (i : InitState) (v : DepFrame) → Takes i (v ∷ []) (answered i v)
answered_takes i (Info true more pni x) = info_takes i more pni x
answered_takes i (Ack true pni) = ack_takes i pni
answered_takes i (Extend true times) =
    takes_if i (Extend true times ∷ []) (may_extend i.core times) _ _ (λ b. record { cut = λ n ps. no_more i ps; rests = λ e. absurd (cc) }) (λ b. refuses_takes i (Extend true times ∷ []))
answered_takes i (Info false more pni x) = refuses_takes i (Info false more pni x ∷ [])
answered_takes i (Ack false pni) = refuses_takes i (Ack false pni ∷ [])
answered_takes i (Extend false times) = refuses_takes i (Extend false times ∷ [])
answered_takes i (Nack pni) = refuses_takes i (Nack pni ∷ [])
answered_takes i (Attention up) = refuses_takes i (Attention up ∷ [])
answered_takes i (AtrReq id lr general) = refuses_takes i (AtrReq id lr general ∷ [])
answered_takes i (AtrRes id timeout lr general) = refuses_takes i (AtrRes id timeout lr general ∷ [])
answered_takes i DslReq = refuses_takes i (DslReq ∷ [])
answered_takes i DslRes = refuses_takes i (DslRes ∷ [])
answered_takes i RlsReq = refuses_takes i (RlsReq ∷ [])
answered_takes i RlsRes = refuses_takes i (RlsRes ∷ [])

attended_takes : (i : InitState) (v : DepFrame) → Takes i (v ∷ []) (attended i v)
attended_takes i (Attention true) = record { cut = λ n ps. no_more i ps; rests = λ e. absurd (cc) }
attended_takes i (Attention false) = refuses_takes i (Attention false ∷ [])
attended_takes i (Info up more pni x) = refuses_takes i (Info up more pni x ∷ [])
attended_takes i (Ack up pni) = refuses_takes i (Ack up pni ∷ [])
attended_takes i (Extend up times) = refuses_takes i (Extend up times ∷ [])
attended_takes i (Nack pni) = refuses_takes i (Nack pni ∷ [])
attended_takes i (AtrReq id lr general) = refuses_takes i (AtrReq id lr general ∷ [])
attended_takes i (AtrRes id timeout lr general) = refuses_takes i (AtrRes id timeout lr general ∷ [])
attended_takes i DslReq = refuses_takes i (DslReq ∷ [])
attended_takes i DslRes = refuses_takes i (DslRes ∷ [])
attended_takes i RlsReq = refuses_takes i (RlsReq ∷ [])
attended_takes i RlsRes = refuses_takes i (RlsRes ∷ [])

waited_takes : (i : InitState) (o : Option DepFrame) → Takes i (before_frames o []) (waited i o)
waited_takes i None = refuses_takes i []
waited_takes i (Some v) = answered_takes i v

attending_takes : (i : InitState) (o : Option DepFrame) → Takes i (before_frames o []) (attending i o)
attending_takes i None = refuses_takes i []
attending_takes i (Some v) = attended_takes i v

bad_takes : (i : InitState) (p : Phase) → (p ≡ Free → ⊥) → Takes i [] (bad i p)
bad_takes i p q =
    takes_if i [] (nat_lt i.bads most_bads) _ _
    (λ b. record { cut = λ n ps. no_more i ps; rests = λ e. absurd (q e) })
    (λ b. record { cut = λ n ps. no_more i ps; rests = λ e. absurd (cc) })

-- the frames of a reception
abbrev frames_in : Heard → List DepFrame
frames_in h = frames_of (whole_in h)

whole_takes : (i : InitState) (p : Phase) (f : Signal) → is_under_way p ≡ true → Takes i (before_frames (spelled f) []) (whole i p f)
whole_takes i Asked f e = waited_takes i (spelled f)
whole_takes i Nacked f e = waited_takes i (spelled f)
whole_takes i Attending f e = attending_takes i (spelled f)
whole_takes i Free f e = absurd (cc)
whole_takes i EndedSixBad f e = absurd (cc)
whole_takes i EndedProtocol f e = absurd (cc)

damaged_takes : (i : InitState) (p : Phase) → is_under_way p ≡ true → Takes i [] (damaged i p)
damaged_takes i Asked e = bad_takes i Nacked (λ d. cc)
damaged_takes i Nacked e = bad_takes i Nacked (λ d. cc)
damaged_takes i Attending e = bad_takes i Attending (λ d. cc)
damaged_takes i Free e = absurd (cc)
damaged_takes i EndedSixBad e = absurd (cc)
damaged_takes i EndedProtocol e = absurd (cc)

silent_takes : (i : InitState) (p : Phase) → is_under_way p ≡ true → Takes i [] (silent i p)
silent_takes i Asked e = bad_takes i Attending (λ d. cc)
silent_takes i Nacked e = bad_takes i Attending (λ d. cc)
silent_takes i Attending e = bad_takes i Attending (λ d. cc)
silent_takes i Free e = absurd (cc)
silent_takes i EndedSixBad e = absurd (cc)
silent_takes i EndedProtocol e = absurd (cc)

next_takes : (i : InitState) (h : Heard) → is_under_way i.phase ≡ true → Takes i (frames_in h) (heard_next i h)
next_takes i (heards.Whole f) e = whole_takes i i.phase f e
next_takes i (heards.Collided f) e = damaged_takes i i.phase e
next_takes i heards.Damaged e = damaged_takes i i.phase e
next_takes i heards.Silent e = silent_takes i i.phase e

cut_then : (c : Cut) (vs ws : List DepFrame) → cut_up c (vs ++ ws) ≡ cut_up (cut_up c vs) ws
cut_then c [] ws = refl
cut_then c (v ∷ vs) ws = cut_then (taken_up c v) vs ws

-- where a talk stands
record Stands (w : Talk) : Type 0 where
  cut : cut_up (begins 0) (frames_of w.heard) ≡ cut_at w.initiator w.replies
  rests : w.initiator.phase ≡ Free → w.initiator.core.got ≡ []

abbrev Refused : Talk → Type 0
Refused w = w.initiator.phase ≡ EndedProtocol

goes_stands : (w : Talk) (h : Heard) → Stands w → is_under_way w.initiator.phase ≡ true → (Refused (goes_on w h) → ⊥) → Stands (goes_on w h)
goes_stands w h s e n =
    let t = next_takes w.initiator h e in
    record {
      cut =
          ap (cut_up (begins 0)) (frames_append w.heard (whole_in h)) ∙ cut_then (begins 0) (frames_of w.heard) (frames_in h) ∙ ap (λ (c : Cut). cut_up c (frames_in h)) s.cut
          ∙ t.cut n w.replies;
      rests = t.rests;
    }

hears_by : (b : Bool) (w : Talk) (h : Heard) → is_under_way w.initiator.phase ≡ b → Stands w → (Refused (if b then goes_on w h else w) → ⊥) → Stands (if b then goes_on w h else w)
hears_by true w h e s n = goes_stands w h s e n
hears_by false w h e s n = s

-- a refusal is the last word
stays_refused : (w : Talk) (hs : List Heard) → Refused w → Refused (hears_all w hs)
stays_refused w [] r = r
stays_refused w (h ∷ hs) r =
    let q : hears w h ≡ w = ap (λ (p : Phase). if is_under_way p then goes_on w h else w) r in
    stays_refused (hears w h) hs (ap (λ (x : Talk). x.initiator.phase) q ∙ r)

all_stands : (w : Talk) (hs : List Heard) → Stands w → (Refused (hears_all w hs) → ⊥) → Stands (hears_all w hs)
all_stands w [] s n = s
all_stands w (h ∷ hs) s n = all_stands (hears w h) hs (hears_by (is_under_way w.initiator.phase) w h refl s (λ r. n (stays_refused (hears w h) hs r))) n

talk_stands : (w : Talk) (q : Talked) → w.initiator.phase ≡ Free → Stands w → (Refused (talks w q) → ⊥) → Stands (talks w q)
talk_stands w q e s n =
    all_stands (record w { initiator = begun w.initiator q.out }) q.receptions
    (record { cut = s.cut ∙ ap (λ (xs : List ℕ). cut_at (record w.initiator { core = record w.initiator.core { got = xs } }) w.replies) (s.rests e); rests = λ d. refl }) n

talks_stand : (w : Talk) (qs : List Talked) → w.initiator.phase ≡ Free → Stands w → IsTalk w qs → Stands (talks_all w qs)
talks_stand w [] e s t = s
talks_stand w (q ∷ []) e s t = talk_stands w q e s t
talks_stand w (q ∷ p ∷ qs) e s t = talks_stand (talks w q) (p ∷ qs) t.0 (talk_stands w q e s (λ r. let a = t.0 in cc)) t.1

pub heard_replies : HeardReplies
heard_replies = λ code qs t. ap (λ (c : Cut). c.payloads) (talks_stand (quiet_talk code) qs refl (record { cut = refl; rests = λ e. refl }) t).cut
