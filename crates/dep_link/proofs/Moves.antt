-- What holds of each move of an initiator's table: the payload that was begun stays, a frame that it sends leaves less to do, and where it
-- ends by a fault each later reception gives the same fault.
use Rattle.std.proofs.Common.{◌≡◌, ℕ, ◌+◌, ◌<◌, ◌≤◌, ◌==◌, nat_lt, List, [], ◌++◌, length, Bool, true, false, if◌then◌else◌, Option, Some, None, refl, sym, ap, subst, arith}
use Rattle.nfc_base.specs.Signal.{Signal}
use Rattle.nfc_base.specs.Pieces.{Core, most_bads, turned, more_follows, may_extend, is_refused}
use Rattle.nfc_base.specs.declared.event.Heard.{Heard}
use Rattle.nfc_base.specs.declared.event.Heard.TheVariants as heards
use Rattle.nfc_base.proofs.Chains.{taken_piece, left_in, falls_received, falls_acked, falls_extended, falls_bad}
use Rattle.dep_pdu.specs.declared.frame.DepFrame.{DepFrame}
use Rattle.dep_pdu.specs.declared.frame.DepFrame.TheVariants.{AtrReq, AtrRes, Info, Ack, Nack, Attention, Extend, DslReq, DslRes, RlsReq, RlsRes}
use Rattle.dep_link.specs.declared.initiator.Phase.{Phase}
use Rattle.dep_link.specs.declared.initiator.Phase.TheVariants.{Asked, Nacked, Attending, Free, EndedSixBad, EndedProtocol}
use Rattle.dep_link.specs.declared.initiator.InitStep.TheVariants as steps
use Rattle.dep_link.specs.Sizes.{limit}
use Rattle.dep_link.specs.Frames.{after, spelled}
use Rattle.dep_link.specs.Initiator.{InitState, InitMove, InitTurn, Next, Asks, Gives, GivesUp, Refuses, framed, framed_next, FaultsStay, sends, refuses, bad, received, acked, brought, answered}
use Rattle.dep_link.specs.Initiator.{attended, waited, attending, whole, damaged, silent, heard_next, init_table}

abbrev pub after_attention : Phase → ℕ
after_attention Attending = 1
after_attention _ = 0

-- Attention is followed by its request once.
abbrev pub left_to_do : InitState → ℕ
left_to_do i = left_in limit i.core i.bads (after_attention i.phase)

one_at_most : (p : Phase) → after_attention p ≤ 1
one_at_most Asked = omega arith
one_at_most Nacked = omega arith
one_at_most Attending = omega arith
one_at_most Free = omega arith
one_at_most EndedSixBad = omega arith
one_at_most EndedProtocol = omega arith

-- what is left falls by a move that sends a frame
abbrev Falls : InitState → InitMove → Type 0
Falls i m = 0 < i.core.most → (v : DepFrame) → m.does ≡ Asks v → left_to_do m.state < left_to_do i

record Keeps (i : InitState) (m : InitMove) : Type 0 where
  out : m.state.out ≡ i.out
  falls : Falls i m
  gave_up : m.does ≡ GivesUp → m.state.phase ≡ EndedSixBad
  refused : m.does ≡ Refuses → m.state.phase ≡ EndedProtocol

-- At a whole frame it never gives up.
record Allows (i : InitState) (m : InitMove) : Type 0 where
  out : m.state.out ≡ i.out
  falls : Falls i m
  never : m.does ≡ GivesUp → ⊥
  refused : m.does ≡ Refuses → m.state.phase ≡ EndedProtocol

allows_keeps : (i : InitState) (m : InitMove) → Allows i m → Keeps i m
allows_keeps i m a = record { out = a.out; falls = a.falls; gave_up = λ e. absurd (a.never e); refused = a.refused }

allows_refuses : (i : InitState) → Allows i (refuses i)
allows_refuses i = record { out = refl; falls = λ p v e. cc; never = λ e. cc; refused = λ e. refl }

allows_sends : (i : InitState) (c : Core) (p : Phase) (bads : ℕ) → (0 < i.core.most → left_in limit c bads (after_attention p) < left_to_do i) → Allows i (sends i c p bads)
allows_sends i c p bads f = record { out = refl; falls = λ z v d. f z; never = λ d. cc; refused = λ d. cc }

allows_if : (i : InitState) (b : Bool) (m n : InitMove) → (b ≡ true → Allows i m) → (b ≡ false → Allows i n) → Allows i (if b then m else n)
allows_if i true m n p q = p refl
allows_if i false m n p q = q refl

allows_brought : (i : InitState) (more : Bool) (xs : List ℕ) → Allows i (brought i more xs)
allows_brought i more xs =
    allows_if i (is_refused limit more xs (i.core.got ++ xs)) _ _ (λ b. allows_refuses i) (λ b. go more (taken_piece limit more xs (i.core.got ++ xs) b))
  where
    go : (m : Bool) → (length (i.core.got ++ xs) ≤ limit) × (m ≡ true → 0 < length xs) → Allows i (received i m (i.core.got ++ xs))
    go true n =
        allows_sends i (turned i.core (after i.core.number) [] true (i.core.got ++ xs)) Asked 0
        (λ z. falls_received limit i.core (after i.core.number) i.bads (after_attention i.phase) xs (n.1 refl) n.0)
    go false n = record { out = refl; falls = λ p v e. cc; never = λ e. cc; refused = λ e. cc }

first_true : (a b : Bool) → (if a then b else false) ≡ true → a ≡ true
first_true true b e = refl
first_true false b e = absurd (cc)

allows_acked : (i : InitState) (pni : ℕ) → Allows i (acked i pni)
allows_acked i pni =
    allows_if i (if more_follows i.core then pni == i.core.number else false) _ _
    (λ b. allows_sends i _ _ _ (falls_acked limit i.core (after i.core.number) i.bads (after_attention i.phase) (first_true (more_follows i.core) (pni == i.core.number) b))) (λ b. allows_refuses i)

allows_answered : (i : InitState) (v : DepFrame) → Allows i (answered i v)
allows_answered i (Info true more n x) =
    allows_if i (if more_follows i.core then false else n == i.core.number) _ _ (λ b. allows_brought i more x.items) (λ b. allows_refuses i)
allows_answered i (Info false more n x) = allows_refuses i
allows_answered i (Ack true n) = allows_acked i n
allows_answered i (Ack false n) = allows_refuses i
allows_answered i (Nack n) = allows_refuses i
allows_answered i (Attention up) = allows_refuses i
allows_answered i (AtrReq id lr general) = allows_refuses i
allows_answered i (AtrRes id timeout lr general) = allows_refuses i
allows_answered i (Extend true times) =
    allows_if i (may_extend i.core times) _ _ (λ b. allows_sends i _ _ _ (λ z. falls_extended limit i.core times i.bads (after_attention i.phase) b)) (λ b. allows_refuses i)
allows_answered i (Extend false times) = allows_refuses i
allows_answered i DslReq = allows_refuses i
allows_answered i DslRes = allows_refuses i
allows_answered i RlsReq = allows_refuses i
allows_answered i RlsRes = allows_refuses i

allows_attended : (i : InitState) (v : DepFrame) → i.phase ≡ Attending → Allows i (attended i v)
allows_attended i (Attention true) a = allows_sends i _ _ _ (λ z. let n : after_attention i.phase ≡ 1 = ap after_attention a in omega (arith, n))
allows_attended i (Attention false) a = allows_refuses i
allows_attended i (Info up more n x) a = allows_refuses i
allows_attended i (Ack up n) a = allows_refuses i
allows_attended i (Nack n) a = allows_refuses i
allows_attended i (AtrReq id lr general) a = allows_refuses i
allows_attended i (AtrRes id timeout lr general) a = allows_refuses i
allows_attended i (Extend up times) a = allows_refuses i
allows_attended i DslReq a = allows_refuses i
allows_attended i DslRes a = allows_refuses i
allows_attended i RlsReq a = allows_refuses i
allows_attended i RlsRes a = allows_refuses i

allows_waited : (i : InitState) (o : Option DepFrame) → Allows i (waited i o)
allows_waited i None = allows_refuses i
allows_waited i (Some v) = allows_answered i v

allows_attending : (i : InitState) (o : Option DepFrame) → i.phase ≡ Attending → Allows i (attending i o)
allows_attending i None a = allows_refuses i
allows_attending i (Some v) a = allows_attended i v a

keeps_bad : (i : InitState) (p : Phase) → Keeps i (bad i p)
keeps_bad i p = go (nat_lt i.bads most_bads) refl
  where
    go : (b : Bool) → nat_lt i.bads most_bads ≡ b → Keeps i (if b then sends i i.core p (i.bads + 1) else record { state = record i { phase = EndedSixBad }; does = GivesUp })
    go true b = allows_keeps i _ (allows_sends i i.core p (i.bads + 1) (λ z. falls_bad limit i.core i.bads (after_attention i.phase) (after_attention p) b (one_at_most p)))
    go false b = record { out = refl; falls = λ z v e. cc; gave_up = λ e. refl; refused = λ e. cc }

ended_six : (i : InitState) → i.phase ≡ EndedSixBad → Keeps i (record { state = i; does = GivesUp })
ended_six i e = record { out = refl; falls = λ z v d. cc; gave_up = λ d. e; refused = λ d. cc }

ended_refused : (i : InitState) → i.phase ≡ EndedProtocol → Keeps i (record { state = i; does = Refuses })
ended_refused i e = record { out = refl; falls = λ z v d. cc; gave_up = λ d. cc; refused = λ d. e }

keeps_whole : (i : InitState) (p : Phase) (f : Signal) → i.phase ≡ p → Keeps i (whole i p f)
keeps_whole i Asked f e = allows_keeps i _ (allows_waited i (spelled f))
keeps_whole i Nacked f e = allows_keeps i _ (allows_waited i (spelled f))
keeps_whole i Attending f e = allows_keeps i _ (allows_attending i (spelled f) e)
keeps_whole i Free f e = allows_keeps i _ (allows_refuses i)
keeps_whole i EndedSixBad f e = ended_six i e
keeps_whole i EndedProtocol f e = ended_refused i e

keeps_damaged : (i : InitState) (p : Phase) → i.phase ≡ p → Keeps i (damaged i p)
keeps_damaged i Asked e = keeps_bad i Nacked
keeps_damaged i Nacked e = keeps_bad i Nacked
keeps_damaged i Attending e = keeps_bad i Attending
keeps_damaged i Free e = keeps_bad i Free
keeps_damaged i EndedSixBad e = ended_six i e
keeps_damaged i EndedProtocol e = ended_refused i e

keeps_silent : (i : InitState) (p : Phase) → i.phase ≡ p → Keeps i (silent i p)
keeps_silent i Asked e = keeps_bad i Attending
keeps_silent i Nacked e = keeps_bad i Attending
keeps_silent i Attending e = keeps_bad i Attending
keeps_silent i Free e = keeps_bad i Free
keeps_silent i EndedSixBad e = ended_six i e
keeps_silent i EndedProtocol e = ended_refused i e

keeps_next : (i : InitState) (h : Heard) → Keeps i (heard_next i h)
keeps_next i (heards.Whole f) = keeps_whole i i.phase f refl
keeps_next i (heards.Collided f) = keeps_damaged i i.phase refl
keeps_next i heards.Damaged = keeps_damaged i i.phase refl
keeps_next i heards.Silent = keeps_silent i i.phase refl

at_six : (j : InitState) (h : Heard) → j.phase ≡ EndedSixBad → heard_next j h ≡ record { state = j; does = GivesUp }
at_six j (heards.Whole f) e = ap (λ p. whole j p f) e
at_six j (heards.Collided f) e = ap (damaged j) e
at_six j heards.Damaged e = ap (damaged j) e
at_six j heards.Silent e = ap (silent j) e

at_refused : (j : InitState) (h : Heard) → j.phase ≡ EndedProtocol → heard_next j h ≡ record { state = j; does = Refuses }
at_refused j (heards.Whole f) e = ap (λ p. whole j p f) e
at_refused j (heards.Collided f) e = ap (damaged j) e
at_refused j heards.Damaged e = ap (damaged j) e
at_refused j heards.Silent e = ap (silent j) e

-- what an initiator tells it does
sent_frame : (x : Next) (f : Signal) → framed_next x ≡ steps.Send f → (v : DepFrame) × (x ≡ Asks v)
sent_frame (Asks v) f e = (v, refl)
sent_frame (Gives xs) f e = absurd (cc)
sent_frame GivesUp f e = absurd (cc)
sent_frame Refuses f e = absurd (cc)

does_six : (x : Next) → framed_next x ≡ steps.SixBad → x ≡ GivesUp
does_six (Asks v) e = absurd (cc)
does_six (Gives xs) e = absurd (cc)
does_six GivesUp e = refl
does_six Refuses e = absurd (cc)

does_refuse : (x : Next) → framed_next x ≡ steps.Protocol → x ≡ Refuses
does_refuse (Asks v) e = absurd (cc)
does_refuse (Gives xs) e = absurd (cc)
does_refuse GivesUp e = absurd (cc)
does_refuse Refuses e = refl

-- After six bad receptions of a wait, and after a whole frame that isn't allowed, each later step tells the same, and changes nothing.
pub faults_stay : FaultsStay
faults_stay = λ i h later. (
  λ e. ap framed (at_six (heard_next i h).state later ((keeps_next i h).gave_up (does_six (heard_next i h).does e))),
  λ e. ap framed (at_refused (heard_next i h).state later ((keeps_next i h).refused (does_refuse (heard_next i h).does e))),
)

-- A whole frame is no bad reception: while an exchange is under way it doesn't end one by six of them.
whole_never : (i : InitState) (p : Phase) (g : Signal) → i.phase ≡ p → (p ≡ EndedSixBad → ⊥) → (whole i p g).does ≡ GivesUp → ⊥
whole_never i Asked g e n = (allows_waited i (spelled g)).never
whole_never i Nacked g e n = (allows_waited i (spelled g)).never
whole_never i Attending g e n = (allows_attending i (spelled g) e).never
whole_never i Free g e n = (allows_refuses i).never
whole_never i EndedSixBad g e n = absurd (n refl)
whole_never i EndedProtocol g e n = λ d. cc

pub whole_not_six : (i : InitState) (g : Signal) → (i.phase ≡ EndedSixBad → ⊥) → (init_table i (heards.Whole g)).does ≡ steps.SixBad → ⊥
whole_not_six i g n e = whole_never i i.phase g refl n (does_six (heard_next i (heards.Whole g)).does e)

-- whatever is heard, the payload that was begun last stays
pub out_stays : (i : InitState) (h : Heard) → (init_table i h).state.out ≡ i.out
out_stays i h = (keeps_next i h).out

-- a frame that is sent leaves less to do, by what a step has told
pub falls_by : (i i' : InitState) (h : Heard) (f : Signal) → 0 < i.core.most → (let x : InitTurn = record { state = i'; does = steps.Send f } in x) ≡ init_table i h
    → left_to_do i' < left_to_do i
falls_by i i' h f p e =
    let s = sent_frame (heard_next i h).does f (sym (ap (λ (x : InitTurn). x.does) e)) in
    subst (λ (x : InitState). left_to_do x < left_to_do i) (sym (ap (λ (x : InitTurn). x.state) e)) ((keeps_next i h).falls p s.0 s.1)
