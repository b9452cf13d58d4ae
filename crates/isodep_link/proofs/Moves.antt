-- What holds of each move of a reader's table: it cuts to the same size as before, a block that it sends leaves less to do, and where it
-- ends by a fault each later reception gives the same fault.
use Rattle.std.proofs.Common.{◌≡◌, ℕ, ◌+◌, ◌<◌, ◌≤◌, ◌==◌, nat_lt, List, [], ◌++◌, length, Bool, true, false, if◌then◌else◌, Option, Some, None, ◌⊎◌, inl, inr, refl, sym, ◌∙◌, ap, subst, arith}
use Rattle.nfc_base.specs.Signal.{Signal}
use Rattle.nfc_base.specs.Pieces.{Core, most_bads, turned, more_follows, may_extend, is_refused}
use Rattle.nfc_base.specs.declared.event.Heard.{Heard}
use Rattle.nfc_base.specs.declared.event.Heard.TheVariants as heard
use Rattle.nfc_base.proofs.Chains.{taken_piece, left_in, falls_received, falls_acked, falls_extended, falls_bad}
use Rattle.isodep_link.specs.declared.block.Block.{Block}
use Rattle.isodep_link.specs.declared.block.Block.TheVariants.{Info, Ack, Nak, Deselect, Extend}
use Rattle.isodep_link.specs.declared.reader.Phase.{Phase}
use Rattle.isodep_link.specs.declared.reader.Phase.TheVariants.{Asked, Nacked, Free, EndedSixBad, EndedProtocol}
use Rattle.isodep_link.specs.declared.reader.ReaderStep.TheVariants as steps
use Rattle.isodep_link.specs.Blocks.{toggled, spelled_block}
use Rattle.isodep_link.specs.Sizes.{limit}
use Rattle.isodep_link.specs.Reader.{ReaderState, ReaderMove, ReaderTurn, ReaderDoes, Asks, Gives, GivesUp, Refuses, Reception, Hears, Odd, Bad, FaultsStay, sends, refuses, after_bad, bad, received}
use Rattle.isodep_link.specs.Reader.{acked, missed, brought, answered, waited, in_phase, block_next, framed, framed_next, whole_reception, reception, reader_table}

abbrev pub after_nak : Phase → ℕ
after_nak Nacked = 1
after_nak _ = 0

-- R(NAK) is followed by its block once.
abbrev pub left_to_do : ReaderState → ℕ
left_to_do i = left_in limit i.core i.bads (after_nak i.phase)

one_at_most : (p : Phase) → after_nak p ≤ 1
one_at_most Asked = omega arith
one_at_most Nacked = omega arith
one_at_most Free = omega arith
one_at_most EndedSixBad = omega arith
one_at_most EndedProtocol = omega arith

-- what is left falls by a move that sends a block
abbrev Falls : ReaderState → ReaderMove → Type 0
Falls i m = 0 < i.core.most → (b : Block) → m.does ≡ Asks b → left_to_do m.state < left_to_do i

record Keeps (i : ReaderState) (m : ReaderMove) : Type 0 where
  cuts : m.state.core.most ≡ i.core.most
  falls : Falls i m
  gave_up : m.does ≡ GivesUp → m.state.phase ≡ EndedSixBad
  refused : m.does ≡ Refuses → m.state.phase ≡ EndedProtocol

-- At a whole frame it never gives up.
record Allows (i : ReaderState) (m : ReaderMove) : Type 0 where
  cuts : m.state.core.most ≡ i.core.most
  falls : Falls i m
  never : m.does ≡ GivesUp → ⊥
  refused : m.does ≡ Refuses → m.state.phase ≡ EndedProtocol

allows_keeps : (i : ReaderState) (m : ReaderMove) → Allows i m → Keeps i m
allows_keeps i m a = record { cuts = a.cuts; falls = a.falls; gave_up = λ e. absurd (a.never e); refused = a.refused }

allows_refuses : (i : ReaderState) → Allows i (refuses i)
allows_refuses i = record { cuts = refl; falls = λ p b e. cc; never = λ e. cc; refused = λ e. refl }

allows_sends : (i : ReaderState) (c : Core) (p : Phase) (bads : ℕ) → c.most ≡ i.core.most → (0 < i.core.most → left_in limit c bads (after_nak p) < left_to_do i) → Allows i (sends c p bads)
allows_sends i c p bads e f = record { cuts = e; falls = λ z b d. f z; never = λ d. cc; refused = λ d. cc }

allows_if : (i : ReaderState) (v : Bool) (m n : ReaderMove) → (v ≡ true → Allows i m) → (v ≡ false → Allows i n) → Allows i (if v then m else n)
allows_if i true m n p q = p refl
allows_if i false m n p q = q refl

allows_brought : (i : ReaderState) (more : Bool) (xs : List ℕ) → Allows i (brought i more xs)
allows_brought i more xs =
    allows_if i (is_refused limit more xs (i.core.got ++ xs)) _ _ (λ v. allows_refuses i) (λ v. go more (taken_piece limit more xs (i.core.got ++ xs) v))
  where
    go : (m : Bool) → (length (i.core.got ++ xs) ≤ limit) × (m ≡ true → 0 < length xs) → Allows i (received i m (i.core.got ++ xs))
    go true n =
        allows_sends i (turned i.core (toggled i.core.number) [] true (i.core.got ++ xs)) Asked 0 refl
        (λ z. falls_received limit i.core (toggled i.core.number) i.bads (after_nak i.phase) xs (n.1 refl) n.0)
    go false n = record { cuts = refl; falls = λ p b e. cc; never = λ e. cc; refused = λ e. cc }

allows_acked : (i : ReaderState) → Allows i (acked i)
allows_acked i =
    allows_if i (more_follows i.core) _ _ (λ v. allows_sends i _ _ _ refl (falls_acked limit i.core (toggled i.core.number) i.bads (after_nak i.phase) v)) (λ v. allows_refuses i)

allows_missed : (i : ReaderState) (p : Phase) → i.phase ≡ p → Allows i (missed i p)
allows_missed i Asked e = allows_refuses i
allows_missed i Nacked e = allows_sends i _ _ _ refl (λ z. let n : after_nak i.phase ≡ 1 = ap after_nak e in omega (arith, n))
allows_missed i Free e = allows_refuses i
allows_missed i EndedSixBad e = allows_refuses i
allows_missed i EndedProtocol e = allows_refuses i

allows_answered : (i : ReaderState) (b : Block) → Allows i (answered i b)
allows_answered i (Info more n c) =
    allows_if i (if more_follows i.core then false else n == i.core.number) _ _ (λ v. allows_brought i more c.items) (λ v. allows_refuses i)
allows_answered i (Ack n) = allows_if i (n == i.core.number) _ _ (λ v. allows_acked i) (λ v. allows_missed i i.phase refl)
allows_answered i (Nak n) = allows_refuses i
allows_answered i Deselect = allows_refuses i
allows_answered i (Extend times) =
    allows_if i (may_extend i.core times) _ _ (λ v. allows_sends i _ _ _ refl (λ z. falls_extended limit i.core times i.bads (after_nak i.phase) v)) (λ v. allows_refuses i)

allows_whole : (i : ReaderState) (o : Option Block) → Allows i (waited i (whole_reception o))
allows_whole i None = allows_refuses i
allows_whole i (Some b) = allows_answered i b

keeps_bad : (i : ReaderState) → Keeps i (bad i)
keeps_bad i = go (nat_lt i.bads most_bads) refl
  where
    p : Phase
    p = after_bad i.phase i.core

    go : (v : Bool) → nat_lt i.bads most_bads ≡ v → Keeps i (if v then sends i.core p (i.bads + 1) else record { state = record i { phase = EndedSixBad }; does = GivesUp })
    go true v = allows_keeps i _ (allows_sends i i.core p (i.bads + 1) refl (λ z. falls_bad limit i.core i.bads (after_nak i.phase) (after_nak p) v (one_at_most p)))
    go false v = record { cuts = refl; falls = λ z b e. cc; gave_up = λ e. refl; refused = λ e. cc }

keeps_in : (i : ReaderState) (p : Phase) → i.phase ≡ p → (h : Reception) → Keeps i (in_phase i p h)
keeps_in i Asked e (Hears b) = allows_keeps i _ (allows_answered i b)
keeps_in i Asked e Odd = allows_keeps i _ (allows_refuses i)
keeps_in i Asked e Bad = keeps_bad i
keeps_in i Nacked e (Hears b) = allows_keeps i _ (allows_answered i b)
keeps_in i Nacked e Odd = allows_keeps i _ (allows_refuses i)
keeps_in i Nacked e Bad = keeps_bad i
keeps_in i Free e (Hears b) = allows_keeps i _ (allows_refuses i)
keeps_in i Free e Odd = allows_keeps i _ (allows_refuses i)
keeps_in i Free e Bad = keeps_bad i
keeps_in i EndedSixBad e h = record { cuts = refl; falls = λ z b d. cc; gave_up = λ d. e; refused = λ d. cc }
keeps_in i EndedProtocol e h = record { cuts = refl; falls = λ z b d. cc; gave_up = λ d. cc; refused = λ d. e }

keeps_next : (i : ReaderState) (h : Reception) → Keeps i (block_next i h)
keeps_next i h = keeps_in i i.phase refl h

-- what a reader tells it does
sent_block : (x : ReaderDoes) (f : Signal) → framed_next x ≡ steps.Send f → (b : Block) × (x ≡ Asks b)
sent_block (Asks b) f e = (b, refl)
sent_block (Gives xs) f e = absurd (cc)
sent_block GivesUp f e = absurd (cc)
sent_block Refuses f e = absurd (cc)

tells_six : (x : ReaderDoes) → framed_next x ≡ steps.SixBad → x ≡ GivesUp
tells_six (Asks b) e = absurd cc
tells_six (Gives xs) e = absurd cc
tells_six GivesUp e = refl
tells_six Refuses e = absurd cc

tells_protocol : (x : ReaderDoes) → framed_next x ≡ steps.Protocol → x ≡ Refuses
tells_protocol (Asks b) e = absurd cc
tells_protocol (Gives xs) e = absurd cc
tells_protocol GivesUp e = absurd cc
tells_protocol Refuses e = refl

-- After six bad receptions of a wait, and after a whole frame that isn't allowed, each later step tells the same, and changes nothing.
pub faults_stay : FaultsStay
faults_stay i h later =
    let j : ReaderState = (block_next i (reception h)).state in
    let k = keeps_next i (reception h) in (
      λ e. ap (λ p. framed (in_phase j p (reception later))) (k.gave_up (tells_six (block_next i (reception h)).does e)),
      λ e. ap (λ p. framed (in_phase j p (reception later))) (k.refused (tells_protocol (block_next i (reception h)).does e)),
    )

-- a whole frame never ends a wait as six bad receptions do
pub whole_not_six : (i : ReaderState) (g : Signal) → (i.phase ≡ Asked) ⊎ (i.phase ≡ Nacked) → (reader_table i (heard.Whole g)).does ≡ steps.SixBad → ⊥
whole_not_six i g l e = go l
  where
    by : (p : Phase) → i.phase ≡ p → (in_phase i p (whole_reception (spelled_block g))).does ≡ GivesUp
    by p q = sym (ap (λ q. (in_phase i q (whole_reception (spelled_block g))).does) q) ∙ tells_six _ e

    go : (i.phase ≡ Asked) ⊎ (i.phase ≡ Nacked) → ⊥
    go (inl p) = (allows_whole i (spelled_block g)).never (by Asked p)
    go (inr p) = (allows_whole i (spelled_block g)).never (by Nacked p)

-- whatever it hears a reader cuts to the same size
pub reader_cuts : (i : ReaderState) (h : Heard) → (reader_table i h).state.core.most ≡ i.core.most
reader_cuts i h = (keeps_next i (reception h)).cuts

-- a block that is sent leaves less to do, by what a step has told
pub falls_by : (i i' : ReaderState) (h : Heard) (f : Signal) → 0 < i.core.most → (let x : ReaderTurn = record { state = i'; does = steps.Send f } in x) ≡ reader_table i h
    → left_to_do i' < left_to_do i
falls_by i i' h f p e =
    let s = sent_block (block_next i (reception h)).does f (sym (ap (λ (x : ReaderTurn). x.does) e)) in
    subst (λ (x : ReaderState). left_to_do x < left_to_do i) (sym (ap (λ (x : ReaderTurn). x.state) e)) ((keeps_next i (reception h)).falls p s.0 s.1)
