-- Two initiators carry payloads that begin the same, under the same receptions: while the requests bring no more than that, they send the same.
use Rattle.std.proofs.Common.{◌≡◌, ◌<◌, ◌≤◌, ◌⊎◌, inl, inr, ℕ, ◌+◌, nat_lt, Bool, true, false, List, [], ◌∷◌, ◌++◌, length, take, Option, Some, None, if◌then◌else◌, refl, sym, ap, subst, ◌∙◌, arith}
use Rattle.std.proofs.Common.{append_assoc, length-append}
use Rattle.std.proofs.Math.Seq.{take-append_seam}
use Rattle.std.proofs.lemmas.Bool.{cases_lt, lt-ltb}
use Rattle.std.proofs.lemmas.List.{append_cancel_left, length-take}
use Rattle.nfc_base.specs.Signal.{Signal}
use Rattle.nfc_base.specs.declared.carrier.EndCause.{EndCause}
use Rattle.air_core.specs.Conversation.{Note, Asks}
use Rattle.dep_pdu.specs.declared.frame.DepFrame.TheVariants.{Ack, Nack}
use Rattle.dep_link.specs.declared.initiator.Phase.{Phase}
use Rattle.dep_link.specs.declared.initiator.Phase.TheVariants.{Asked, Nacked, Attending, Free, EndedSixBad, EndedProtocol}
use Rattle.dep_link.specs.Frames.{after, air_frame, information, piece}
use Rattle.dep_link.specs.Payloads.{Cut}
use Rattle.dep_link.specs.Initiator.{InitState, asked, sent}
use Rattle.dep_link.specs.Asking.{Standing, Waits, Broken, Astray, due_at, noted}
use Rattle.llcp_link.specs.Fronts.{IsProperPrefix}
use Rattle.link_numbers.proofs.own.OwnCuts.{Grows, open_, closed, at, cuts, grown}
use Rattle.link_numbers.proofs.own.OwnTurns.{Along, Turn, asked_in, heard_in, on}
use Rattle.link_numbers.proofs.own.OwnMoving.{Again, Fails, Kind, Onward, Wanders, again, frame_due, hears_more, kind_of, made, onward, same_kind}
use Rattle.link_numbers.proofs.own.OwnPlaces.{Fit, Follows, Midst, Unsent, again_midst, midst_follows, onward_fit, onward_rest, onward_unsent, sent_again, sent_last, sent_more}
use Rattle.link_numbers.proofs.far.FarShows.{behind}

-- they differ at most in the bytes of the payload
pub record Twins (i j : InitState) : Type 0 where
  pub number : j.core.number ≡ i.core.number
  pub most : j.core.most ≡ i.core.most
  pub plain : j.core.extension ≡ i.core.extension
  pub phase : j.phase ≡ i.phase
  pub bads : j.bads ≡ i.bads

again_twins : (i j : InitState) (phase : Phase) (bads : ℕ) → Twins i j → Twins (again i phase bads) (again j phase bads)
again_twins i j phase bads w = record { number = w.number; most = w.most; plain = w.plain; phase = refl; bads = refl }

onward_twins : (i j : InitState) → Twins i j → Twins (onward i) (onward j)
onward_twins i j w = record { number = ap after w.number; most = w.most; plain = refl; phase = refl; bads = refl }

-- the piece that is under way, and the frame by which it is
midst_asked : (i : InitState) (xs ys : List ℕ) → Midst i xs ys → asked i.core None ≡ information false true i.core.number xs
midst_asked i xs ys m =
    let l : length i.core.rest ≡ length xs + length ys = ap length m.is ∙ length-append xs ys in
    let f = m.full in
    let s = m.some in
    let more : nat_lt i.core.most (length i.core.rest) ≡ true = lt-ltb i.core.most (length i.core.rest) (omega (arith, l, f, s)) in
    let front : take i.core.most i.core.rest ≡ xs = ap (take i.core.most) m.is ∙ ap (λ n. take n (xs ++ ys)) (sym m.full) ∙ take-append_seam xs ys in
    ap (λ (d : Bool). if d then Ack false i.core.number else piece false i.core.most i.core.number i.core.rest) m.sending
    ∙ ap (λ t. information false t i.core.number (take i.core.most i.core.rest)) more ∙ ap (information false true i.core.number) front

midst_due : (i j : InitState) (xs us vs : List ℕ) → Twins i j → Midst i xs us → Midst j xs vs → frame_due j ≡ frame_due i
midst_due i j xs us vs w m l = ap (λ p. air_frame (sent p j.core)) w.phase ∙ ap air_frame (by i.phase)
  where
    plainly : (o : Option ℕ) → asked j.core o ≡ asked i.core o
    plainly (Some times) = refl
    plainly None = midst_asked j xs vs l ∙ ap (λ n. information false true n xs) w.number ∙ sym (midst_asked i xs us m)

    requests : asked j.core j.core.extension ≡ asked i.core i.core.extension
    requests = ap (asked j.core) w.plain ∙ plainly i.core.extension

    by : (phase : Phase) → sent phase j.core ≡ sent phase i.core
    by Asked = requests
    by Nacked = ap Nack w.number
    by Attending = refl
    by Free = refl
    by EndedSixBad = requests
    by EndedProtocol = requests

-- The piece was sent, and what these frames bring of the payload behind it both have, and more.
pub record BothMidst (fs : List Signal) (i j : InitState) : Type 0 where
  pub chain : List ℕ
  pub piece : List ℕ
  pub ahead : List ℕ
  pub first : List ℕ
  pub second : List ℕ
  pub first_at : Midst i piece first
  pub second_at : Midst j piece second
  pub none : (cuts (at (after i.core.number) chain) fs).payloads ≡ []
  pub brings : (cuts (at (after i.core.number) chain) fs).chain ≡ chain ++ ahead
  pub first_has : IsProperPrefix ahead first
  pub second_has : IsProperPrefix ahead second

-- or the piece wasn't sent yet
pub record BothUnsent (fs : List Signal) (i j : InitState) : Type 0 where
  pub chain : List ℕ
  pub ahead : List ℕ
  pub first_at : Unsent i
  pub second_at : Unsent j
  pub none : (cuts (at i.core.number chain) fs).payloads ≡ []
  pub brings : (cuts (at i.core.number chain) fs).chain ≡ chain ++ ahead
  pub first_has : IsProperPrefix ahead i.core.rest
  pub second_has : IsProperPrefix ahead j.core.rest

abbrev pub Both : List Signal → InitState → InitState → Type 0
Both fs i j = BothUnsent fs i j ⊎ BothMidst fs i j

-- a piece that both have is sent by both
at_piece : (i : InitState) (xs zs rest : List ℕ) (front : IsProperPrefix (xs ++ zs) rest) → i.core.rest ≡ rest → i.core.drawing ≡ false → length xs ≡ i.core.most
    → Midst i xs (zs ++ front.byte ∷ front.more)
at_piece i xs zs rest front e sending full = record {
  sending = sending;
  is = e ∙ front.is ∙ append_assoc xs zs (front.byte ∷ front.more);
  full = full;
  some = let l = length-append zs (front.byte ∷ front.more) in omega (arith, l);
}

sent_both : (i j : InitState) (fs : List Signal) → Fit i.core → Twins i j → BothUnsent (frame_due i ∷ fs) i j → BothMidst fs i j
sent_both i j fs fit w b = go (cases_lt i.core.most (length i.core.rest))
  where
    n : ℕ
    n = i.core.number

    xs : List ℕ
    xs = take i.core.most i.core.rest

    with_more : (c : Cut) → c ≡ cuts (at (after n) (b.chain ++ xs)) fs → Grows (b.chain ++ xs) c → c.payloads ≡ [] → c.chain ≡ b.chain ++ b.ahead → i.core.most < length i.core.rest
        → BothMidst fs i j
    with_more c is (open_ zs none more) empty brings h =
        let ahead : b.ahead ≡ xs ++ zs = append_cancel_left b.chain b.ahead (xs ++ zs) (sym brings ∙ more ∙ append_assoc b.chain xs zs) in
        let f : IsProperPrefix (xs ++ zs) i.core.rest = subst (λ ys. IsProperPrefix ys i.core.rest) ahead b.first_has in
        let s : IsProperPrefix (xs ++ zs) j.core.rest = subst (λ ys. IsProperPrefix ys j.core.rest) ahead b.second_has in
        let full : length xs ≡ i.core.most = let l = length-take i.core.most i.core.rest in omega (arith, h, l) in
        record {
          chain = b.chain ++ xs;
          piece = xs;
          ahead = zs;
          first = zs ++ f.byte ∷ f.more;
          second = zs ++ s.byte ∷ s.more;
          first_at = at_piece i xs zs i.core.rest f refl b.first_at.sending full;
          second_at = at_piece j xs zs j.core.rest s refl b.second_at.sending (full ∙ sym w.most);
          none = ap (λ (d : Cut). d.payloads) (sym is) ∙ empty;
          brings = ap (λ (d : Cut). d.chain) (sym is) ∙ more;
          first_has = record { byte = f.byte; more = f.more; is = refl };
          second_has = record { byte = s.byte; more = s.more; is = refl };
        }
    with_more c is (closed z zs ps e) empty brings h = absurd (let k : ((b.chain ++ xs) ++ z ∷ zs) ∷ ps ≡ [] = sym e ∙ empty in cc)

    go : (i.core.most < length i.core.rest) ⊎ (length i.core.rest ≤ i.core.most) → BothMidst fs i j
    go (inl h) =
        let c : Cut = cuts (at (after n) (b.chain ++ xs)) fs in
        let e : cuts (at n b.chain) (frame_due i ∷ fs) ≡ c = sent_more i fit b.chain fs b.first_at h in
        with_more c refl (grown (after n) (b.chain ++ xs) fs) (ap (λ (d : Cut). d.payloads) (sym e) ∙ b.none) (ap (λ (d : Cut). d.chain) (sym e) ∙ b.brings) h
    go (inr h) =
        let e : cuts (at n b.chain) (frame_due i ∷ fs) ≡ behind ((b.chain ++ i.core.rest) ∷ []) (cuts (at (after n) []) fs) = sent_last i fit b.chain fs b.first_at h in
        absurd (let k : (b.chain ++ i.core.rest) ∷ (cuts (at (after n) []) fs).payloads ≡ [] = sym (ap (λ (d : Cut). d.payloads) e) ∙ b.none in cc)

sent_still : (i j : InitState) (fs : List Signal) → Fit i.core → BothMidst (frame_due i ∷ fs) i j → BothMidst fs i j
sent_still i j fs fit b =
    let e : cuts (at (after i.core.number) b.chain) (frame_due i ∷ fs) ≡ cuts (at (after i.core.number) b.chain) fs = sent_again i fit b.chain fs in
    record {
      chain = b.chain;
      piece = b.piece;
      ahead = b.ahead;
      first = b.first;
      second = b.second;
      first_at = b.first_at;
      second_at = b.second_at;
      none = ap (λ (d : Cut). d.payloads) (sym e) ∙ b.none;
      brings = ap (λ (d : Cut). d.chain) (sym e) ∙ b.brings;
      first_has = b.first_has;
      second_has = b.second_has;
    }

both_sent : (i j : InitState) (fs : List Signal) → Fit i.core → Twins i j → Both (frame_due i ∷ fs) i j → BothMidst fs i j
both_sent i j fs fit w (inl b) = sent_both i j fs fit w b
both_sent i j fs fit w (inr b) = sent_still i j fs fit b

-- what is heard leads both the same way
both_again : (i j : InitState) (fs : List Signal) (phase : Phase) (bads : ℕ) → BothMidst fs i j → BothMidst fs (again i phase bads) (again j phase bads)
both_again i j fs phase bads b = record {
  chain = b.chain;
  piece = b.piece;
  ahead = b.ahead;
  first = b.first;
  second = b.second;
  first_at = again_midst i b.piece b.first b.first_at phase bads;
  second_at = again_midst j b.piece b.second b.second_at phase bads;
  none = b.none;
  brings = b.brings;
  first_has = b.first_has;
  second_has = b.second_has;
}

both_onward : (i j : InitState) (fs : List Signal) → BothMidst fs i j → BothUnsent fs (onward i) (onward j)
both_onward i j fs b = record {
  chain = b.chain;
  ahead = b.ahead;
  first_at = onward_unsent i b.piece b.first b.first_at;
  second_at = onward_unsent j b.piece b.second b.second_at;
  none = b.none;
  brings = b.brings;
  first_has = subst (IsProperPrefix b.ahead) (sym (onward_rest i b.piece b.first b.first_at)) b.first_has;
  second_has = subst (IsProperPrefix b.ahead) (sym (onward_rest j b.piece b.second b.second_at)) b.second_has;
}

-- both wait, or both ended by the same
pub data Closes (s q : Standing) : Type 0 where
  both_wait : (f g : Signal) → due_at s ≡ Asks f → due_at q ≡ Asks g → Closes s q
  both_broken : (cause : EndCause) → s ≡ Broken cause → q ≡ Broken cause → Closes s q
  both_astray : s ≡ Astray → q ≡ Astray → Closes s q

-- these turns were due at both
pub record BothDue (s q : Standing) (ts : List Turn) : Type 0 where
  pub first : Along noted due_at s ts
  pub second : Along noted due_at q ts
  pub ends : Closes (on noted due_at s (heard_in ts)) (on noted due_at q (heard_in ts))

abbrev OfBoth : List Turn → Type 0
OfBoth ts = (i j : InitState) → Fit i.core → Twins i j → Both (asked_in ts) i j → Follows (Waits i (frame_due i)) ts → BothDue (Waits i (frame_due i)) (Waits j (frame_due j)) ts

both_stopped : (ts : List Turn) (s : Standing) → Closes s s → ((t : Turn) (us : List Turn) → Follows s (t ∷ us) → ⊥) → Follows s ts → BothDue s s ts
both_stopped [] s c stops f = record { first = tt; second = tt; ends = c }
both_stopped (t ∷ ts) s c stops f = absurd (stops t ts f)

heard_both : (ts : List Turn) → OfBoth ts → (i j : InitState) → Fit i.core → Twins i j → BothMidst (asked_in ts) i j → (n : Note) → Follows (noted (Waits i (frame_due i)) n) ts
    → BothDue (noted (Waits i (frame_due i)) n) (noted (Waits j (frame_due j)) n) ts
heard_both ts both i j fit w b n f =
    subst (λ s. BothDue s (noted (Waits j (frame_due j)) n) ts) (sym one)
    (subst (λ q. BothDue (made i (kind_of i n)) q ts) (sym two) (go (kind_of i n) (subst (λ s. Follows s ts) one f)))
  where
    one : noted (Waits i (frame_due i)) n ≡ made i (kind_of i n)
    one = hears_more i (midst_follows i b.piece b.first b.first_at) (frame_due i) n

    two : noted (Waits j (frame_due j)) n ≡ made j (kind_of i n)
    two = hears_more j (midst_follows j b.piece b.second b.second_at) (frame_due j) n ∙ ap (made j) (same_kind i j n w.phase w.number w.bads)

    go : (k : Kind) → Follows (made i k) ts → BothDue (made i k) (made j k) ts
    go (Again phase bads) f =
        both (again i phase bads) (again j phase bads) (record { number = fit.number; some = fit.some; fits = fit.fits; times = fit.times }) (again_twins i j phase bads w)
        (inr (both_again i j (asked_in ts) phase bads b)) f
    go Onward f = both (onward i) (onward j) (onward_fit i fit) (onward_twins i j w) (inl (both_onward i j (asked_in ts) b)) f
    go (Fails cause) f = both_stopped ts (Broken cause) (both_broken cause refl refl) (λ t us z. z) f
    go Wanders f = both_stopped ts Astray (both_astray refl refl) (λ t us z. z) f

-- Where the requests of one exchange bring no more of its payload than two payloads have in common, they are due in the exchanges of both.
pub both_due : (ts : List Turn) → OfBoth ts
both_due [] i j fit w b f = record { first = tt; second = tt; ends = both_wait (frame_due i) (frame_due j) refl refl }
both_due (t ∷ ts) i j fit w b f =
    let m : BothMidst (asked_in ts) i j = both_sent i j (asked_in ts) fit w (subst (λ g. Both (g ∷ asked_in ts) i j) (sym f.0) b) in
    let later = heard_both ts (both_due ts) i j fit w m t.heard f.1 in
    record {
      first = (ap Asks f.0, later.first);
      second = (ap Asks (midst_due i j m.piece m.first m.second w m.first_at m.second_at ∙ f.0), later.second);
      ends = later.ends;
    }
