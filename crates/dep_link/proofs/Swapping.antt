-- An initiator that carries a payload to a peer keeps the law of the exchange, turn by turn.
use Rattle.std.proofs.Common.{◌≡◌, ℕ, suc, ◌+◌, ◌-◌, ◌*◌, ◌<◌, ◌≤◌, ◌⊎◌, inl, inr, List, [], ◌∷◌, ◌++◌, length, slice_index, Bool, true, false, Option, Some, None, refl, sym, ◌∙◌, ap, subst, arith}
use Rattle.std.proofs.Common.{append_assoc, append-nil}
use Rattle.std.specs.List.{AllByRecursion}
use Rattle.std.proofs.lemmas.List.{append_cancel_left}
use Rattle.nfc_base.specs.Signal.{Signal}
use Rattle.nfc_base.specs.Trace.{noise, breaks, back_of}
use Rattle.nfc_base.specs.Trace as backs
use Rattle.nfc_base.specs.StopAndWait.{Does, Quiet, Reply, Deliver, Hears, Finished, Protocol, Stage, Requests, Over, Dark, stage_of, World, Once, IsEnding, delivered_of, pieces_back}
use Rattle.nfc_base.specs.LinkTurns.{heard_of, heard_in, Step, settled, step, Turned, turned, IsTurn, MovedBy, GivenBy, bad_receptions}
use Rattle.nfc_base.specs.LinkTurns as turns
use Rattle.nfc_base.specs.declared.event.Event.{Event}
use Rattle.nfc_base.specs.declared.event.Event.TheVariants.{Reset, Request, Answer, Clash}
use Rattle.nfc_base.specs.declared.event.Fate.{Fate}
use Rattle.nfc_base.specs.declared.event.Fate.TheVariants.{Pass, Damage, Lose, Break}
use Rattle.nfc_base.specs.declared.event.Heard.{Heard}
use Rattle.nfc_base.specs.declared.event.Heard.TheVariants as heards
use Rattle.nfc_base.specs.declared.carrier.EndCause.TheVariants as cause
use Rattle.nfc_base.proofs.ExactlyOnce.{Keeps, IsReady, more_of, kept_once}
use Rattle.nfc_base.proofs.LinkTurns.{J, bads_append, given_after, Along, Onward, goes_along, next_asking, next_stage, counted_later, positive, says_some, turned_lost, starts_along}
use Rattle.nfc_base.proofs.Leading.{all_append}
use Rattle.air_core.specs.Turn.{Air, moment, TurnIs}
use Rattle.air_core.specs.laws.Turning.{going_start, going_turn}
use Rattle.air_core.specs.Conversation.{Note, note, Going, Asks}
use Rattle.air_core.specs.Quiet.{QuietTurn}
use Rattle.air_core.specs.PlainTags.{IsAlone}
use Rattle.air_core.specs.declared.listener.Listener.{Ghosts}
use Rattle.air_core.proofs.PlainAside.{Laws}
use Rattle.air_core.proofs.PlainTurns.{noise_append}
use Rattle.air_core.proofs.TableTurns.{passed_asked}
use Rattle.air_core.proofs.LostField.{breaks-append}
use Rattle.air_core.proofs.Quiet.{quiet_turns_to}
use Rattle.dep_pdu.specs.declared.frame.DepFrame.TheVariants.{Nack, Attention}
use Rattle.dep_link.specs.declared.initiator.Phase.TheVariants as phases
use Rattle.dep_link.specs.Sizes.{limit}
use Rattle.dep_link.specs.Frames.{air_frame}
use Rattle.dep_link.specs.Target.{TargetState, replied}
use Rattle.nfc_base.specs.Pieces.{Core, pieces}
use Rattle.dep_link.specs.Initiator.{InitState, init_table, request, begun}
use Rattle.dep_link.specs.Payloads.{payloads}
use Rattle.dep_link.specs.Exchange.{nfc_dep, initiator_does, frames_of, frames_back, beginning, InStep, IsCut}
use Rattle.dep_link.specs.Answering.{answering, answering_air}
use Rattle.dep_link.specs.Peers.{IsAskedFrame, IsAsked, IsShort, Hearing, IsHearing, heard_with, reached, StepsByTarget, IsPeer}
use Rattle.dep_link.specs.Asking.{Standing, Waits, Broken, asks, goes_by, noted, stand, due_at, dep_next, AreFrames, MayReply, HasPeer, ExchangeTurns}
use Rattle.dep_link.proofs.Wire.{is_piece}
use Rattle.nfc_base.proofs.Chains as chain
use Rattle.dep_link.proofs.Standing as law
use Rattle.dep_link.proofs.Standing.{dep_ends}
use Rattle.dep_link.proofs.Landing.{speaks_at, hands_at}
use Rattle.dep_link.proofs.Handed.{keeps, asking_first, back_more}
use Rattle.dep_link.proofs.Unbegun.{never_begins}
use Rattle.dep_link.proofs.Answered.{Told}
use Rattle.dep_link.proofs.PeerTurns.{PeerTurn, peer_turn}

-- A far end, and what it replied in this exchange.
pub record Replying (F : Type 0) : Type 0 where
  pub far : F
  pub said : Option (List ℕ)

abbrev pub saying : {F : Type 0} → F → Option (List ℕ) → Replying F
saying far said = record { far = far; said = said }

abbrev pub says : {F : Type 0} → (F → List ℕ → List ℕ → F → Type 0) → Replying F → List ℕ → List ℕ → Replying F → Type 0
says steps x payload reply y = steps x.far payload reply y.far × (y.said ≡ Some reply)

moved_says : {F : Type 0} (steps : F → List ℕ → List ℕ → F → Type 0) (far far' : F) (said asked : Option (List ℕ)) (r : List ℕ)
    → MovedBy steps far asked r far' → MovedBy (says steps) (saying far said) asked r (saying far' (given_after said asked r))
moved_says steps far far' said None r m = ap (λ x. saying x said) m
moved_says steps far far' said (Some p) r m = (m, refl)

-- what is given of both is given of the far end, and is what it said
pub given_far : {F : Type 0} (steps : F → List ℕ → List ℕ → F → Type 0) (far0 far : F) (out : List ℕ) (said given : Option (List ℕ))
    → GivenBy (says steps) (saying far0 None) out given (saying far said) → GivenBy steps far0 out given far × (said ≡ given)
given_far {F} steps far0 far out said None g = (ap (λ (x : Replying F). x.far) g, ap (λ (x : Replying F). x.said) g)
given_far steps far0 far out said (Some r) g = (g.0, g.1)

-- what is noted behind some notes
pub stand_on : (s : Standing) (ns : List Note) (n : Note) → stand s (ns ++ n ∷ []) ≡ noted (stand s ns) n
stand_on s [] n = refl
stand_on s (m ∷ ns) n = stand_on (noted s m) ns n

-- the items of a frame are bytes
abbrev pub HasBytes : Signal → Type 0
HasBytes f = (i : ℕ) → slice_index f.bytes i < 256

-- what the initiator sends is a frame of an exchange
plain_asked : (c : Core) (f : Signal) → f ≡ air_frame (request c) → HasBytes f → c.extension ≡ None → c.number < 4 → c.most ≤ 251 → IsAsked f
plain_asked c f e bytes z p q = record { value = request c; asked = go c.drawing refl; bytes = bytes; frame = e }
  where
    go : (d : Bool) → c.drawing ≡ d → IsAskedFrame (request c)
    go true e = rw (z, e) p
    go false e = rw (z, e) (is_piece false c.most c.number c.rest p q)

time_asked : (c : Core) (times : ℕ) (f : Signal) → f ≡ air_frame (request c) → HasBytes f → c.extension ≡ Some times → 1 ≤ times → times ≤ 59 → IsAsked f
time_asked c times f e bytes z p q = record { value = request c; asked = rw z (p, q); bytes = bytes; frame = e }

module _ (m k : ℕ) (out : List ℕ) where
  held_number : (c : Core) (t : TargetState) (g : Option (List ℕ)) (n bads : ℕ) → chain.Held dep_ends m k out c t g n bads → (c.number < 4) × (c.most ≤ 251)
  held_number c t g n bads (chain.of_chain h l) = (h.number, h.bounds.fits)
  held_number c t g n bads (chain.of_reply bytes h l) = (h.number, h.bounds.fits)
  held_number c t g n bads (chain.of_time z h l) = (h.number, h.bounds.fits)

  request_asked : (i : InitState) (t : TargetState) (g : Option (List ℕ)) (f : Signal) → HasBytes f → f ≡ air_frame (request i.core) → (n : ℕ) → law.Stands m k out i.core i.bads t g n → IsAsked f
  request_asked i t g f bytes e n (law.asking z h b) = plain_asked i.core f e bytes h.plain h.number h.bounds.fits
  request_asked i t g f bytes e n (law.drawing h b) = plain_asked i.core f e bytes h.plain h.number h.bounds.fits
  request_asked i t g f bytes e n (law.held w h) = let x = held_number i.core t g n i.bads h in plain_asked i.core f e bytes w x.0 x.1
  request_asked i t g f bytes e n (law.granting z w h b) = time_asked i.core t.times f e bytes w h.bounds.long h.bounds.longest
  request_asked i t g f bytes e n (law.granted xs w x h b) = time_asked i.core t.times f e bytes w h.bounds.long h.bounds.longest

  asked_frame : (i : InitState) (t : TargetState) (g : Option (List ℕ)) (f : Signal) → HasBytes f → (n : ℕ) → law.Ask m k out i t g f n → IsAsked f
  asked_frame i t g f bytes n (law.asks p e s) = request_asked i t g f bytes e n s
  asked_frame i t g f bytes n (law.nacks p e h) = record { value = Nack i.core.number; asked = (held_number i.core t g n i.bads h).0; bytes = bytes; frame = e }
  asked_frame i t g f bytes n (law.attends p e q s l) = record { value = Attention false; asked = tt; bytes = bytes; frame = e }

  -- the exchange hasn't ended
  live_of : (i : InitState) (t : TargetState) (g : Option (List ℕ)) (f : Signal) (n : ℕ) → law.Ask m k out i t g f n → i.phase ≡ phases.EndedSixBad → ⊥
  live_of i t g f n (law.asks p e s) d = absurd (cc)
  live_of i t g f n (law.nacks p e h) d = absurd (cc)
  live_of i t g f n (law.attends p e q s l) d = absurd (cc)

-- where a payload was handed over, the target delivered it
delivers_some : (first : ℕ) (r : List ℕ) (t : TargetState) (d : Does Signal) (p : List ℕ) → (settled (nfc_dep first) r t d).asked ≡ Some p → d ≡ Deliver p
delivers_some first r t Quiet p e = absurd (cc)
delivers_some first r t (Reply a) p e = absurd (cc)
delivers_some first r t (Deliver q) p e = (let z : q ≡ p = cc in ap Deliver z)

turned_delivers : (first : ℕ) (r : List ℕ) (t : TargetState) (f : Signal) (x y : Fate) (p : List ℕ) → (turned (nfc_dep first) r t f x y).asked ≡ Some p → (nfc_dep first).does t f ≡ Deliver p
turned_delivers first r t f Pass y p e =
    delivers_some first r ((nfc_dep first).heard t f) ((nfc_dep first).does t f) p
    (sym (passed_asked (nfc_dep first) (step (nfc_dep first) r t f).state (step (nfc_dep first) r t f).asked f (step (nfc_dep first) r t f).answer y) ∙ e)
turned_delivers first r t f Damage y p e = absurd (cc)
turned_delivers first r t f Lose y p e = absurd (cc)
turned_delivers first r t f Break y p e = absurd (cc)

-- frames of bytes, one stretch after another
frames_append : (a b : List Event) → AreFrames a → AreFrames b → AreFrames (a ++ b)
frames_append [] b p q = q
frames_append (Reset ∷ a) b p q = frames_append a b p q
frames_append (Request f x ∷ a) b p q = (p.0, frames_append a b p.1 q)
frames_append (Answer g x ∷ a) b p q = frames_append a b p q
frames_append (Clash g x ∷ a) b p q = frames_append a b p q

answered_frames : (first : ℕ) (t : TargetState) (asked : Option (List ℕ)) (f : Signal) (q : Option Signal) (y : Fate) → HasBytes f → AreFrames (turns.answered (nfc_dep first) t asked f q y).events
answered_frames first t asked f None y b = (b, tt)
answered_frames first t asked f (Some a) y b = (b, tt)

turned_frames : (first : ℕ) (r : List ℕ) (t : TargetState) (f : Signal) (x y : Fate) → HasBytes f → AreFrames (turned (nfc_dep first) r t f x y).events
turned_frames first r t f Pass y b = answered_frames first (step (nfc_dep first) r t f).state (step (nfc_dep first) r t f).asked f (step (nfc_dep first) r t f).answer y b
turned_frames first r t f Damage y b = (b, tt)
turned_frames first r t f Lose y b = (b, tt)
turned_frames first r t f Break y b = (b, tt)

-- what was added to a trace are frames of bytes
abbrev pub Framed : List Event → List Event → Type 0
Framed base now = (es : List Event) → now ≡ base ++ es → AreFrames es

framed_first : (base : List Event) → Framed base base
framed_first base es e =
    let none : [] ≡ es = append_cancel_left base [] es (append-nil base ∙ e) in
    subst AreFrames none tt

framed_more : (base mid new xs ys : List Event) → mid ≡ base ++ xs → new ≡ mid ++ ys → Framed base mid → AreFrames ys → Framed base new
framed_more base mid new xs ys e1 e2 before more es e =
    let same : es ≡ xs ++ ys = append_cancel_left base es (xs ++ ys) (sym e ∙ e2 ∙ ap (λ (zs : List Event). zs ++ ys) e1 ∙ append_assoc base xs ys) in
    subst AreFrames (sym same) (frames_append xs ys (before xs e1) more)

-- where all of what was added to a trace passed, no reception in it was bad
abbrev pub Calm : List Event → List Event → Type 0
Calm base now = (es : List Event) → now ≡ base ++ es → noise es ≡ 0 → bad_receptions es ≡ 0

calm_first : (base : List Event) → Calm base base
calm_first base es e none =
    let same : [] ≡ es = append_cancel_left base [] es (append-nil base ∙ e) in
    subst (λ (xs : List Event). bad_receptions xs ≡ 0) same refl

-- a turn of which a whole frame was heard
record IsWhole (turn : Turned TargetState) : Type 0 where
  pub begins : back_of turn.events ≡ backs.Nothing
  pub bads : bad_receptions turn.events ≡ 0

answered_whole : (first : ℕ) (t : TargetState) (asked : Option (List ℕ)) (f : Signal) (q : Option Signal) (y : Fate) (g : Signal)
    → Some (heards.Whole g) ≡ heard_in (turns.answered (nfc_dep first) t asked f q y).heard
    → IsWhole (turns.answered (nfc_dep first) t asked f q y)
answered_whole first t asked f None y g e = absurd cc
answered_whole first t asked f (Some a) Pass g e = record { begins = refl; bads = refl }
answered_whole first t asked f (Some a) Damage g e = absurd cc
answered_whole first t asked f (Some a) Lose g e = absurd cc
answered_whole first t asked f (Some a) Break g e = absurd cc

turned_whole : (first : ℕ) (r : List ℕ) (t : TargetState) (f : Signal) (x y : Fate) (g : Signal) → Some (heards.Whole g) ≡ heard_in (turned (nfc_dep first) r t f x y).heard
    → IsWhole (turned (nfc_dep first) r t f x y)
turned_whole first r t f Pass y g e = answered_whole first (step (nfc_dep first) r t f).state (step (nfc_dep first) r t f).asked f (step (nfc_dep first) r t f).answer y g e
turned_whole first r t f Damage y g e = absurd cc
turned_whole first r t f Lose y g e = absurd cc
turned_whole first r t f Break y g e = absurd cc

module _ {L F : Type 0} (k : Ghosts L) (target : L → TargetState) (steps : F → List ℕ → List ℕ → F → Type 0) (begin : L) (i0 : InitState) (first : ℕ) (handed : List (List ℕ)) (arrived : List Signal)
    (out : List ℕ) (far0 : F) where
  abbrev pub Law : Keeps (nfc_dep first) out
  Law = keeps first (target begin).most (target begin).busy out

  -- how the exchange stands
  abbrev pub StandsBy : List Event → InitState → TargetState → List Event → Replying F → Stage Signal → Type 0
  StandsBy es0 i t es x stage = Along (nfc_dep first) handed out Law (2 * pieces i0.core.most out) (Replying F) (says steps) arrived es0 (saying far0 None) i t es x stage

  -- Where the initiator stands in a lit field: the peer heard these frames, and the exchange keeps its law. Each request was due,
  -- whatever the far end would have replied, or by what it did.
  pub record OnPeer (old mid : Air L) (place : ℕ) (far : F) (i : InitState) (stage : Stage Signal) (s : Standing) : Type 0 where
    pub heard : List Hearing
    pub was : AllByRecursion IsHearing heard
    pub alone : IsAlone k (k.identifier begin) mid.listeners place (reached k begin heard)
    pub selected : k.is_selected (reached k begin heard) ≡ true
    pub lit : mid.lit ≡ true
    pub said : Option (List ℕ)
    pub along : StandsBy old.trace i (target (reached k begin heard)) mid.trace (saying far said) stage
    pub frames : Framed old.trace mid.trace
    pub calm : Calm old.trace mid.trace
    pub notes : List Note
    pub going : (r : List ℕ) → MayReply said r → Going (answering_air k.machine r) (dep_next i0 out) (moment old) (moment mid) notes
    pub stands : stand (asks i0 out) notes ≡ s

  -- a turn that lost the field
  pub record LostPeer (old new : Air L) (far : F) : Type 0 where
    pub left : L
    pub dark : new.lit ≡ false
    pub said : Option (List ℕ)
    pub initiator : InitState
    pub along : StandsBy old.trace initiator (target left) new.trace (saying far said) Dark
    pub frames : Framed old.trace new.trace
    pub calm : Calm old.trace new.trace
    pub notes : List Note
    pub going : (r : List ℕ) → MayReply said r → Going (answering_air k.machine r) (dep_next i0 out) (moment old) (moment new) notes
    pub stands : stand (asks i0 out) notes ≡ Broken cause.FieldLost

module _ {L : Type 0} (k : Ghosts L) (laws : Laws k) where
  reached_twice : (l : L) (hs gs : List Hearing) → reached k (reached k l hs) gs ≡ reached k l (hs ++ gs)
  reached_twice l [] gs = refl
  reached_twice l (h ∷ hs) gs = reached_twice (heard_with k l h.frame h.reply) hs gs

  pub reached_same : (l : L) (hs : List Hearing) → k.identifier (reached k l hs) ≡ k.identifier l
  reached_same l [] = refl
  reached_same l (h ∷ hs) = reached_same (heard_with k l h.frame h.reply) hs ∙ (laws.step_keeps l h.frame _).identifier'

  reached_tech : (l : L) (hs : List Hearing) → k.machine.tech (reached k l hs) ≡ k.machine.tech l
  reached_tech l [] = refl
  reached_tech l (h ∷ hs) = reached_tech (heard_with k l h.frame h.reply) hs ∙ (laws.step_keeps l h.frame _).tech'

  module _ (target : L → TargetState) where
    -- a peer stays one by frames of an exchange
    pub stays_peer : (l : L) (hs : List Hearing) → AllByRecursion IsHearing hs → IsPeer k target l → IsPeer k target (reached k l hs)
    stays_peer l hs a c =
        record {
          tech = reached_tech l hs ∙ c.tech;
          steps_on = λ gs b f q r s. subst (λ (x : L). StepsByTarget k target x f r) (sym (reached_twice l hs gs)) (c.steps_on (hs ++ gs) (all_append IsHearing hs gs a b) f q r s);
          cleared = λ gs b.
              subst (λ (x : L). target (k.machine.darkened x) ≡ dark_of (target x)) (sym (reached_twice l hs gs)) (c.cleared (hs ++ gs) (all_append IsHearing hs gs a b));
        }
      where
        dark_of : TargetState → TargetState
        dark_of t = (nfc_dep 0).dark t

    module _ {F : Type 0} (restarts : F → List ℕ → F → Type 0) (steps : F → List ℕ → List ℕ → F → Type 0) (begin : L) (c : IsPeer k target begin) (i0 : InitState) (first : ℕ) (handed : List (List ℕ))
        (arrived : List Signal)
        (out : List ℕ) (far0 : F) where
      abbrev pub The : Keeps (nfc_dep first) out
      The = keeps first (target begin).most (target begin).busy out

      abbrev pub Stands : List Event → InitState → TargetState → List Event → Replying F → Stage Signal → Type 0
      Stands es0 i t es x stage = StandsBy k target steps begin i0 first handed arrived out far0 es0 i t es x stage

      abbrev pub On : Air L → Air L → ℕ → F → InitState → Stage Signal → Standing → Type 0
      On old mid place far i stage s = OnPeer k target steps begin i0 first handed arrived out far0 old mid place far i stage s

      abbrev pub Lost : Air L → Air L → F → Type 0
      Lost old new far = LostPeer k target steps begin i0 first handed arrived out far0 old new far

      -- an exchange begins
      pub begins_on : (old : Air L) (place : ℕ) → k.is_selected begin ≡ true → IsAlone k (k.identifier begin) old.listeners place begin → old.lit ≡ true
          → length out ≤ limit → InStep i0 (target begin) → IsCut first (target begin) handed arrived
          → On old old place far0 (begun i0 out) (Requests (air_frame (request (begun i0 out).core))) (Waits (begun i0 out) (air_frame (request (begun i0 out).core)))
      begins_on old place selected alone lit short s cut =
          record {
            heard = [];
            was = tt;
            alone = alone;
            selected = selected;
            lit = lit;
            said = None;
            along = starts_along (nfc_dep first) handed out The (2 * pieces i0.core.most out) (Replying F) (says steps) arrived old.trace (saying far0 None)
                (beginning i0 (target begin) handed arrived out) (
                  2 * pieces i0.core.most out,
                  law.asks refl refl (law.asking (omega arith) (asking_first i0 (target begin) out short s) (omega arith)),
                  record { once = sym (append-nil handed); reply = tt; stood = cut; bound = omega arith },
                ) refl refl refl refl;
            frames = framed_first old.trace;
            calm = calm_first old.trace;
            notes = [];
            going = λ r m. going_start (answering_air k.machine r) (dep_next i0 out) (moment old);
            stands = refl;
          }

      module _ (old mid : Air L) (place : ℕ) (far : F) (i : InitState) (f : Signal) (bytes : HasBytes f) (o : On old mid place far i (Requests f) (Waits i f)) where
        abbrev last : L
        last = reached k begin o.heard

        -- the law where the frame is sent
        now : J (nfc_dep first) handed out The (2 * pieces i0.core.most out) o.along.world (Requests f)
        now = subst (λ (x : Stage Signal). J (nfc_dep first) handed out The (2 * pieces i0.core.most out) o.along.world x) o.along.stage_is o.along.inv

        -- there is room for one transmission more while no reply was given
        pub room : o.along.world.given ≡ None → suc (length o.along.added) ≤ 2 * pieces i0.core.most out + 4 * bad_receptions o.along.added
        room none =
            let some : 1 ≤ now.0 = The.some_left o.along.world.asking o.along.world.answering o.along.world.given f now.0 now.1 in
            let bound = now.2.bound in
            let zero : more_of The.more o.along.world.given ≡ 0 = ap (more_of The.more) none in
            let sent = o.along.sent in
            let bads = o.along.bads in
            omega (arith, some, bound, zero, sent, bads)

        pub is_asked : IsAsked f
        is_asked = asked_frame (target begin).most (target begin).busy out o.along.world.asking o.along.world.answering o.along.world.given f bytes now.0 now.1

        pub last_peer : IsPeer k target last
        last_peer = stays_peer begin o.heard o.was c

        own_same : k.identifier last ≡ k.identifier begin
        own_same = reached_same begin o.heard

        pub last_alone : IsAlone k (k.identifier last) mid.listeners place last
        last_alone = subst (λ (own : List ℕ). IsAlone k own mid.listeners place last) (sym own_same) o.alone

        due : dep_next i0 out o.notes ≡ Asks f
        due = ap due_at o.stands

        pub given_is : GivenBy steps far0 out o.along.world.given far × (o.said ≡ o.along.world.given)
        given_is = given_far steps far0 far out o.said o.along.world.given o.along.given

        -- what the target delivers then is the payload, for the first time
        pub hands : (p : List ℕ) → (nfc_dep first).does (target last) f ≡ Deliver p → (p ≡ out) × (o.said ≡ None)
            × IsCut first (replied ((nfc_dep first).heard (target last) f) []) (o.along.world.delivered ++ p ∷ []) (o.along.world.arrived ++ f ∷ [])
        hands p e =
            let t : TargetState = o.along.world.answering in
            let d : (nfc_dep first).does t f ≡ Deliver p = subst (λ (x : TargetState). (nfc_dep first).does x f ≡ Deliver p) (sym o.along.answering) e in
            let h = hands_at first (target begin).most (target begin).busy out o.along.world.asking t o.along.world.given f now.0 now.1 p d in
            let cut : IsCut first (replied ((nfc_dep first).heard t f) []) (o.along.world.delivered ++ p ∷ []) (o.along.world.arrived ++ f ∷ []) =
            h.2 o.along.world.delivered o.along.world.arrived now.2.stood in (
              h.0,
              given_is.1 ∙ h.1,
              subst (λ (x : TargetState). IsCut first (replied ((nfc_dep first).heard x f) []) (o.along.world.delivered ++ p ∷ []) (o.along.world.arrived ++ f ∷ [])) o.along.answering cut,
            )

        module _ (far' : F) (new : Air L) (h : Option Heard) (turn : TurnIs k.machine restarts steps mid f far h new far') where
          t : PeerTurn k laws target steps first mid new place last f h far far'
          t = peer_turn k laws target restarts steps first mid place last f last_alone last_peer is_asked (never_begins (target last) f is_asked) far far' new h turn

          abbrev turn_is : Turned TargetState
          turn_is = turned (nfc_dep first) t.turn.reply (target last) f t.turn.first t.turn.second

          abbrev said_now : Option (List ℕ)
          said_now = given_after o.said turn_is.asked t.turn.reply

          said_turn : IsTurn (nfc_dep first) (Replying F) IsShort (says steps) (target last) mid.trace (saying far o.said) f h (target t.left) new.trace (saying far' said_now)
          said_turn = record {
            reply = t.turn.reply;
            first = t.turn.first;
            second = t.turn.second;
            fits = t.turn.fits;
            answering = t.turn.answering;
            heard_is = t.turn.heard_is;
            events = t.turn.events;
            moved = moved_says steps far far' o.said turn_is.asked t.turn.reply t.turn.moved;
          }

          onward : Onward (nfc_dep first) handed out The (2 * pieces i0.core.most out) (Replying F) (says steps) arrived old.trace (saying far0 None) i h (target t.left) new.trace
              (saying far' said_now)
          onward =
              goes_along (nfc_dep first) handed out The (2 * pieces i0.core.most out) (Replying F) (says steps) arrived old.trace (saying far0 None)
              i (target last) (target t.left) mid.trace new.trace (saying far o.said) (saying far' said_now) f h o.along said_turn

          framed_now : Framed old.trace new.trace
          framed_now =
              framed_more old.trace mid.trace new.trace o.along.added turn_is.events o.along.events t.turn.events o.frames
              (turned_frames first t.turn.reply (target last) f t.turn.first t.turn.second bytes)

          one_more : (r : List ℕ) → MayReply o.said r → QuietTurn {A = Told} (answering k.machine r) mid f tt h new tt
              → Going (answering_air k.machine r) (dep_next i0 out) (moment old) (moment new) (o.notes ++ note h ∷ [])
          one_more r m q =
              going_turn (answering_air k.machine r) (dep_next i0 out) (moment old) (moment mid) (moment new) f h o.notes (o.going r m) due (quiet_turns_to (answering k.machine r) mid new f tt tt h q)

          going_by : (a : Option (List ℕ)) → turn_is.asked ≡ a → (r : List ℕ) → MayReply (given_after o.said a t.turn.reply) r
              → Going (answering_air k.machine r) (dep_next i0 out) (moment old) (moment new) (o.notes ++ note h ∷ [])
          going_by None e r m = one_more r m (t.any e r)
          going_by (Some p) e r m =
              let none : o.said ≡ None = (hands p (turned_delivers first t.turn.reply (target last) f t.turn.first t.turn.second p e)).1 in
              one_more r (subst (λ (x : Option (List ℕ)). MayReply x r) (sym none) tt)
              (subst (λ (x : List ℕ). QuietTurn {A = Told} (answering k.machine x) mid f tt h new tt) (sym (m ∙ t.same)) t.quiet)

          going_on : (r : List ℕ) → MayReply said_now r → Going (answering_air k.machine r) (dep_next i0 out) (moment old) (moment new) (o.notes ++ note h ∷ [])
          going_on r m = going_by turn_is.asked refl r m

          stands_then : stand (asks i0 out) (o.notes ++ note h ∷ []) ≡ noted (Waits i f) (note h)
          stands_then = stand_on (asks i0 out) o.notes (note h) ∙ ap (λ (s : Standing). noted s (note h)) o.stands

          -- the target says something
          speaks : (step (nfc_dep first) t.turn.reply (target last) f).answer ≡ None → ⊥
          speaks e =
              let d : (nfc_dep first).does (target last) f ≡ Quiet = says_some (nfc_dep first) t.turn.reply ((nfc_dep first).heard (target last) f) ((nfc_dep first).does (target last) f) e in
              speaks_at first (target begin).most (target begin).busy out o.along.world.asking o.along.world.answering o.along.world.given f now.0 now.1
              (subst (λ (x : TargetState). (nfc_dep first).does x f ≡ Quiet) (sym o.along.answering) d)

          -- where no whole frame is heard something didn't pass
          pub noisy : ((g : Signal) → h ≡ Some (heards.Whole g) → ⊥) → (zs : List Event) → new.trace ≡ old.trace ++ zs → 0 < noise zs
          noisy never zs e =
              counted_later noise noise_append old.trace o.along.added turn_is.events zs mid.trace new.trace o.along.events t.turn.events e (positive (noise turn_is.events) (λ z. go (t.calm z)))
            where
              go : ((step (nfc_dep first) t.turn.reply (target last) f).answer ≡ None) ⊎ ((g : Signal) × (h ≡ Some (heards.Whole g))) → ⊥
              go (inl q) = speaks q
              go (inr (g, q)) = never g q

          -- where the field was lost a transmission lost it
          pub broken : None ≡ h → (zs : List Event) → new.trace ≡ old.trace ++ zs → 0 < breaks zs
          broken none zs e =
              counted_later breaks breaks-append old.trace o.along.added turn_is.events zs mid.trace new.trace o.along.events t.turn.events e
              (turned_lost (nfc_dep first) t.turn.reply (target last) f t.turn.first t.turn.second (none ∙ t.turn.heard_is))

          -- where all passed until then, no reception was bad
          whole_calm : (g : Signal) → Some (heards.Whole g) ≡ heard_in turn_is.heard → Calm old.trace new.trace
          whole_calm g w es e none =
              let same : es ≡ o.along.added ++ turn_is.events =
              append_cancel_left old.trace es (o.along.added ++ turn_is.events) (sym e ∙ t.turn.events ∙ ap (λ (xs : List Event). xs ++ turn_is.events) o.along.events
              ∙ append_assoc old.trace o.along.added turn_is.events) in
              let z : IsWhole turn_is = turned_whole first t.turn.reply (target last) f t.turn.first t.turn.second g w in
              let all : noise es ≡ noise o.along.added + noise turn_is.events = ap noise same ∙ noise_append o.along.added turn_is.events in
              let before : bad_receptions o.along.added ≡ 0 = o.calm o.along.added o.along.events (omega (arith, all, none)) in
              let bads : bad_receptions es ≡ bad_receptions o.along.added + bad_receptions turn_is.events = ap bad_receptions same ∙ bads_append o.along.added turn_is.events z.begins in
              let last_bads : bad_receptions turn_is.events ≡ 0 = z.bads in
              omega (arith, bads, before, last_bads)

          never_calm : ((g : Signal) → h ≡ Some (heards.Whole g) → ⊥) → Calm old.trace new.trace
          never_calm never es e none = let some : 0 < noise es = noisy never es e in absurd (omega (arith, some, none))

          pub calm_now : Calm old.trace new.trace
          calm_now = by_heard h refl
            where
              by_heard : (x : Option Heard) → h ≡ x → Calm old.trace new.trace
              by_heard None is = never_calm (λ g w. let clash : ◌≡◌ {A = Option Heard} None (Some (heards.Whole g)) = sym is ∙ w in cc)
              by_heard (Some (heards.Whole g)) is = whole_calm g (sym is ∙ t.turn.heard_is)
              by_heard (Some (heards.Collided g)) is = never_calm (λ x w. let clash : ◌≡◌ {A = Option Heard} (Some (heards.Collided g)) (Some (heards.Whole x)) = sym is ∙ w in cc)
              by_heard (Some heards.Damaged) is = never_calm (λ g w. let clash : ◌≡◌ {A = Option Heard} (Some heards.Damaged) (Some (heards.Whole g)) = sym is ∙ w in cc)
              by_heard (Some heards.Silent) is = never_calm (λ g w. let clash : ◌≡◌ {A = Option Heard} (Some heards.Silent) (Some (heards.Whole g)) = sym is ∙ w in cc)

          alone_left : IsAlone k (k.identifier begin) new.listeners place t.left
          alone_left = subst (λ (own : List ℕ). IsAlone k own new.listeners place t.left) own_same t.alone

      pub live : (old mid : Air L) (place : ℕ) (far : F) (i : InitState) (f : Signal) (o : On old mid place far i (Requests f) (Waits i f)) → i.phase ≡ phases.EndedSixBad → ⊥
      live old mid place far i f o e =
          let j = subst (λ (x : Stage Signal). J (nfc_dep first) handed out The (2 * pieces i0.core.most out) o.along.world x) o.along.stage_is o.along.inv in
          live_of (target begin).most (target begin).busy out o.along.world.asking o.along.world.answering o.along.world.given f j.0 j.1 (ap (λ (x : InitState). x.phase) o.along.asking ∙ e)

      -- what the asking end heard is what was heard
      heard_next : (es0 es : List Event) (i : InitState) (t : TargetState) (x : Replying F) (h : Heard) (z : Option (Hears Signal)) → Some h ≡ heard_in z
          → Stands es0 (next_asking (nfc_dep first) handed out The (2 * pieces i0.core.most out) i z) t es x (next_stage (nfc_dep first) handed out The (2 * pieces i0.core.most out) i z)
          → Stands es0 (init_table i h).state t es x (stage_of (initiator_does (init_table i h).does))
      heard_next es0 es i t x h None e a = absurd (cc)
      heard_next es0 es i t x h (Some z) e a =
          let q : heard_of z ≡ h = cc in subst (λ (y : Heard). Stands es0 (init_table i y).state t es x (stage_of (initiator_does (init_table i y).does))) q a

      heard_nothing : (es0 es : List Event) (i : InitState) (t : TargetState) (x : Replying F) (z : Option (Hears Signal)) → None ≡ heard_in z
          → Stands es0 (next_asking (nfc_dep first) handed out The (2 * pieces i0.core.most out) i z) t es x (next_stage (nfc_dep first) handed out The (2 * pieces i0.core.most out) i z)
          → Stands es0 i t es x Dark
      heard_nothing es0 es i t x None e a = a
      heard_nothing es0 es i t x (Some z) e a = absurd (cc)

      -- what is known of the exchange, wherever the loop stands
      abbrev pub OnceAlong : World InitState TargetState Signal → Type 0
      OnceAlong w = Once (nfc_dep first) (IsReady (nfc_dep first) out The) (λ g. Unit {0}) handed out (pieces i0.core.most out) (frames_back (target begin)) w

      pub once_along : (es0 es : List Event) (i : InitState) (t : TargetState) (x : Replying F) (stage : Stage Signal) (a : Stands es0 i t es x stage) → OnceAlong a.world
      once_along es0 es i t x stage a =
          kept_once (nfc_dep first) handed out The (λ g. Unit {0}) (pieces i0.core.most out) (frames_back (target begin)) (back_more (target begin)) a.world a.inv

      module _ (old mid : Air L) (place : ℕ) (far : F) (i : InitState) (f : Signal) (bytes : HasBytes f) (o : On old mid place far i (Requests f) (Waits i f)) (far' : F) (new : Air L) where
        -- a turn of which something was heard
        module _ (h : Heard) (q : TurnIs k.machine restarts steps mid f far (Some h) new far') where
          abbrev t1 : PeerTurn k laws target steps first mid new place (reached k begin o.heard) f (Some h) far far'
          t1 = t old mid place far i f bytes o far' new (Some h) q

          abbrev Next_on : Type 0
          Next_on = On old new place far' (init_table i h).state (stage_of (initiator_does (init_table i h).does)) (goes_by (init_table i h).state (init_table i h).does)

          on_left : (hs : List Hearing) → AllByRecursion IsHearing hs → t1.left ≡ reached k begin hs → k.is_selected (reached k begin hs) ≡ true → new.lit ≡ true → Next_on
          on_left hs a e s lit =
              let n = onward old mid place far i f bytes o far' new (Some h) q in
              let x : Replying F = saying far' (said_now old mid place far i f bytes o far' new (Some h) q) in
              let b = heard_next old.trace new.trace i (target t1.left) x h n.hears n.heard_is n.along in
              record {
                heard = hs;
                was = a;
                alone = subst (λ (y : L). IsAlone k (k.identifier begin) new.listeners place y) e (alone_left old mid place far i f bytes o far' new (Some h) q);
                selected = s;
                lit = lit;
                said = said_now old mid place far i f bytes o far' new (Some h) q;
                along = subst (λ (y : L). Stands old.trace (init_table i h).state (target y) new.trace x (stage_of (initiator_does (init_table i h).does))) e b;
                frames = framed_now old mid place far i f bytes o far' new (Some h) q;
                calm = calm_now old mid place far i f bytes o far' new (Some h) q;
                notes = o.notes ++ note (Some h) ∷ [];
                going = going_on old mid place far i f bytes o far' new (Some h) q;
                stands = stands_then old mid place far i f bytes o far' new (Some h) q;
              }

          abbrev hearing : Hearing
          hearing = record { frame = f; reply = t1.turn.reply }

          more_heard : AllByRecursion IsHearing (o.heard ++ hearing ∷ [])
          more_heard = all_append IsHearing o.heard (hearing ∷ []) o.was (record { asked = is_asked old mid place far i f bytes o; short = t1.turn.fits }, tt)

          more_selected : k.is_selected (reached k begin (o.heard ++ hearing ∷ [])) ≡ true
          more_selected =
              subst (λ (x : L). k.is_selected x ≡ true) (reached_twice begin o.heard (hearing ∷ []))
              ((last_peer old mid place far i f bytes o).steps_on [] tt f (is_asked old mid place far i f bytes o) t1.turn.reply t1.turn.fits).selected

          by_left : (t1.left ≡ reached k begin o.heard) ⊎ (t1.left ≡ heard_with k (reached k begin o.heard) f t1.turn.reply) → new.lit ≡ true → Next_on
          by_left (inl e) lit = on_left o.heard o.was e o.selected lit
          by_left (inr e) lit = on_left (o.heard ++ hearing ∷ []) more_heard (e ∙ reached_twice begin o.heard (hearing ∷ [])) more_selected lit

          pub turn_on : Next_on
          turn_on = by_left t1.is.0 t1.is.1

        -- a turn that lost the field
        pub turn_lost : TurnIs k.machine restarts steps mid f far None new far' → Lost old new far'
        turn_lost q =
            let n = onward old mid place far i f bytes o far' new None q in
            let t0 = t old mid place far i f bytes o far' new None q in
            let x : Replying F = saying far' (said_now old mid place far i f bytes o far' new None q) in
            record {
              left = t0.left;
              dark = t0.is;
              said = said_now old mid place far i f bytes o far' new None q;
              initiator = i;
              along = heard_nothing old.trace new.trace i (target t0.left) x n.hears n.heard_is n.along;
              frames = framed_now old mid place far i f bytes o far' new None q;
              calm = calm_now old mid place far i f bytes o far' new None q;
              notes = o.notes ++ note None ∷ [];
              going = going_on old mid place far i f bytes o far' new None q;
              stands = stands_then old mid place far i f bytes o far' new None q;
            }

      abbrev pub Turns : Air L → Air L → Option (List ℕ) → Standing → Type 0
      Turns old new g s = ExchangeTurns k target old new begin i0 first handed arrived out g s

      -- what the far end did
      pub far_by : (es0 es : List Event) (i : InitState) (t : TargetState) (far : F) (said : Option (List ℕ)) (stage : Stage Signal) → Stands es0 i t es (saying far said) stage
          → (g : Option (List ℕ)) → said ≡ g → GivenBy steps far0 out g far
      far_by es0 es i t far said stage a g e =
          let given = given_far steps far0 far out said a.world.given a.given in
          subst (λ (x : Option (List ℕ)). GivenBy steps far0 out x far) (sym given.1 ∙ e) given.0

      abbrev pub turns_by : (old new : Air L) (i : InitState) (t : TargetState) (far : F) (said : Option (List ℕ)) (stage : Stage Signal) (a : Stands old.trace i t new.trace (saying far said) stage)
          → (g : Option (List ℕ)) → said ≡ g → Framed old.trace new.trace → Calm old.trace new.trace → (notes : List Note)
          → ((r : List ℕ) → MayReply said r → Going (answering_air k.machine r) (dep_next i0 out) (moment old) (moment new) notes) → (s : Standing) → stand (asks i0 out) notes ≡ s
          → Turns old new g s
      turns_by old new i t far said stage a g e frames calm notes going s stands =
          let o : OnceAlong a.world = once_along old.trace new.trace i t (saying far said) stage a in
          let given = given_far steps far0 far out said a.world.given a.given in
          let same : a.world.given ≡ g = sym given.1 ∙ e in
          record {
            events = a.added;
            trace = a.events;
            frames = frames a.added a.events;
            brings = ap (λ (fs : List Signal). payloads first (frames_of fs)) a.arrives ∙ o.brings ∙ o.once ∙ ap (λ (x : Option (List ℕ)). handed ++ delivered_of out x) same;
            within =
                (let w : a.world.sent ≤ 2 * (pieces i0.core.most out + pieces_back (frames_back (target begin)) g - 1) + 4 * a.world.bads =
                subst (λ (x : Option (List ℕ)). a.world.sent ≤ 2 * (pieces i0.core.most out + pieces_back (frames_back (target begin)) x - 1) + 4 * a.world.bads) same o.within in
                rw (a.sent, a.bads) w);
            calm = calm a.added a.events;
            notes = notes;
            going = λ r m. going r (subst (λ (x : Option (List ℕ)). MayReply x r) (sym e) m);
            stands = stands;
          }

      -- the payload is under way in a lit field, or was broken off there
      abbrev pub on_turns : (old mid : Air L) (place : ℕ) (far : F) (i : InitState) (stage : Stage Signal) (s : Standing) (o : On old mid place far i stage s) → Turns old mid o.said s
      on_turns old mid place far i stage s o =
          turns_by old mid i (target (reached k begin o.heard)) far o.said stage o.along o.said refl o.frames o.calm o.notes o.going s o.stands

      abbrev pub lost_turns : (old new : Air L) (far : F) (o : Lost old new far) → Turns old new o.said (Broken cause.FieldLost)
      lost_turns old new far o = turns_by old new o.initiator (target o.left) far o.said Dark o.along o.said refl o.frames o.calm o.notes o.going (Broken cause.FieldLost) o.stands

      -- an exchange that ended, by what its end tells
      ending_along : (es0 es : List Event) (i : InitState) (t : TargetState) (x : Replying F) (stage : Stage Signal) (a : Stands es0 i t es x stage)
          → IsEnding (IsReady (nfc_dep first) out The) a.world stage
      ending_along es0 es i t x stage a =
          subst (λ (s : Stage Signal). IsEnding (IsReady (nfc_dep first) out The) a.world s) a.stage_is (once_along es0 es i t x stage a).ending

      pub never_protocol : (old mid : Air L) (place : ℕ) (far : F) (i : InitState) (s : Standing) → On old mid place far i (Over Protocol) s → ⊥
      never_protocol old mid place far i s o = ending_along old.trace mid.trace i (target (reached k begin o.heard)) (saying far o.said) (Over Protocol) o.along

      -- the whole reply was heard
      pub replied_turns : (old new : Air L) (place : ℕ) (far : F) (i : InitState) (r : List ℕ) (s : Standing) (o : On old new place far i (Over (Finished r)) s)
          → (x : Turns old new (Some r) s) × steps far0 out r far × HasPeer k target new i first (handed ++ out ∷ []) (arrived ++ turns.arrived x.events)
      replied_turns old new place far i r s o =
          let l : L = reached k begin o.heard in
          let x : Replying F = saying far o.said in
          let e = ending_along old.trace new.trace i (target l) x (Over (Finished r)) o.along in
          let once : OnceAlong o.along.world = once_along old.trace new.trace i (target l) x (Over (Finished r)) o.along in
          let did : o.along.world.delivered ≡ handed ++ out ∷ [] = once.once ∙ ap (λ (z : Option (List ℕ)). handed ++ delivered_of out z) e.0 in
          let said : o.said ≡ Some r = (given_far steps far0 far out o.said o.along.world.given o.along.given).1 ∙ e.0 in
          let P : InitState → TargetState → Type 0 = λ y z. InStep y z in
          let Q : TargetState → List (List ℕ) → List Signal → Type 0 = IsCut first in (
            turns_by old new i (target l) far o.said (Over (Finished r)) o.along (Some r) said o.frames o.calm o.notes o.going s o.stands,
            far_by old.trace new.trace i (target l) far o.said (Over (Finished r)) o.along (Some r) said,
            record {
              place = place;
              listener = l;
              selected = o.selected;
              alone = subst (λ (own : List ℕ). IsAlone k own new.listeners place l) (sym (reached_same begin o.heard)) o.alone;
              is = stays_peer begin o.heard o.was c;
              step = subst (λ (y : InitState). P y (target l)) o.along.asking (subst (λ (z : TargetState). P o.along.world.asking z) o.along.answering e.1.0);
              cut =
                  subst (λ (fs : List Signal). Q (target l) (handed ++ out ∷ []) fs) (sym o.along.arrives)
                  (subst (λ (cs : List (List ℕ)). Q (target l) cs o.along.world.arrived) did
                  (subst (λ (z : TargetState). Q z o.along.world.delivered o.along.world.arrived) o.along.answering e.1.1));
            },
          )
