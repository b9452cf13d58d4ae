-- What holds where an enquiry begins, and is kept by each reset and each turn that is due, holds where it has come to.
use Rattle.std.proofs.Common.{◌≡◌, List, [], ◌∷◌, ◌++◌, Bool, true, false, if◌then◌else◌, refl, sym, ◌∙◌, ap, subst, append_assoc}
use Rattle.std.proofs.lemmas.List.{append-nil}
use Rattle.nfc_base.specs.Signal.{Signal}
use Rattle.nfc_base.specs.Trace.{back_of, heard_by}
use Rattle.nfc_base.specs.Trace as backs
use Rattle.nfc_base.specs.declared.event.Event.{Event}
use Rattle.nfc_base.specs.declared.event.Event.TheVariants.{Reset, Request, Answer, Clash}
use Rattle.nfc_base.specs.declared.event.Fate.{Fate}
use Rattle.nfc_base.specs.declared.event.Fate.TheVariants.{Pass, Damage, Lose, Break}
use Rattle.air_core.specs.Joint.{Joint, Nothing, Single, Clashing}
use Rattle.air_core.specs.Conversation.{AirModel, Note, Lit, Got, Lost, note, Next, Over, LightUp, Asks, IsDemand, receptions, EachDue, joint_events, joint_back, replay, turn_events, turn_heard, Move}
use Rattle.air_core.specs.Conversation.{Light, Ask, move_events, trace_of, Moment, Going}
use Rattle.air_core.proofs.Turns.{receptions-append, replay-append}
use Rattle.nfca_poll.specs.Enquiry.{Enquiry, Progress, Reaches, Loses, progress, due_of, enquiring}

-- a conversation in two parts: in each of them what was asked was due
pub due_front : (next : List Note → Next) (before a b : List Event) → EachDue next before (a ++ b) → EachDue next before a
due_front next before [] b q = tt
due_front next before (Reset ∷ a) b q = (q.0, due_front next (before ++ Reset ∷ []) a b q.1)
due_front next before (Request f x ∷ a) b q = (q.0, due_front next (before ++ Request f x ∷ []) a b q.1)
due_front next before (Answer g x ∷ a) b q = due_front next (before ++ Answer g x ∷ []) a b q
due_front next before (Clash g x ∷ a) b q = due_front next (before ++ Clash g x ∷ []) a b q

pub due_back : (next : List Note → Next) (before a b : List Event) → EachDue next before (a ++ b) → EachDue next (before ++ a) b
due_back next before [] b q = let P : List Event → Type 0 = λ t. EachDue next t b in subst P (sym (append-nil before)) q
due_back next before (Reset ∷ a) b q =
    let P : List Event → Type 0 = λ t. EachDue next t b in subst P (append_assoc before (Reset ∷ []) a) (due_back next (before ++ Reset ∷ []) a b q.1)
due_back next before (Request f x ∷ a) b q =
    let P : List Event → Type 0 = λ t. EachDue next t b in subst P (append_assoc before (Request f x ∷ []) a) (due_back next (before ++ Request f x ∷ []) a b q.1)
due_back next before (Answer g x ∷ a) b q =
    let P : List Event → Type 0 = λ t. EachDue next t b in subst P (append_assoc before (Answer g x ∷ []) a) (due_back next (before ++ Answer g x ∷ []) a b q)
due_back next before (Clash g x ∷ a) b q =
    let P : List Event → Type 0 = λ t. EachDue next t b in subst P (append_assoc before (Clash g x ∷ []) a) (due_back next (before ++ Clash g x ∷ []) a b q)

joint_back_of : (j : Joint) (y : Fate) → back_of (joint_events j y) ≡ joint_back j y
joint_back_of Nothing y = refl
joint_back_of (Single g) y = refl
joint_back_of (Clashing g) y = refl

joint_notes : (j : Joint) (y : Fate) → receptions (joint_events j y) ≡ []
joint_notes Nothing y = refl
joint_notes (Single g) y = refl
joint_notes (Clashing g) y = refl

module _ {W : Type 0} (m : AirModel W) where
  -- the events of a turn: what the reader knows of it, what is due before it, and that nothing stands before its request
  pub turn_notes : (w : W) (f : Signal) (x y : Fate) → receptions (turn_events m w f x y) ≡ note (turn_heard m w f x y) ∷ []
  turn_notes w f Pass y =
      ap (λ t. note (heard_by Pass (back_of (joint_events (m.joint w f) y))) ∷ t) (joint_notes (m.joint w f) y)
      ∙ ap (λ t. note (heard_by Pass t) ∷ []) (joint_back_of (m.joint w f) y)
  turn_notes w f Damage y = refl
  turn_notes w f Lose y = refl
  turn_notes w f Break y = refl

  turn_asks : (next : List Note → Next) (before : List Event) (w : W) (f : Signal) (x y : Fate) → EachDue next before (turn_events m w f x y) → next (receptions before) ≡ Asks f
  turn_asks next before w f Pass y q = q.0
  turn_asks next before w f Damage y q = q.0
  turn_asks next before w f Lose y q = q.0
  turn_asks next before w f Break y q = q.0

  pub turn_fresh : (w : W) (f : Signal) (x y : Fate) → back_of (turn_events m w f x y) ≡ backs.Nothing
  turn_fresh w f Pass y = refl
  turn_fresh w f Damage y = refl
  turn_fresh w f Lose y = refl
  turn_fresh w f Break y = refl

-- what is over asks for nothing
pub nothing_lit : Over ≡ LightUp → ⊥
nothing_lit q = cc

pub nothing_asked : (f : Signal) → Over ≡ Asks f → ⊥
nothing_asked f q = cc

pub nothing_due : (n : Next) → Over ≡ n → IsDemand n → ⊥
nothing_due n q d = subst IsDemand (sym q) d

module _ {S X : Type 0} (e : Enquiry S X) where
  -- by one note more
  abbrev pub after : Progress S → Note → Progress S
  after (Reaches s) Lit = Reaches (e.light s)
  after (Reaches s) (Got h) = Reaches (e.step s h)
  after (Reaches s) Lost = Loses
  after Loses n = Loses

  pub progress_more : (a : S) (ns : List Note) (n : Note) → progress e a (ns ++ n ∷ []) ≡ after (progress e a ns) n
  progress_more a [] Lit = refl
  progress_more a [] (Got h) = refl
  progress_more a [] Lost = refl
  progress_more a (Lit ∷ ns) n = progress_more (e.light a) ns n
  progress_more a (Got h ∷ ns) n = progress_more (e.step a h) ns n
  progress_more a (Lost ∷ ns) n = refl

  module _ {W : Type 0} (m : AirModel W) (w : W) (P : Progress S → List Event → Type 0)
      (begins : P (Reaches e.start) [])
      (resets : (s : S) (es : List Event) → P (Reaches s) es → e.next s ≡ LightUp → P (Reaches (e.light s)) (es ++ Reset ∷ []))
      (asks : (s : S) (es : List Event) (f : Signal) (x y : Fate) → P (Reaches s) es → e.next s ≡ Asks f → m.lit (replay m w es) ≡ true
      → P (after (Reaches s) (note (turn_heard m (replay m w es) f x y))) (es ++ turn_events m (replay m w es) f x y)) where
    abbrev comes : List Event → Progress S
    comes es = progress e e.start (receptions es)

    reset_at : (p : Progress S) (es : List Event) → P p es → due_of e p ≡ LightUp → P (after p Lit) (es ++ Reset ∷ [])
    reset_at (Reaches s) es k q = resets s es k q
    reset_at Loses es k q = absurd (nothing_lit q)

    ask_at : (p : Progress S) (es : List Event) (f : Signal) (x y : Fate) → P p es → due_of e p ≡ Asks f → m.lit (replay m w es) ≡ true
        → P (after p (note (turn_heard m (replay m w es) f x y))) (es ++ turn_events m (replay m w es) f x y)
    ask_at (Reaches s) es f x y k q l = asks s es f x y k q l
    ask_at Loses es f x y k q l = absurd (nothing_asked f q)

    more : (es a : List Event) (n : Note) → back_of a ≡ backs.Nothing → receptions a ≡ n ∷ [] → after (comes es) n ≡ comes (es ++ a)
    more es a n fresh known =
        sym (ap (progress e e.start) (receptions-append es a fresh ∙ ap (λ t. receptions es ++ t) known) ∙ progress_more e.start (receptions es) n)

    turned : (es : List Event) (f : Signal) (x y : Fate) (v : Bool) → m.lit (replay m w es) ≡ v → P (comes es) es
        → EachDue (enquiring e) es (if v then turn_events m (replay m w es) f x y else [])
        → P (comes (es ++ (if v then turn_events m (replay m w es) f x y else []))) (es ++ (if v then turn_events m (replay m w es) f x y else []))
    turned es f x y true l k q =
        let T : List Event = turn_events m (replay m w es) f x y in
        let Q : Progress S → Type 0 = λ p. P p (es ++ T) in
        subst Q (more es T (note (turn_heard m (replay m w es) f x y)) (turn_fresh m (replay m w es) f x y) (turn_notes m (replay m w es) f x y))
        (ask_at (comes es) es f x y k (turn_asks m (enquiring e) es (replay m w es) f x y q) l)
    turned es f x y false l k q = let Q : List Event → Type 0 = λ t. P (comes t) t in subst Q (sym (append-nil es)) k

    moved : (k : Move m) (es : List Event) → P (comes es) es → EachDue (enquiring e) es (move_events m (replay m w es) k)
        → P (comes (es ++ move_events m (replay m w es) k)) (es ++ move_events m (replay m w es) k)
    moved Light es k q =
        let Q : Progress S → Type 0 = λ p. P p (es ++ Reset ∷ []) in
        subst Q (more es (Reset ∷ []) Lit refl refl) (reset_at (comes es) es k q.0)
    moved (Ask f x y) es k q = turned es f x y (m.lit (replay m w es)) refl k q

    walked : (ks : List (Move m)) (es : List Event) → P (comes es) es → EachDue (enquiring e) es (trace_of m (replay m w es) ks)
        → P (comes (es ++ trace_of m (replay m w es) ks)) (es ++ trace_of m (replay m w es) ks)
    walked [] es k q = let Q : List Event → Type 0 = λ t. P (comes t) t in subst Q (sym (append-nil es)) k
    walked (k ∷ ks) es p q =
        let A : List Event = move_events m (replay m w es) k in
        let R : W → Type 0 = λ v. EachDue (enquiring e) (es ++ A) (trace_of m v ks) in
        let Q : List Event → Type 0 = λ t. P (comes t) t in
        let U : W → Type 0 = λ v. Q ((es ++ A) ++ trace_of m v ks) in
        let same : replay m w (es ++ A) ≡ replay m (replay m w es) A = replay-append m w es A in
        let one : Q (es ++ A) = moved k es p (due_front (enquiring e) es A (trace_of m (replay m (replay m w es) A) ks) q) in
        let rest : R (replay m w (es ++ A)) = subst R (sym same) (due_back (enquiring e) es A (trace_of m (replay m (replay m w es) A) ks) q) in
        subst Q (append_assoc es A (trace_of m (replay m (replay m w es) A) ks)) (subst U same (walked ks (es ++ A) one rest))

    -- what holds of what the enquiry has come to, and of the events
    pub holds : (old new : Moment W) (ns : List Note) → old.world ≡ w → (g : Going m (enquiring e) old new ns) → P (progress e e.start ns) g.events
    holds old new ns same g =
        let T : List Event = trace_of m w g.turns.moves in
        let D : List Event → Type 0 = λ t. EachDue (enquiring e) [] t in
        let Q : List Event → Type 0 = λ t. P (comes t) t in
        let N : List Note → Type 0 = λ t. P (progress e e.start t) g.events in
        let made : g.events ≡ T = g.turns.made ∙ ap (λ v. trace_of m v g.turns.moves) same in
        subst N g.known (subst Q (sym made) (walked g.turns.moves [] begins (subst D made g.each)))
