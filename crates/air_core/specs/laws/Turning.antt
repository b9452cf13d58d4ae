-- Turns one after another, over any air and any fates: laws of conversations.
use Rattle.std.proofs.Common.{◌≡◌, List, [], ◌∷◌, ◌++◌, true, Option, if◌then◌else◌, refl, sym, ◌∙◌, ap, subst}
use Rattle.std.proofs.Common.{append_assoc}
use Rattle.std.proofs.lemmas.List.{append-nil}
use Rattle.nfc_base.specs.Signal.{Signal}
use Rattle.nfc_base.specs.Trace.{Back, back_of, heard_by}
use Rattle.nfc_base.specs.Trace as backs
use Rattle.nfc_base.specs.declared.event.Event.{Event}
use Rattle.nfc_base.specs.declared.event.Event.TheVariants.{Reset, Request, Answer, Clash}
use Rattle.nfc_base.specs.declared.event.Fate.{Fate}
use Rattle.nfc_base.specs.declared.event.Fate.TheVariants.{Pass, Damage, Lose, Break}
use Rattle.nfc_base.specs.declared.event.Heard.{Heard}
use Rattle.air_core.specs.Joint.{Joint, Nothing, Single, Clashing}
use Rattle.air_core.specs.Conversation.{AirModel, Note, Lit, note, Next, LightUp, Asks, IsDemand, receptions, EachDue}
use Rattle.air_core.specs.Conversation.{first_fate, later_fates, queue_after, FatesFrom, joint_events, joint_back}
use Rattle.air_core.specs.Conversation.{replay, turn_events, turn_heard, Move, Light, Ask, move_events, trace_of}
use Rattle.air_core.specs.Conversation.{AreTurns, Moment, with_events, Going, TurnsTo}

pub queue_after-append : (q : List Fate) (a b : List Event) → queue_after q (a ++ b) ≡ queue_after (queue_after q a) b
queue_after-append q [] b = refl
queue_after-append q (Reset ∷ a) b = queue_after-append q a b
queue_after-append q (Request f x ∷ a) b = queue_after-append (later_fates q) a b
queue_after-append q (Answer f x ∷ a) b = queue_after-append (later_fates q) a b
queue_after-append q (Clash f x ∷ a) b = queue_after-append (later_fates q) a b

pub fates-append : (q : List Fate) (a b : List Event) → FatesFrom q a → FatesFrom (queue_after q a) b
    → FatesFrom q (a ++ b)
fates-append q [] b p r = r
fates-append q (Reset ∷ a) b p r = fates-append q a b p r
fates-append q (Request f x ∷ a) b p r = (p.0, fates-append (later_fates q) a b p.1 r)
fates-append q (Answer f x ∷ a) b p r = (p.0, fates-append (later_fates q) a b p.1 r)
fates-append q (Clash f x ∷ a) b p r = (p.0, fates-append (later_fates q) a b p.1 r)

pub due-append : (next : List Note → Next) (before a b : List Event) → EachDue next before a
    → EachDue next (before ++ a) b → EachDue next before (a ++ b)
due-append next before [] b p q = let P : List Event → Type 0 = λ t. EachDue next t b in subst P (append-nil before) q
due-append next before (Reset ∷ a) b p q = (p.0, due-append next (before ++ Reset ∷ []) a b p.1 (rw append_assoc q))
due-append next before (Request f x ∷ a) b p q =
    (p.0, due-append next (before ++ Request f x ∷ []) a b p.1 (rw append_assoc q))
due-append next before (Answer g x ∷ a) b p q = due-append next (before ++ Answer g x ∷ []) a b p (rw append_assoc q)
due-append next before (Clash g x ∷ a) b p q = due-append next (before ++ Clash g x ∷ []) a b p (rw append_assoc q)

pub back_of-append : (a b : List Event) → back_of b ≡ backs.Nothing → back_of (a ++ b) ≡ back_of a
back_of-append [] b h = h
back_of-append (Reset ∷ a) b h = refl
back_of-append (Request f x ∷ a) b h = refl
back_of-append (Answer g x ∷ a) b h = refl
back_of-append (Clash g x ∷ a) b h = refl

back_of_front : (a b : List Event) → back_of (a ++ b) ≡ backs.Nothing → back_of a ≡ backs.Nothing
back_of_front [] b h = refl
back_of_front (Reset ∷ a) b h = h
back_of_front (Request f x ∷ a) b h = h
back_of_front (Answer g x ∷ a) b h = h
back_of_front (Clash g x ∷ a) b h = h

pub receptions-append : (a b : List Event) → back_of b ≡ backs.Nothing
    → receptions (a ++ b) ≡ receptions a ++ receptions b
receptions-append [] b h = refl
receptions-append (Reset ∷ a) b h = ap (λ t. Lit ∷ t) (receptions-append a b h)
receptions-append (Request f x ∷ a) b h =
    ap (λ t. note (heard_by x (back_of (a ++ b))) ∷ t) (receptions-append a b h)
    ∙ ap (λ t. note (heard_by x t) ∷ (receptions a ++ receptions b)) (back_of-append a b h)
receptions-append (Answer g x ∷ a) b h = receptions-append a b h
receptions-append (Clash g x ∷ a) b h = receptions-append a b h

-- what stands behind a request
joint_back_of : (j : Joint) (y : Fate) → back_of (joint_events j y) ≡ joint_back j y
joint_back_of Nothing y = refl
joint_back_of (Single g) y = refl
joint_back_of (Clashing g) y = refl

joint_notes : (j : Joint) (y : Fate) → receptions (joint_events j y) ≡ []
joint_notes Nothing y = refl
joint_notes (Single g) y = refl
joint_notes (Clashing g) y = refl

joint_due : (next : List Note → Next) (before : List Event) (j : Joint) (y : Fate)
    → EachDue next before (joint_events j y)
joint_due next before Nothing y = tt
joint_due next before (Single g) y = tt
joint_due next before (Clashing g) y = tt

joint_fates : (q : List Fate) (j : Joint) (y : Fate) → y ≡ first_fate q → FatesFrom q (joint_events j y)
joint_fates q Nothing y h = tt
joint_fates q (Single g) y h = (h, tt)
joint_fates q (Clashing g) y h = (h, tt)

-- what one part of a command asks, the command asks
pub due_weaker : (next part : List Note → Next) → ((ns : List Note) (n : Next) → part ns ≡ n → IsDemand n → next ns ≡ n)
    → (before es : List Event) → EachDue part before es → EachDue next before es
due_weaker next part w before [] q = tt
due_weaker next part w before (Reset ∷ es) q =
    (w (receptions before) LightUp q.0 tt, due_weaker next part w (before ++ Reset ∷ []) es q.1)
due_weaker next part w before (Request f x ∷ es) q =
    (w (receptions before) (Asks f) q.0 tt, due_weaker next part w (before ++ Request f x ∷ []) es q.1)
due_weaker next part w before (Answer g x ∷ es) q = due_weaker next part w (before ++ Answer g x ∷ []) es q
due_weaker next part w before (Clash g x ∷ es) q = due_weaker next part w (before ++ Clash g x ∷ []) es q

-- a later part stands behind the events p of the parts before it
pub due_shift : (next part : List Note → Next) (p : List Event)
    → ((b : List Event) → back_of b ≡ backs.Nothing → next (receptions (p ++ b)) ≡ part (receptions b))
    → (before es : List Event) → back_of (before ++ es) ≡ backs.Nothing → EachDue part before es
    → EachDue next (p ++ before) es
due_shift next part p w before [] fresh q = tt
due_shift next part p w before (Reset ∷ es) fresh q = (
  w before (back_of_front before (Reset ∷ es) fresh) ∙ q.0,
  rw append_assoc (due_shift next part p w (before ++ Reset ∷ []) es (rw append_assoc fresh) q.1),
)
due_shift next part p w before (Request f x ∷ es) fresh q = (
  w before (back_of_front before (Request f x ∷ es) fresh) ∙ q.0,
  rw append_assoc (due_shift next part p w (before ++ Request f x ∷ []) es (rw append_assoc fresh) q.1),
)
due_shift next part p w before (Answer f x ∷ es) fresh q =
    rw append_assoc (due_shift next part p w (before ++ Answer f x ∷ []) es (rw append_assoc fresh) q)
due_shift next part p w before (Clash f x ∷ es) fresh q =
    rw append_assoc (due_shift next part p w (before ++ Clash f x ∷ []) es (rw append_assoc fresh) q)

module _ {W : Type 0} (m : AirModel W) where
  pub replay-append : (w : W) (a b : List Event) → replay m w (a ++ b) ≡ replay m (replay m w a) b
  replay-append w [] b = refl
  replay-append w (e ∷ a) b = replay-append (m.happens w e) a b

  pub trace_of-append : (w : W) (ks ns : List (Move m))
      → trace_of m w (ks ++ ns) ≡ trace_of m w ks ++ trace_of m (replay m w (trace_of m w ks)) ns
  trace_of-append w [] ns = refl
  trace_of-append w (k ∷ ks) ns =
      let E : List Event = move_events m w k in
      let v : W = replay m w E in
      ap (λ t. E ++ t) (trace_of-append v ks ns)
      ∙ sym (append_assoc E (trace_of m v ks) (trace_of m (replay m v (trace_of m v ks)) ns))
      ∙ ap (λ u. (E ++ trace_of m v ks) ++ trace_of m u ns) (sym (replay-append w E (trace_of m v ks)))

  pub turns-append : (w : W) (a b : List Event) → AreTurns m w a → AreTurns m (replay m w a) b → AreTurns m w (a ++ b)
  turns-append w a b p q =
      let made : a ++ b ≡ trace_of m w (p.moves ++ q.moves) =
      ap (λ t. a ++ t) q.made ∙ ap (λ t. t ++ trace_of m (replay m w t) q.moves) p.made
      ∙ sym (trace_of-append w p.moves q.moves) in
      record { moves = p.moves ++ q.moves; made = made }

  pub events-append : (a : Moment W) (es fs : List Event)
      → with_events m (with_events m a es) fs ≡ with_events m a (es ++ fs)
  events-append a es fs =
      let M : W → List Fate → List Event → Moment W = λ w q t. record { world = w; queue = q; trace = t } in
      ap (λ w. M w (queue_after (queue_after a.queue es) fs) ((a.trace ++ es) ++ fs))
      (sym (replay-append a.world es fs))
      ∙ ap (λ q. M (replay m a.world (es ++ fs)) q ((a.trace ++ es) ++ fs)) (sym (queue_after-append a.queue es fs))
      ∙ ap (λ t. M (replay m a.world (es ++ fs)) (queue_after a.queue (es ++ fs)) t) (append_assoc a.trace es fs)

  pub going_start : (next : List Note → Next) (a : Moment W) → Going m next a a []
  going_start next a = record {
    events = [];
    moment = let M : List Event → Moment W = λ t. record { world = a.world; queue = a.queue; trace = t } in
        ap M (sym (append-nil a.trace));
    turns = record { moves = []; made = refl };
    each = tt;
    fates = tt;
    fresh = refl;
    known = refl;
  }

  -- a move whose events are fs is made
  going_more : (next : List Note → Next) (old a b : Moment W) (hs ns : List Note) (k : Move m) (fs : List Event)
      → (g : Going m next old a hs) → b ≡ with_events m a fs → move_events m a.world k ≡ fs
      → back_of fs ≡ backs.Nothing → receptions fs ≡ ns → EachDue next g.events fs → FatesFrom a.queue fs
      → Going m next old b (hs ++ ns)
  going_more next old a b hs ns k fs g moment made fresh notes due fates =
      let F : List Fate → Type 0 = λ x. FatesFrom x fs in
      let world : a.world ≡ replay m old.world g.events = ap (λ (t : Moment W). t.world) g.moment in
      let queue : a.queue ≡ queue_after old.queue g.events = ap (λ (t : Moment W). t.queue) g.moment in
      record {
        events = g.events ++ fs;
        moment = moment ∙ ap (λ t. with_events m t fs) g.moment ∙ events-append old g.events fs;
        turns = turns-append old.world g.events fs g.turns
            (record { moves = k ∷ []; made = sym (append-nil _ ∙ ap (λ x. move_events m x k) (sym world) ∙ made) });
        each = due-append next [] g.events fs g.each due;
        fates = fates-append old.queue g.events fs g.fates (subst F queue fates);
        fresh = back_of-append g.events fs fresh ∙ g.fresh;
        known = receptions-append g.events fs fresh ∙ ap (λ x. x ++ receptions fs) g.known ∙ ap (λ x. hs ++ x) notes;
      }

  -- the field was reset
  pub going_reset : (next : List Note → Next) (old a b : Moment W) (hs : List Note)
      → Going m next old a hs → next hs ≡ LightUp → b ≡ with_events m a (Reset ∷ [])
      → Going m next old b (hs ++ Lit ∷ [])
  going_reset next old a b hs g due moment =
      going_more next old a b hs (Lit ∷ []) Light (Reset ∷ []) g moment refl refl refl (ap next g.known ∙ due, tt) tt

  turn_notes : (w : W) (f : Signal) (x y : Fate) → receptions (turn_events m w f x y) ≡ note (turn_heard m w f x y) ∷ []
  turn_notes w f Pass y =
      ap (λ t. note (heard_by Pass (back_of (joint_events (m.joint w f) y))) ∷ t) (joint_notes (m.joint w f) y)
      ∙ ap (λ t. note (heard_by Pass t) ∷ []) (joint_back_of (m.joint w f) y)
  turn_notes w f Damage y = refl
  turn_notes w f Lose y = refl
  turn_notes w f Break y = refl

  turn_due : (next : List Note → Next) (before : List Event) (w : W) (f : Signal) (x y : Fate)
      → next (receptions before) ≡ Asks f → EachDue next before (turn_events m w f x y)
  turn_due next before w f Pass y h = (h, joint_due next (before ++ Request f Pass ∷ []) (m.joint w f) y)
  turn_due next before w f Damage y h = (h, tt)
  turn_due next before w f Lose y h = (h, tt)
  turn_due next before w f Break y h = (h, tt)

  turn_fates : (q : List Fate) (w : W) (f : Signal) (x y : Fate) → x ≡ first_fate q → y ≡ first_fate (later_fates q)
      → FatesFrom q (turn_events m w f x y)
  turn_fates q w f Pass y h k = (h, joint_fates (later_fates q) (m.joint w f) y k)
  turn_fates q w f Damage y h k = (h, tt)
  turn_fates q w f Lose y h k = (h, tt)
  turn_fates q w f Break y h k = (h, tt)

  turn_fresh : (w : W) (f : Signal) (x y : Fate) → back_of (turn_events m w f x y) ≡ backs.Nothing
  turn_fresh w f Pass y = refl
  turn_fresh w f Damage y = refl
  turn_fresh w f Lose y = refl
  turn_fresh w f Break y = refl

  -- a turn was made, whatever its fates
  pub going_turn : (next : List Note → Next) (old a b : Moment W) (f : Signal) (h : Option Heard) (hs : List Note)
      → Going m next old a hs → next hs ≡ Asks f → TurnsTo m a b f h → Going m next old b (hs ++ note h ∷ [])
  going_turn next old a b f h hs g due turn =
      let x : Fate = first_fate a.queue in
      let y : Fate = first_fate (later_fates a.queue) in
      let lit : m.lit a.world ≡ true = turn.lit in
      going_more next old a b hs (note h ∷ []) (Ask f x y) (turn_events m a.world f x y) g turn.moment
      (ap (λ v. if v then turn_events m a.world f x y else []) lit) (turn_fresh a.world f x y)
      (turn_notes a.world f x y ∙ ap (λ t. note t ∷ []) (sym turn.heard))
      (turn_due next g.events a.world f x y (ap next g.known ∙ due)) (turn_fates a.queue a.world f x y refl refl)

  -- two parts of a command, one after the other
  pub going_then : (next first second : List Note → Next) (a b c : Moment W) (hs ks : List Note)
      → ((ns : List Note) (n : Next) → first ns ≡ n → IsDemand n → next ns ≡ n)
      → ((ns : List Note) → next (hs ++ ns) ≡ second ns)
      → Going m first a b hs → Going m second b c ks → Going m next a c (hs ++ ks)
  going_then next first second a b c hs ks one two g k =
      let world : b.world ≡ replay m a.world g.events = ap (λ (t : Moment W). t.world) g.moment in
      let queue : b.queue ≡ queue_after a.queue g.events = ap (λ (t : Moment W). t.queue) g.moment in
      let T : W → Type 0 = λ w. AreTurns m w k.events in
      let F : List Fate → Type 0 = λ q. FatesFrom q k.events in
      let D : List Event → Type 0 = λ t. EachDue next t k.events in
      let after : (t : List Event) → back_of t ≡ backs.Nothing
      → next (receptions (g.events ++ t)) ≡ second (receptions t) =
      λ t fresh. ap next (receptions-append g.events t fresh ∙ ap (λ r. r ++ receptions t) g.known)
      ∙ two (receptions t) in
      record {
        events = g.events ++ k.events;
        moment = k.moment ∙ ap (λ t. with_events m t k.events) g.moment ∙ events-append a g.events k.events;
        turns = turns-append a.world g.events k.events g.turns (subst T world k.turns);
        each = due-append next [] g.events k.events (due_weaker next first one [] g.events g.each)
            (subst D (append-nil g.events) (due_shift next second g.events after [] k.events k.fresh k.each));
        fates = fates-append a.queue g.events k.events g.fates (subst F queue k.fates);
        fresh = back_of-append g.events k.events k.fresh ∙ g.fresh;
        known = receptions-append g.events k.events k.fresh ∙ ap (λ t. t ++ receptions k.events) g.known
            ∙ ap (λ t. hs ++ t) k.known;
      }
